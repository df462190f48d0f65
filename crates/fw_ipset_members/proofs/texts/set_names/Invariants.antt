-- The names so far.
use Rattle.std.proofs.Common.{◌≡◌, take, map}
use Rattle.fw_ipset_members.proofs.texts.set_names.Given as goal

abbrev pub invariant-loop-set : goal.invariant-loop-set
invariant-loop-set l = l.names ≡ map (λ set. set.name) (take l.set-index l.sets)
