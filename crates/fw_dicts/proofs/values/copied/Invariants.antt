-- The names so far.
use Rattle.std.proofs.Common.{◌≡◌, take}
use Rattle.fw_dicts.proofs.values.copied.Given as goal

abbrev pub invariant-loop-name : goal.invariant-loop-name
invariant-loop-name l = l.told ≡ take l.name-index l.names
