use Rattle.std.proofs.Common.{◌≡◌, ◌++◌, map, take}
use Rattle.nf_rules.specs.declared.command.Command.TheVariants as command
use Rattle.nf_replace.proofs.transaction.put_maps.Given as goal

abbrev pub invariant-loop-map : goal.invariant-loop-map
invariant-loop-map l = l.commands ≡ l.initial.commands ++ map command.PutMap (take l.map-index l.initial.maps)
