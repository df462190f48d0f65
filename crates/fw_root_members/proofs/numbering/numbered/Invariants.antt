-- The objects so far have their numbers.
use Rattle.std.proofs.Common.{◌≡◌, take}
use Rattle.fw_root_members.specs.Numbering.{numbered}
use Rattle.fw_root_members.proofs.numbering.numbered.Given as goal

abbrev pub invariant-loop-object : goal.invariant-loop-object
invariant-loop-object g l = l.made ≡ numbered g.T.Named.name_of l.objects l.numbers l.next (take l.object-index l.new)
