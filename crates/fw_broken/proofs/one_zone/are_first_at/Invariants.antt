-- So far each is first listed there.
use Rattle.std.proofs.Common.{take}
use Rattle.fw_valid.specs.Each.{Each}
use Rattle.fw_zone.specs.Bindings.{IsFirstListed}
use Rattle.fw_broken.proofs.one_zone.are_first_at.Given as goal

abbrev pub invariant-loop-at : goal.invariant-loop-at
invariant-loop-at g l = Each (λ entry. IsFirstListed g.T.Entry.of g.T.Entry.with l.zones l.place entry) (take l.at l.entries)
