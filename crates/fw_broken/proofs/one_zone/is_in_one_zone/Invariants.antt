-- The zones so far are the first that list their entries.
use Rattle.fw_broken.proofs.OneZone.{FirstUpTo}
use Rattle.fw_broken.proofs.one_zone.is_in_one_zone.Given as goal

abbrev pub invariant-loop-place : goal.invariant-loop-place
invariant-loop-place g l = FirstUpTo g.T.Entry.of g.T.Entry.with l.zones l.place
