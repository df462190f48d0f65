-- No zone before lists the entry.
use Rattle.std.proofs.Common.{ℕ, ◌<◌}
use Rattle.fw_zone.specs.Bindings.{IsListedAt}
use Rattle.fw_zone.proofs.bindings.zone_of.Given as goal

abbrev pub invariant-loop-place : goal.invariant-loop-place
invariant-loop-place g l = (before : ℕ) → before < l.place → ¬ (IsListedAt g.T.Entry.of g.T.Entry.with l.zones before l.entry)
