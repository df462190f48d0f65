-- No zone so far comes behind the name.
use Rattle.std.proofs.Common.{◌≡◌, ℕ, ◌<◌, false}
use Rattle.fw_zone_calls.specs.Active.{is_behind}
use Rattle.fw_zone_calls.proofs.active.place_for.Given as goal

abbrev pub invariant-loop-place : goal.invariant-loop-place
invariant-loop-place l = (before : ℕ) → before < l.place → is_behind l.zones before l.name ≡ false
