-- What an event that a line tells is bounded by.
use Rattle.std.specs.Prelude.{◌<◌, ◌≤◌, ◌^◌}
use Rattle.fw_event_line.specs.declared.line.EventLine.{EventLine}
use Rattle.fw_event_line.specs.declared.line.EventLine.TheVariants as line

abbrev pub IsBounded : EventLine → Type 0
IsBounded (line.Call client asked) = client < 10000
IsBounded (line.End client) = client < 10000
IsBounded (line.Tick now) = now ≤ 2 ^ 62
IsBounded (line.Link up name) = Unit {0}
