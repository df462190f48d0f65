-- Which limits a packet is within: a packet comes with the list of those that it passes.
use Rattle.std.specs.Prelude.{List, Bool, true, false, ◌==◌, ◌&&◌}
use Rattle.std.specs.List.{list_any}
use Rattle.fw_addr.specs.declared.limit.Limit.{Limit}
use Rattle.fw_addr.specs.declared.limit.Unit.{Unit}
use Rattle.fw_addr.specs.declared.limit.Unit.TheVariants as unit

abbrev pub is_same_unit : Unit → Unit → Bool
is_same_unit unit.Second unit.Second = true
is_same_unit unit.Minute unit.Minute = true
is_same_unit unit.Hour unit.Hour = true
is_same_unit unit.Day unit.Day = true
is_same_unit one other = false

abbrev pub is_same_limit : Limit → Limit → Bool
is_same_limit one other = one.count == other.count && is_same_unit one.unit other.unit

abbrev pub is_within : Limit → List Limit → Bool
is_within limit passed = list_any (is_same_limit limit) passed
