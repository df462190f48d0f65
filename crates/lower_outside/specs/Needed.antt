-- Which settings do anything outside the filter.
use Rattle.std.specs.Prelude.{◌≡◌, ◌==◌, [], length, Bool, false, not, ◌||◌}
use Rattle.std.specs.List.{list_any}
use Rattle.fw_model.specs.declared.config.Config.{Config}
use Rattle.fw_model.specs.declared.rules.Rules.{Rules}
use Rattle.fw_verdict.specs.Outside.{stands_at}
use Rattle.fw_verdict.specs.Sides.{side_items}
use Rattle.fw_verdict.specs.declared.outside.Place.TheVariants as place
use Rattle.fw_verdict.specs.declared.sides.Side.{Side}
use Rattle.fw_verdict.specs.declared.sides.Side.TheVariants as side

abbrev pub has_changes : Side → Rules → Bool
has_changes side.Marked rules = list_any (stands_at place.Marks) rules.rich
has_changes side.Translated rules =
    not (length rules.forwards == 0) || (list_any (stands_at place.ForwardsBefore) rules.rich || list_any (stands_at place.ForwardsBehind) rules.rich)
has_changes side.Leaving rules = rules.masquerade || list_any (stands_at place.Masquerades) rules.rich

-- A law: settings that have nothing on a side do nothing there.
abbrev pub OthersDoNothing : Type 0
OthersDoNothing = (config : Config) (of : Side) (rules : Rules) → has_changes of rules ≡ false → side_items config of rules ≡ []
