-- The rules of a valid configuration in their order, and the first of them that a configuration breaks.
use Rattle.std.specs.Prelude.{◌≡◌, ℕ, List, [], ◌∷◌, Some, slice_get, take}
use Rattle.fw_broken.specs.declared.rule.Rule.{Rule}
use Rattle.fw_broken.specs.declared.rule.Rule.TheVariants as rule
use Rattle.fw_model.specs.declared.config.Config.{Config}
use Rattle.fw_valid.specs.Each.{Each}
use Rattle.fw_valid.specs.Names.{AreNamed, zone_names}
use Rattle.fw_valid.specs.Policies.{IsPolicy}
use Rattle.fw_valid.specs.Rules.{all_rules}
use Rattle.fw_valid.specs.Valid.{AreKnown, AreSets, AreWritten, HasNoRepeats, IsInOneZone}
use Rattle.fw_zone.specs.Bindings.{interfaces_of, sources_of, with_interfaces, with_sources}
use Rattle.fw_zone.specs.Lists.{IsIn}

-- what each rule says: one field of a valid configuration
abbrev pub Holds : Config → Rule → Type 0
Holds config rule.Names = AreNamed config
Holds config rule.DefaultZone = IsIn config.default_zone (zone_names config)
Holds config rule.Interfaces = IsInOneZone interfaces_of with_interfaces config.zones
Holds config rule.Sources = IsInOneZone sources_of with_sources config.zones
Holds config rule.Ipsets = AreSets config
Holds config rule.Known = AreKnown config
Holds config rule.Policies = Each (IsPolicy config) config.policies
Holds config rule.Repeats = HasNoRepeats config
Holds config rule.Written = Each AreWritten (all_rules config)

-- the rules in the order in which they are told, from 1 on
abbrev pub number : Rule → ℕ
number rule.Names = 1
number rule.DefaultZone = 2
number rule.Interfaces = 3
number rule.Sources = 4
number rule.Ipsets = 5
number rule.Known = 6
number rule.Policies = 7
number rule.Repeats = 8
number rule.Written = 9

-- all of them, in this order
abbrev pub rules : List Rule
rules =
    rule.Names ∷ rule.DefaultZone ∷ rule.Interfaces ∷ rule.Sources ∷ rule.Ipsets ∷ rule.Known ∷ rule.Policies ∷ rule.Repeats ∷ rule.Written ∷ []

-- the first of some rules that a configuration doesn't keep
pub record IsFirstAmong (config : Config) (among : List Rule) (rule : Rule) : Type 0 where
  pub place : ℕ
  pub at : slice_get among place ≡ Some rule
  pub broken : ¬ (Holds config rule)
  pub kept : Each (Holds config) (take place among)

-- the first of all
abbrev pub IsFirstBroken : Config → Rule → Type 0
IsFirstBroken config rule = IsFirstAmong config rules rule
