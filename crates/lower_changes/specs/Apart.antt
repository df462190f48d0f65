-- Laws of names.
use Rattle.std.specs.Prelude.{◌≢◌, List, get_or, map}
use Rattle.std.specs.List.{AllPairs}
use Rattle.fw_model.specs.declared.config.Config.{Config}
use Rattle.fw_model.specs.declared.policy.Policy.{Policy}
use Rattle.fw_model.specs.declared.zone.Zone.{Zone}
use Rattle.fw_valid.specs.Each.{IsWithoutRepeats}
use Rattle.fw_verdict.specs.declared.sides.Side.{Side}
use Rattle.fw_zone.specs.Lists.{IsIn}
use Rattle.lower_changes.specs.Sides.{IsSide}
use Rattle.nf_rules.specs.declared.chain.Chain.{Chain}

-- Where no two zones and no two policies share a name, no two chains of a side do.
abbrev pub ChainsApart : Type 0
ChainsApart =
    (config : Config) (of : Side) (zones : List Zone) (chains : List Chain)
    → IsSide config of zones chains
    → IsWithoutRepeats (map (λ (zone : Zone). zone.name) zones)
    → IsWithoutRepeats (map (λ (policy : Policy). policy.name) config.policies)
    → AllPairs (λ one other. one.name ≢ other.name) chains

-- Chains of two sides never share one.
abbrev pub SidesApart : Type 0
SidesApart =
    (config : Config) (of on : Side) (zones : List Zone) (chains others : List Chain)
    → IsSide config of zones chains
    → IsSide config on zones others
    → of ≢ on
    → (chain another : Chain)
    → IsIn chain chains
    → IsIn another others
    → chain.name ≢ another.name

-- The names begin with another letter than those of chains in the filter, which begin with an f.
abbrev pub StandOutside : Type 0
StandOutside =
    (config : Config) (of : Side) (zones : List Zone) (chains : List Chain)
    → IsSide config of zones chains
    → (chain : Chain)
    → IsIn chain chains
    → get_or chain.name 0 0 ≢ 102
