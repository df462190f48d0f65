-- What the chains of a side ask of a ruleset that they stand in, and how far they lead.
use Rattle.std.specs.Prelude.{◌≡◌, ◌≤◌, ℕ, List, true}
use Rattle.std.specs.List.{list_all}
use Rattle.fw_model.specs.declared.config.Config.{Config}
use Rattle.fw_model.specs.declared.zone.Zone.{Zone}
use Rattle.fw_verdict.specs.declared.sides.Side.{Side}
use Rattle.fw_zone.specs.Lists.{IsIn}
use Rattle.lower_changes.specs.Sides.{IsSide}
use Rattle.lower_dispatch.specs.Uses.{IsUsed}
use Rattle.lower_match.specs.Stands.{EachHasSet}
use Rattle.lower_zone.specs.Evaluates.{EachIsThere}
use Rattle.nf_rules.specs.declared.chain.Chain.{Chain}
use Rattle.nf_rules.specs.declared.ruleset.Ruleset.{Ruleset}
use Rattle.nf_sound.specs.Sound.{Path, rule_stands}

pub record StandIn (table : Ruleset) (chains : List Chain) : Type 0 where
  -- all that their rules name is there
  pub rules_stand : list_all (λ chain. list_all (rule_stands table) chain.rules) chains ≡ true
  -- from the base chain to that of a zone, to that of settings, and to one of its own
  pub short : (chain : Chain) → IsIn chain chains → (links : ℕ) → Path table chain.name links → links ≤ 3

-- A law: the chains of a side stand in every ruleset in which they are there, with the sets of all ipsets.
abbrev pub SidesHold : Type 0
SidesHold =
    (config : Config) (of : Side) (zones : List Zone) (chains : List Chain) (table : Ruleset)
    → IsSide config of zones chains
    → EachIsThere chains table
    → EachHasSet config.ipsets table
    → ((zone : Zone) → IsUsed config zone → IsIn zone zones)
    → StandIn table chains
