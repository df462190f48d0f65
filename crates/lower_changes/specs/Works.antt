-- What the chains of a side do with packets: the changes of all settings that have this side, as the evaluation of nft(8) has it.
use Rattle.std.specs.Prelude.{◌≡◌, ℕ, List, [], ◌∷◌, codes, Bool, false, if◌then◌else◌, Option, None, Some, is_some}
use Rattle.std.specs.List.{filter}
use Rattle.std.specs.Str.{bytes_eq}
use Rattle.fw_model.specs.declared.config.Config.{Config}
use Rattle.fw_model.specs.declared.outcome.Verdict.TheVariants.{Accept}
use Rattle.fw_model.specs.declared.zone.Zone.{Zone}
use Rattle.fw_verdict.specs.Changes.{Passing, Reached, going_on, through}
use Rattle.fw_verdict.specs.Sides.{all_items}
use Rattle.fw_verdict.specs.declared.sides.Side.{Side}
use Rattle.fw_verdict.specs.declared.sides.Side.TheVariants as side
use Rattle.fw_zone.specs.Lists.{IsIn}
use Rattle.lower_changes.specs.Chains.{base_chain, direction_of}
use Rattle.lower_changes.specs.Sides.{IsSide}
use Rattle.lower_dispatch.specs.Dispatch.{zone_on}
use Rattle.lower_outside.specs.Does.{KeepPackets, moment_of, passing_of}
use Rattle.lower_zone.specs.Evaluates.{EachIsThere, Meeting}
use Rattle.nf_chains.specs.Evaluation.{Ends}
use Rattle.nf_chains.specs.Moments.{Moment}
use Rattle.nf_rules.specs.declared.chain.Chain.{Chain}
use Rattle.nf_rules.specs.declared.rule.Rule.{Rule}
use Rattle.nf_rules.specs.declared.ruleset.Ruleset.{Ruleset}

-- what leaves by the loopback interface keeps its own address
abbrev pub keeps_own : Side → Option (List ℕ) → Bool
keeps_own side.Marked leaving = false
keeps_own side.Translated leaving = false
keeps_own side.Leaving None = false
keeps_own side.Leaving (Some name) = bytes_eq name (codes "lo")

-- what the settings of a side make of a packet of a zone
abbrev pub side_reached : Config → Side → Option (List ℕ) → Zone → Passing → Reached
side_reached config of leaving zone now = if keeps_own of leaving then going_on now else through (all_items config of (Some zone)) now

-- From a moment, the rules of a base chain let the packet on, as it has become.
pub record LetOn (table : Ruleset) (leaving : Option (List ℕ)) (made : List Rule) (now : Moment) (next : Passing) : Type 0 where
  pub looked_at : ℕ
  pub ends : Ends table leaving [] made [] now Accept (moment_of next looked_at)

-- the base chains among chains
abbrev pub bases_of : List Chain → List Chain
bases_of chains = filter (λ chain. is_some chain.base) chains

-- Where there are no chains, the settings change nothing of the packets of these zones. Else one base chain makes all their changes.
-- What they make of a packet is one.
pub data SideWorks (config : Config) (of : Side) (zones : List Zone) (table : Ruleset) (chains : List Chain) : Type 0 where
  idle : chains ≡ [] → ((zone : Zone) → IsIn zone zones → all_items config of (Some zone) ≡ []) → SideWorks config of zones table chains
  full : (rules : List Rule)
      → bases_of chains ≡ base_chain of rules ∷ []
      → ((leaving : Option (List ℕ)) (now : Moment) (zone : Zone)
      → Meeting config table now
      → zone_on (direction_of of) config leaving now.packet ≡ Some zone
      → IsIn zone zones
      → LetOn table leaving rules now (side_reached config of leaving zone (passing_of now)).now)
      → ((zone : Zone) → IsIn zone zones → KeepPackets (all_items config of (Some zone)))
      → SideWorks config of zones table chains

-- A law: the chains of a side work in every ruleset in which they are there.
abbrev pub SidesWork : Type 0
SidesWork =
    (config : Config) (of : Side) (zones : List Zone) (chains : List Chain) (table : Ruleset)
    → IsSide config of zones chains
    → EachIsThere chains table
    → SideWorks config of zones table chains
