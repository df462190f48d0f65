-- A ruleset in which the chains of the three sides stand, and what packets become at prerouting and postrouting.
use Rattle.std.specs.Prelude.{◌≡◌, ℕ, List, [], ◌∷◌, ◌++◌, true, Option, None, Some, IsSome}
use Rattle.fw_hits.specs.Bindings.{default_zone}
use Rattle.fw_model.specs.Packets.{IsPacket}
use Rattle.fw_model.specs.declared.config.Config.{Config}
use Rattle.fw_model.specs.declared.outcome.Verdict.TheVariants.{Accept}
use Rattle.fw_model.specs.declared.packet.Origin.TheVariants as origin
use Rattle.fw_model.specs.declared.zone.Zone.{Zone}
use Rattle.fw_verdict.specs.Changes.{Passing}
use Rattle.fw_verdict.specs.Way.{marked, postrouted, translated}
use Rattle.fw_verdict.specs.declared.sides.Side.TheVariants as side
use Rattle.fw_zone.specs.Lists.{IsIn}
use Rattle.lower_changes.specs.Works.{SideWorks, bases_of}
use Rattle.lower_dispatch.specs.Uses.{IsUsed}
use Rattle.lower_match.specs.Lowers.{EachStands}
use Rattle.lower_outside.specs.Does.{moment_of, passing_of}
use Rattle.nf_chains.specs.Hooks.{Meets, is_at, next_at, runs_before}
use Rattle.nf_chains.specs.Moments.{Moment}
use Rattle.nf_rules.specs.declared.chain.Chain.{Chain}
use Rattle.nf_rules.specs.declared.chain.Hook.{Hook}
use Rattle.nf_rules.specs.declared.chain.Hook.TheVariants as hook
use Rattle.nf_rules.specs.declared.ruleset.Ruleset.{Ruleset}

-- These base chains run at a hook from behind one on, in this order, and no other does.
abbrev pub RunAt : Ruleset → Hook → Option Chain → List Chain → Type 0
RunAt rules at last [] = next_at at last rules.chains ≡ None
RunAt rules at last (chain ∷ chains) = (next_at at last rules.chains ≡ Some chain) × RunAt rules at (Some chain) chains

-- The chains of the sides work in a ruleset, and their base chains alone run at prerouting and postrouting.
pub record SidesStand (config : Config) (zones : List Zone) (rules : Ruleset) (marks targets masks : List Chain) : Type 0 where
  pub marked : SideWorks config side.Marked zones rules marks
  pub translated : SideWorks config side.Translated zones rules targets
  pub leaving : SideWorks config side.Leaving zones rules masks
  pub at_prerouting : RunAt rules hook.Prerouting None (bases_of marks ++ bases_of targets)
  pub at_postrouting : RunAt rules hook.Postrouting None (bases_of masks)
  pub sets : EachStands config.ipsets rules.sets
  -- the zones that packets belong to
  pub used : (zone : Zone) → IsUsed config zone → IsIn zone zones
  pub default : IsSome (default_zone config)

-- A packet passes a hook, and becomes this, which is a packet, too.
pub record Passes (rules : Ruleset) (leaving : Option (List ℕ)) (at : Hook) (now : Moment) (next : Passing) : Type 0 where
  pub looked_at : ℕ
  pub meets : Meets rules leaving at None now Accept (moment_of next looked_at)
  pub packet : IsPacket next.packet

-- A law: at prerouting packets that came by an interface are marked, and then translated.
abbrev pub PreroutingChanges : Type 0
PreroutingChanges =
    (config : Config) (zones : List Zone) (rules : Ruleset) (marks targets masks : List Chain)
    → SidesStand config zones rules marks targets masks
    → (now : Moment) (name : List ℕ)
    → now.packet.origin ≡ origin.Link name
    → IsPacket now.packet
    → Passes rules None hook.Prerouting now (translated config (marked config (passing_of now)))

-- A law: at postrouting packets that were accepted may leave with the host's own address.
abbrev pub PostroutingChanges : Type 0
PostroutingChanges =
    (config : Config) (zones : List Zone) (rules : Ruleset) (marks targets masks : List Chain)
    → SidesStand config zones rules marks targets masks
    → (now : Moment) (name : List ℕ)
    → IsPacket now.packet
    → Passes rules (Some name) hook.Postrouting now (postrouted config Accept (Some name) (passing_of now))

-- each of these runs before all behind it
abbrev pub AreInOrder : List Chain → Type 0
AreInOrder [] = Unit {0}
AreInOrder (chain ∷ chains) = ((other : Chain) → IsIn other chains → runs_before chain other ≡ true) × AreInOrder chains

-- A law: where certain chains, in order, are those at a hook, they run there, and no other does.
abbrev pub BasesRun : Type 0
BasesRun =
    (rules : Ruleset) (at : Hook) (bases : List Chain)
    → ((chain : Chain) → IsIn chain rules.chains → is_at at chain.base ≡ true → IsIn chain bases)
    → ((chain : Chain) → IsIn chain bases → IsIn chain rules.chains)
    → ((chain : Chain) → IsIn chain bases → is_at at chain.base ≡ true)
    → AreInOrder bases
    → RunAt rules at None bases
