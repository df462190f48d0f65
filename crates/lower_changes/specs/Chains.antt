-- The base chains outside the filter, and the chains of zones behind them.
use Rattle.std.specs.Prelude.{◌≡◌, List, ◌∷◌, ◌++◌, map, pos, negsuc, Some}
use Rattle.fw_model.specs.declared.config.Config.{Config}
use Rattle.fw_model.specs.declared.zone.Zone.{Zone}
use Rattle.fw_verdict.specs.declared.sides.Side.{Side}
use Rattle.fw_verdict.specs.declared.sides.Side.TheVariants as side
use Rattle.lower_changes.specs.Names.{base_name, start}
use Rattle.lower_changes.specs.Rules.{early, zone_rules}
use Rattle.lower_dispatch.specs.Dispatch.{Dispatches}
use Rattle.lower_dispatch.specs.Uses.{LeadToZones}
use Rattle.lower_dispatch.specs.declared.direction.Direction.{Direction}
use Rattle.lower_dispatch.specs.declared.direction.Direction.TheVariants as direction
use Rattle.lower_zone.specs.Forms.{chain_named}
use Rattle.nf_rules.specs.declared.chain.Base.{Base}
use Rattle.nf_rules.specs.declared.chain.Chain.{Chain}
use Rattle.nf_rules.specs.declared.chain.ChainKind.TheVariants as kind
use Rattle.nf_rules.specs.declared.chain.Hook.TheVariants as hook
use Rattle.nf_rules.specs.declared.rule.Rule.{Rule}

-- The places of the three among the chains at their hooks, as firewalld has them: marks, translation of the destination, and of the
-- source.
abbrev pub base_of : Side → Base
base_of side.Marked = record { kind = kind.Filter; hook = hook.Prerouting; priority = negsuc 139 }
base_of side.Translated = record { kind = kind.Nat; hook = hook.Prerouting; priority = negsuc 89 }
base_of side.Leaving = record { kind = kind.Nat; hook = hook.Postrouting; priority = pos 110 }

-- by which of its zones a packet is led there
abbrev pub direction_of : Side → Direction
direction_of side.Marked = direction.Ingress
direction_of side.Translated = direction.Ingress
direction_of side.Leaving = direction.Egress

abbrev pub base_chain : Side → List Rule → Chain
base_chain of rules = record { name = base_name of; base = Some (base_of of); rules = rules }

abbrev pub zone_chain : Config → Side → Zone → Chain
zone_chain config of zone = chain_named (start of ++ zone.name) (zone_rules config of zone)

-- The base chain of a side, which leads packets to the chains of their zones, and these chains.
pub record IsHook (config : Config) (of : Side) (zones : List Zone) (chains : List Chain) : Type 0 where
  pub dispatched : List Rule
  pub dispatches : Dispatches config (direction_of of) (start of) dispatched
  pub leads : LeadToZones config (start of) dispatched
  pub are : chains ≡ base_chain of (early of ++ dispatched) ∷ map (zone_chain config of) zones
