-- What is done with the packets of a zone, or of two, behind what is done with all packets of a hook: the steps of `Way.antt` once
-- their zones are known.
use Rattle.std.specs.Prelude.{[], ◌∷◌, Some}
use Rattle.fw_model.specs.declared.config.Config.{Config}
use Rattle.fw_model.specs.declared.outcome.Verdict.TheVariants as verdict
use Rattle.fw_model.specs.declared.packet.Packet.{Packet}
use Rattle.fw_model.specs.declared.zone.Zone.{Zone}
use Rattle.fw_verdict.specs.Policies.{policies_at}
use Rattle.fw_verdict.specs.Policies.End.{at_host, in_zone}
use Rattle.fw_verdict.specs.Walk.{Walked, in_turn}
use Rattle.fw_verdict.specs.Way.{decided_as, forward_walk, forwarded_end, policies_before, policies_behind, to_host_end, zone_walk}
use Rattle.fw_verdict.specs.declared.policies.Stage.TheVariants as stage
use Rattle.lower_hooks.specs.Work.{PoliciesStand, ZoneStands}
use Rattle.nf_rules.specs.declared.ruleset.Ruleset.{Ruleset}

-- from a zone to the host
abbrev pub zone_to_host : Config → Zone → Packet → Walked
zone_to_host config zone packet =
    in_turn
    (policies_before config packet (in_zone (Some zone)) at_host
    ∷ zone_walk config packet (Some zone)
    ∷ policies_behind config packet (in_zone (Some zone)) at_host
    ∷ to_host_end config packet (Some zone)
    ∷ [])

-- from a zone to a zone
abbrev pub zone_to_zone : Config → Zone → Zone → Packet → Walked
zone_to_zone config from to packet =
    in_turn
    (policies_before config packet (in_zone (Some from)) (in_zone (Some to))
    ∷ forward_walk (Some from) (Some to)
    ∷ policies_behind config packet (in_zone (Some from)) (in_zone (Some to))
    ∷ forwarded_end config packet (Some from)
    ∷ [])

-- from the host to a zone
abbrev pub host_to_zone : Config → Zone → Packet → Walked
host_to_zone config zone packet =
    in_turn
    (policies_before config packet at_host (in_zone (Some zone))
    ∷ policies_behind config packet at_host (in_zone (Some zone))
    ∷ decided_as verdict.Accept
    ∷ [])

-- the chains of settings to which these lead
pub record InputStands (config : Config) (zone : Zone) (table : Ruleset) : Type 0 where
  pub before : PoliciesStand config table (policies_at config stage.BeforeZone (in_zone (Some zone)) at_host)
  pub settings : ZoneStands config table zone
  pub behind : PoliciesStand config table (policies_at config stage.BehindZone (in_zone (Some zone)) at_host)

pub record ForwardStands (config : Config) (from to : Zone) (table : Ruleset) : Type 0 where
  pub before : PoliciesStand config table (policies_at config stage.BeforeZone (in_zone (Some from)) (in_zone (Some to)))
  pub behind : PoliciesStand config table (policies_at config stage.BehindZone (in_zone (Some from)) (in_zone (Some to)))

pub record OutputStands (config : Config) (zone : Zone) (table : Ruleset) : Type 0 where
  pub before : PoliciesStand config table (policies_at config stage.BeforeZone at_host (in_zone (Some zone)))
  pub behind : PoliciesStand config table (policies_at config stage.BehindZone at_host (in_zone (Some zone)))
