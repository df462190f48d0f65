-- The way of a packet in the filter alone, as a compiler follows it that has no rules yet for marks, translation, masquerade and lines of
-- denied packets: it is routed, and what the settings in the filter decide is its verdict. `Way.antt` has the whole way.
use Rattle.std.specs.Prelude.{ℕ, List, [], ◌∷◌, codes, false, Option, None, Some, unwrap_or, if◌then◌else◌}
use Rattle.fw_hits.specs.Bindings.{egress, ingress}
use Rattle.fw_hits.specs.Plain.{is_icmp}
use Rattle.fw_model.specs.Packets.{came_by}
use Rattle.fw_model.specs.declared.config.Config.{Config}
use Rattle.fw_model.specs.declared.outcome.Outcome.{Outcome}
use Rattle.fw_model.specs.declared.outcome.Verdict.{Verdict}
use Rattle.fw_model.specs.declared.outcome.Verdict.TheVariants as verdict
use Rattle.fw_model.specs.declared.packet.Origin.{Origin}
use Rattle.fw_model.specs.declared.packet.Origin.TheVariants as origin
use Rattle.fw_model.specs.declared.packet.Packet.{Packet}
use Rattle.fw_model.specs.declared.packet.Via.{Via}
use Rattle.fw_model.specs.declared.packet.Via.TheVariants as via
use Rattle.fw_model.specs.declared.runtime.Runtime.{Runtime}
use Rattle.fw_model.specs.declared.zone.Zone.{Zone}
use Rattle.fw_model.specs.declared.zone.ZoneTarget.{ZoneTarget}
use Rattle.fw_model.specs.declared.zone.ZoneTarget.TheVariants as target
use Rattle.fw_verdict.specs.Items.{accepted}
use Rattle.fw_verdict.specs.Policies.End.{at_host, in_zone}
use Rattle.fw_verdict.specs.Walk.{Item, Walked, in_turn, walk}
use Rattle.fw_verdict.specs.Walk.Effect.{decide}
use Rattle.fw_verdict.specs.Way.{decided_as, forward_walk, from_host, is_invalid, known_item, panicked, policies_before, policies_behind, reject, route, target_forwarded, zone_walk}

-- What is decided without any zone's settings.
abbrev pub early_items : List Item
early_items =
    known_item
    ∷ accepted (λ packet. packet.dnat)
    ∷ accepted (λ packet. came_by (codes "lo") packet.origin)
    ∷ record { hits = λ packet. is_invalid packet.state; effect = decide verdict.Drop }
    ∷ []

-- A zone's target, for packets to the host.
abbrev pub target_to_host : ZoneTarget → Packet → Verdict
target_to_host target.Accept packet = verdict.Accept
target_to_host target.Drop packet = verdict.Drop
target_to_host target.Reject packet = reject
target_to_host target.Default packet = if is_icmp packet then verdict.Accept else reject

abbrev pub to_host_end : Packet → Option Zone → Walked
to_host_end packet None = decided_as verdict.Drop
to_host_end packet (Some zone) = decided_as (target_to_host zone.target packet)

abbrev pub to_host : Config → Packet → Walked
to_host config packet =
    in_turn
    (walk early_items packet
    ∷ policies_before config packet (in_zone (ingress config packet)) at_host
    ∷ zone_walk config packet (ingress config packet)
    ∷ policies_behind config packet (in_zone (ingress config packet)) at_host
    ∷ to_host_end packet (ingress config packet)
    ∷ [])

abbrev pub forwarded_end : Option Zone → Walked
forwarded_end None = decided_as verdict.Drop
forwarded_end (Some zone) = decided_as (target_forwarded zone.target)

abbrev pub forwarded : Config → Packet → List ℕ → Walked
forwarded config packet name =
    in_turn
    (walk early_items packet
    ∷ policies_before config packet (in_zone (ingress config packet)) (in_zone (egress config packet name))
    ∷ forward_walk (ingress config packet) (egress config packet name)
    ∷ policies_behind config packet (in_zone (ingress config packet)) (in_zone (egress config packet name))
    ∷ forwarded_end (ingress config packet)
    ∷ [])

abbrev pub filtered : Config → Packet → Origin → Via → Walked
filtered config packet (origin.Link from) via.Local = to_host config packet
filtered config packet (origin.Link from) (via.Link name) = forwarded config packet name
filtered config packet origin.Host via.Local = from_host config packet (codes "lo")
filtered config packet origin.Host (via.Link name) = from_host config packet name

abbrev pub filter_passed : Config → Packet → Outcome
filter_passed config packet =
    let filter = filtered config packet packet.origin (route packet) in
    record { verdict = unwrap_or filter.decided verdict.Drop; mark = packet.mark; dnat = None; masquerade = false; logs = filter.logs }

-- What becomes of a packet in the filter.
abbrev pub filter_way : Runtime → Packet → Outcome
filter_way runtime packet = if runtime.panic then panicked packet else filter_passed runtime.config packet
