-- The way of a packet through the firewall, in eight steps: panic, marks, translation, routing; then what becomes of a
-- packet to the host, of a forwarded one or of one from the host; then postrouting (firewalld.zone(5), firewalld.policies(5);
-- nft(8), "ADDRESS FAMILIES", has the hooks at which these stand).
use Rattle.std.specs.Prelude.{ℕ, List, [], ◌++◌, ◌∷◌, codes, Bool, true, false, not, ◌&&◌, Option, None, Some, unwrap_or, if◌then◌else◌}
use Rattle.std.specs.List.{find}
use Rattle.std.specs.Option.{option_map}
use Rattle.std.specs.Str.{bytes_eq}
use Rattle.fw_addr.specs.Subnets.{in_net}
use Rattle.fw_addr.specs.declared.addr.Addr.{Addr}
use Rattle.fw_addr.specs.declared.dnat.Dnat.{Dnat}
use Rattle.fw_addr.specs.declared.log.LogLine.{LogLine}
use Rattle.fw_addr.specs.declared.packet.CtState.{CtState}
use Rattle.fw_addr.specs.declared.packet.CtState.TheVariants as state
use Rattle.fw_addr.specs.declared.reject.RejectType.TheVariants.{IcmpxAdminProhibited}
use Rattle.fw_model.specs.Packets.{came_by}
use Rattle.fw_model.specs.declared.config.Config.{Config}
use Rattle.fw_model.specs.declared.outcome.Outcome.{Outcome}
use Rattle.fw_model.specs.declared.outcome.Verdict.{Verdict}
use Rattle.fw_model.specs.declared.outcome.Verdict.TheVariants as verdict
use Rattle.fw_model.specs.declared.packet.Origin.{Origin}
use Rattle.fw_model.specs.declared.packet.Origin.TheVariants as origin
use Rattle.fw_model.specs.declared.packet.Packet.{Packet}
use Rattle.fw_model.specs.declared.packet.Via.{Via}
use Rattle.fw_model.specs.declared.packet.Via.TheVariants as via
use Rattle.fw_model.specs.declared.runtime.Runtime.{Runtime}
use Rattle.fw_model.specs.declared.zone.Zone.{Zone}
use Rattle.fw_model.specs.declared.zone.ZoneTarget.{ZoneTarget}
use Rattle.fw_model.specs.declared.zone.ZoneTarget.TheVariants as target
use Rattle.fw_hits.specs.Bindings.{egress, ingress}
use Rattle.fw_hits.specs.Plain.{is_icmp}
use Rattle.fw_verdict.specs.Changes.{Passing, first_passing, through}
use Rattle.fw_verdict.specs.Denied.{denial, denial_item, drop_prefix, final_prefix, forward_front, input_front, invalid_prefix, is_told, reject_prefix}
use Rattle.fw_verdict.specs.Items.{accepted, items}
use Rattle.fw_verdict.specs.Policies.{End, policies}
use Rattle.fw_verdict.specs.Policies.End.{at_host, in_zone}
use Rattle.fw_verdict.specs.Sides.{entering, leaving_by}
use Rattle.fw_verdict.specs.Walk.{Item, Walked, in_turn, nothing, silently, walk}
use Rattle.fw_verdict.specs.Walk.Effect.{decide, log}
use Rattle.fw_verdict.specs.declared.policies.Stage.TheVariants as stage
use Rattle.fw_verdict.specs.declared.sides.Side.TheVariants as side

-- 1. Panic (firewalld.dbus(5), `enablePanicMode`): every packet is dropped, with its own mark, and nothing else is done.
abbrev pub panicked : Packet → Outcome
panicked packet = record { verdict = verdict.Drop; mark = packet.mark; dnat = None; masquerade = false; logs = [] }

-- 2. Marks, of a packet that came by an interface. One of the host keeps its own.
abbrev pub marked_from : Config → Origin → Passing → Passing
marked_from config origin.Host now = now
marked_from config (origin.Link name) now = (through (entering config side.Marked now.packet) now).now

abbrev pub marked : Config → Passing → Passing
marked config now = marked_from config now.packet.origin now

-- 3. Translation of the destination, of a packet that came by an interface and begins a connection. One of the host keeps its own.
abbrev pub is_new : CtState → Bool
is_new state.New = true
is_new state.Established = false
is_new state.Related = false
is_new state.Invalid = false

abbrev pub translated_from : Config → Origin → Passing → Passing
translated_from config origin.Host now = now
translated_from config (origin.Link name) now =
    if is_new now.packet.state then (through (entering config side.Translated now.packet) now).now else now

abbrev pub translated : Config → Passing → Passing
translated config now = translated_from config now.packet.origin now

-- 4. Routing. The first route whose net holds the destination says where the packet goes; without one it goes to the host.
abbrev pub route : Packet → Via
route packet = unwrap_or (option_map (λ entry. entry.1) (find (λ entry. in_net entry.0 packet.dst) packet.routes)) via.Local

-- a translation without an address sends the packet to the host
abbrev pub sends_to : Option Addr → Via → Via
sends_to None routed = via.Local
sends_to (Some address) routed = routed

abbrev pub routed_by : Option Dnat → Via → Via
routed_by None routed = routed
routed_by (Some dnat) routed = sends_to dnat.addr routed

abbrev pub routed : Passing → Via
routed now = routed_by now.dnat (route now.packet)

-- What is decided without any zone's settings, here and where it is forwarded: packets of connections that were let in
-- (nft(8), CONNTRACK EXPRESSIONS, `ct state`), those whose connection's destination is translated (`ct status dnat`), and the
-- host's own by `lo` are accepted; packets of no connection are dropped, behind a line where denied packets are told of.
abbrev pub is_known : CtState → Bool
is_known state.New = false
is_known state.Established = true
is_known state.Related = true
is_known state.Invalid = false

abbrev pub is_invalid : CtState → Bool
is_invalid state.New = false
is_invalid state.Established = false
is_invalid state.Related = false
is_invalid state.Invalid = true

abbrev pub known_item : Item
known_item = accepted (λ packet. is_known packet.state)

abbrev pub invalid_items : Config → List Item
invalid_items config =
    record { hits = λ packet. is_invalid packet.state && is_told config.log_denied packet.pkt; effect = log (denial invalid_prefix) }
    ∷ record { hits = λ packet. is_invalid packet.state; effect = decide verdict.Drop }
    ∷ []

abbrev pub early_items : Config → List Item
early_items config =
    known_item
    ∷ accepted (λ packet. packet.dnat)
    ∷ accepted (λ packet. came_by (codes "lo") packet.origin)
    ∷ invalid_items config

-- this is decided, and nothing logged
abbrev pub decided_as : Verdict → Walked
decided_as chosen = silently (Some chosen)

abbrev pub reject : Verdict
reject = verdict.Reject IcmpxAdminProhibited

-- Policies from one end to another, those that come before the zone's settings and those that come behind them.
abbrev pub policies_before : Config → Packet → End → End → Walked
policies_before config packet from to = policies config stage.BeforeZone packet from to

abbrev pub policies_behind : Config → Packet → End → End → Walked
policies_behind config packet from to = policies config stage.BehindZone packet from to

-- 5. To the host. The settings of the zone that the packet comes from.
abbrev pub zone_walk : Config → Packet → Option Zone → Walked
zone_walk config packet None = nothing
zone_walk config packet (Some zone) = walk (items config zone.rules zone.inversion) packet

-- The zone's target (firewalld.zone(5), `target`), for what nothing else decided. Under `default` packets are rejected.
abbrev pub target_forwarded : ZoneTarget → Verdict
target_forwarded target.Accept = verdict.Accept
target_forwarded target.Drop = verdict.Drop
target_forwarded target.Reject = reject
target_forwarded target.Default = reject

-- the line before what it denies, where denied packets are told of
abbrev pub target_lines : Config → (front name : List ℕ) → ZoneTarget → List Item
target_lines config front name target.Accept = []
target_lines config front name target.Drop = denial_item config (drop_prefix front name) ∷ []
target_lines config front name target.Reject = denial_item config (reject_prefix front name) ∷ []
target_lines config front name target.Default = denial_item config final_prefix ∷ []

-- Under `default` ICMP to the host is accepted before.
abbrev pub icmp_accepted : ZoneTarget → List Item
icmp_accepted target.Accept = []
icmp_accepted target.Drop = []
icmp_accepted target.Reject = []
icmp_accepted target.Default = accepted is_icmp ∷ []

-- A packet of no zone is dropped. There is one only where the default zone isn't there.
abbrev pub to_host_end : Config → Packet → Option Zone → Walked
to_host_end config packet None = decided_as verdict.Drop
to_host_end config packet (Some zone) =
    in_turn
    (walk (icmp_accepted zone.target) packet
    ∷ walk (target_lines config input_front zone.name zone.target) packet
    ∷ decided_as (target_forwarded zone.target)
    ∷ [])

abbrev pub to_host : Config → Packet → Walked
to_host config packet =
    in_turn
    (walk (early_items config) packet
    ∷ policies_before config packet (in_zone (ingress config packet)) at_host
    ∷ zone_walk config packet (ingress config packet)
    ∷ policies_behind config packet (in_zone (ingress config packet)) at_host
    ∷ to_host_end config packet (ingress config packet)
    ∷ [])

-- 6. Forwarded: packets may go from a zone to the zone itself where it says `forward` (firewalld.zone(5)).
abbrev pub stays_within : Option Zone → Option Zone → Bool
stays_within (Some from) (Some to) = bytes_eq from.name to.name && from.forward
stays_within (Some from) None = false
stays_within None to = false

abbrev pub forward_walk : Option Zone → Option Zone → Walked
forward_walk from to = if stays_within from to then decided_as verdict.Accept else nothing

-- The target of the zone that the packet comes from. Under `default` ICMP is rejected, too.
abbrev pub forwarded_end : Config → Packet → Option Zone → Walked
forwarded_end config packet None = decided_as verdict.Drop
forwarded_end config packet (Some zone) =
    in_turn
    (walk (target_lines config forward_front zone.name zone.target) packet
    ∷ decided_as (target_forwarded zone.target)
    ∷ [])

abbrev pub forwarded : Config → Packet → List ℕ → Walked
forwarded config packet name =
    in_turn
    (walk (early_items config) packet
    ∷ policies_before config packet (in_zone (ingress config packet)) (in_zone (egress config packet name))
    ∷ forward_walk (ingress config packet) (egress config packet name)
    ∷ policies_behind config packet (in_zone (ingress config packet)) (in_zone (egress config packet name))
    ∷ forwarded_end config packet (ingress config packet)
    ∷ [])

-- 7. From the host: packets of connections that were let in and those that leave by `lo` are accepted, and all others behind the
-- policies from the host, of which no zone stands between.
abbrev pub lo_walk : List ℕ → Walked
lo_walk name = if bytes_eq name (codes "lo") then decided_as verdict.Accept else nothing

abbrev pub from_host : Config → Packet → List ℕ → Walked
from_host config packet name =
    in_turn
    (walk (known_item ∷ []) packet
    ∷ lo_walk name
    ∷ policies_before config packet at_host (in_zone (egress config packet name))
    ∷ policies_behind config packet at_host (in_zone (egress config packet name))
    ∷ decided_as verdict.Accept
    ∷ [])

-- Which of the three it is. A packet of the host that goes to the host leaves by `lo`.
abbrev pub filtered : Config → Packet → Origin → Via → Walked
filtered config packet (origin.Link from) via.Local = to_host config packet
filtered config packet (origin.Link from) (via.Link name) = forwarded config packet name
filtered config packet origin.Host via.Local = from_host config packet (codes "lo")
filtered config packet origin.Host (via.Link name) = from_host config packet name

-- 8. Postrouting, of a packet that was accepted, begins a connection and leaves by an interface other than `lo`: by the zone that it goes
-- to it may leave with the host's own address, whether it is forwarded or the host's own.
abbrev pub leaves_by : Origin → Via → Option (List ℕ)
leaves_by (origin.Link from) via.Local = None
leaves_by (origin.Link from) (via.Link name) = Some name
leaves_by origin.Host via.Local = Some (codes "lo")
leaves_by origin.Host (via.Link name) = Some name

abbrev pub is_accept : Verdict → Bool
is_accept verdict.Accept = true
is_accept verdict.Drop = false
is_accept (verdict.Reject type) = false

abbrev pub may_masquerade : Verdict → CtState → List ℕ → Bool
may_masquerade chosen state name = is_accept chosen && (is_new state && not (bytes_eq name (codes "lo")))

abbrev pub postrouted : Config → Verdict → Option (List ℕ) → Passing → Passing
postrouted config chosen None now = now
postrouted config chosen (Some name) now =
    if may_masquerade chosen now.packet.state name then (through (leaving_by config now.packet name) now).now else now

-- what becomes of a packet, at the end
abbrev pub outcome_of : Verdict → Passing → Outcome
outcome_of chosen now =
    record { verdict = chosen; mark = now.packet.mark; dnat = now.dnat; masquerade = now.masquerade; logs = now.logs }

abbrev pub with_lines : List LogLine → Passing → Passing
with_lines lines now = record now { logs = now.logs ++ lines }

-- The steps from 4 on, one after another. What is refused keeps its mark and its translation.
abbrev pub routed_on : Config → Via → Passing → Outcome
routed_on config leaving now =
    let filter = filtered config now.packet now.packet.origin leaving in
    let chosen = unwrap_or filter.decided verdict.Drop in
    outcome_of chosen (postrouted config chosen (leaves_by now.packet.origin leaving) (with_lines filter.logs now))

abbrev pub behind_prerouting : Config → Passing → Outcome
behind_prerouting config now = routed_on config (routed now) now

-- the steps from 2 on
abbrev pub passed : Config → Packet → Outcome
passed config packet = behind_prerouting config (translated config (marked config (first_passing packet)))

-- What becomes of a packet.
abbrev pub way : Runtime → Packet → Outcome
way runtime packet = if runtime.panic then panicked packet else passed runtime.config packet
