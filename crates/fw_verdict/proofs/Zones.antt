-- What the settings of a zone decide, part by part.
use Rattle.std.proofs.Common.{◌≡◌, ℕ, List, ◌++◌, Bool, true, false, ◌&&◌, ◌||◌, not, Option, None, Some, refl, sym, subst, append-nil}
use Rattle.std.specs.Prelude.{is_some}
use Rattle.fw_addr.specs.declared.log.LogLine.{LogLine}
use Rattle.fw_verdict.specs.Given.{Walks}
use Rattle.std.specs.Prelude.{if◌then◌else◌, ◌==◌}
use Rattle.std.specs.List.{list_any}
use Rattle.fw_model.specs.Ports.{port_matches}
use Rattle.fw_model.specs.declared.config.Config.{Config}
use Rattle.fw_model.specs.declared.outcome.Verdict.{Verdict}
use Rattle.fw_model.specs.declared.outcome.Verdict.TheVariants as verdict
use Rattle.fw_model.specs.declared.packet.Packet.{Packet}
use Rattle.fw_model.specs.declared.rules.Rules.{Rules}
use Rattle.fw_model.specs.declared.setting.Setting.TheVariants as setting
use Rattle.fw_hits.specs.Hits.{hits}
use Rattle.fw_hits.specs.Plain.{hits_icmp, is_icmp}
use Rattle.fw_verdict.specs.Items.{all_accepted, icmp_denied, icmp_items, listed_items}
use Rattle.fw_hits.specs.Services.{source_port_matches}
use Rattle.fw_verdict.specs.Walk.{Walked, nothing, or_then, silently, walk}
use Rattle.fw_verdict.specs.Way.{reject}
use Rattle.fw_verdict.proofs.Walks.{walk_either, walk_same}

-- whether a type of this list blocks a packet
abbrev pub blocks : List (List ℕ) → Bool → Packet → Bool
blocks names inversion packet =
    if inversion then is_icmp packet && not (list_any (λ name. hits_icmp name packet) names) else list_any (λ name. hits_icmp name packet) names

-- one item
one : (hit : Bool) (chosen : Verdict) → or_then (if hit then silently (Some chosen) else nothing).decided (if hit then silently (Some chosen) else nothing).logs nothing ≡ silently (if hit then Some chosen else None)
one true chosen = refl
one false chosen = refl

pub denied : (config : Config) (rules : Rules) (inversion : Bool) (packet : Packet)
    → walk (icmp_denied config rules inversion) packet ≡ silently (if blocks rules.icmp_blocks inversion packet then Some reject else None)
denied config rules true packet = one (blocks rules.icmp_blocks true packet) reject
denied config rules false packet = walk_same (λ name. hits config (setting.IcmpBlock name)) reject rules.icmp_blocks packet

icmp_allowed : (config : Config) (rules : Rules) (inversion : Bool) (packet : Packet)
    → walk (icmp_items config rules inversion) packet ≡ silently (if inversion && list_any (λ name. hits_icmp name packet) rules.icmp_blocks then Some verdict.Accept else None)
icmp_allowed config rules true packet = walk_same (λ name. hits config (setting.IcmpBlock name)) verdict.Accept rules.icmp_blocks packet
icmp_allowed config rules false packet = refl

-- whether something of these lists lets a packet in
abbrev pub lists : Config → Rules → Packet → Bool
lists config rules packet =
    ((list_any (λ name. hits config (setting.Service name) packet) rules.services
    || list_any (λ port. port_matches port packet) rules.ports)
    || list_any (λ protocol. packet.proto == protocol) rules.protocols)
    || list_any (λ port. source_port_matches port packet) rules.source_ports

pub allowed : (config : Config) (rules : Rules) (inversion : Bool) (packet : Packet)
    → walk (listed_items config rules inversion) packet ≡ silently (if lists config rules packet || (inversion && list_any (λ name. hits_icmp name packet) rules.icmp_blocks) then Some verdict.Accept else None)
allowed config rules inversion packet =
    let services = all_accepted config setting.Service rules.services in
    let ports = all_accepted config setting.Port rules.ports in
    let protocols = all_accepted config setting.Protocol rules.protocols in
    let source_ports = all_accepted config setting.SourcePort rules.source_ports in
    walk_either (services ++ ports ++ protocols ++ source_ports) (icmp_items config rules inversion) packet verdict.Accept _ _
    (walk_either (services ++ ports ++ protocols) source_ports packet verdict.Accept _ _
    (walk_either (services ++ ports) protocols packet verdict.Accept _ _
    (walk_either services ports packet verdict.Accept _ _
    (walk_same (λ name. hits config (setting.Service name)) verdict.Accept rules.services packet)
    (walk_same (λ port. hits config (setting.Port port)) verdict.Accept rules.ports packet))
    (walk_same (λ protocol. hits config (setting.Protocol protocol)) verdict.Accept rules.protocols packet))
    (walk_same (λ port. hits config (setting.SourcePort port)) verdict.Accept rules.source_ports packet))
    (icmp_allowed config rules inversion packet)

-- what is decided silently leaves the lines as they are
pub keeps_lines : (walked : Walked) (logs : List LogLine) (decided : Option Verdict) → walked ≡ silently decided → Walks walked logs logs decided
keeps_lines walked logs decided is =
    subst (λ (one : Walked). Walks one logs logs decided) (sym is) (record { decides = refl; logs = sym (append-nil logs) })

-- a decision that isn't there
pub none : (walked : Walked) (first second : List LogLine) (decided : Option Verdict) → is_some decided ≡ false → Walks walked first second decided → Walks walked first second None
none walked first second None is walks = walks
none walked first second (Some chosen) is walks = cc
