-- What the settings of a zone or a policy do with packets, as one list (firewalld.richlanguage(5), "Information about logging
-- and actions", has the order of its parts): rich rules before all others, log lines, what is denied, what is let in, and rich
-- rules behind all others. (A policy has no inversion of ICMP types.)
use Rattle.std.specs.Prelude.{ℕ, List, [], ◌++◌, ◌∷◌, map, Bool, not, ◌&&◌, if◌then◌else◌}
use Rattle.std.specs.List.{list_any}
use Rattle.fw_addr.specs.declared.reject.RejectType.TheVariants.{IcmpxAdminProhibited}
use Rattle.fw_model.specs.declared.config.Config.{Config}
use Rattle.fw_model.specs.declared.outcome.Verdict.TheVariants as verdict
use Rattle.fw_model.specs.declared.packet.Packet.{Packet}
use Rattle.fw_model.specs.declared.rules.Rules.{Rules}
use Rattle.fw_model.specs.declared.setting.Setting.{Setting}
use Rattle.fw_model.specs.declared.setting.Setting.TheVariants as setting
use Rattle.fw_hits.specs.Hits.{hits}
use Rattle.fw_hits.specs.Plain.{is_icmp}
use Rattle.fw_verdict.specs.Rich.{rich_items}
use Rattle.fw_verdict.specs.Walk.{Item}
use Rattle.fw_verdict.specs.Walk.Effect.{decide}
use Rattle.fw_verdict.specs.declared.rich.Part.TheVariants as part

-- packets that are let in
abbrev pub accepted : (Packet → Bool) → Item
accepted condition = record { hits = condition; effect = decide verdict.Accept }

-- packets that are rejected, whatever the zone's target is, as all are for which no type is said
abbrev pub rejected : (Packet → Bool) → Item
rejected condition = record { hits = condition; effect = decide (verdict.Reject IcmpxAdminProhibited) }

-- what a list of settings of one kind lets in
abbrev pub all_accepted : {A : Type 0} → Config → (A → Setting) → List A → List Item
all_accepted config kind entries = map (λ entry. accepted (hits config (kind entry))) entries

-- what a list of settings of one kind blocks
abbrev pub all_rejected : {A : Type 0} → Config → (A → Setting) → List A → List Item
all_rejected config kind entries = map (λ entry. rejected (hits config (kind entry))) entries

-- an ICMP packet of none of the listed types
abbrev pub is_other_icmp : Config → List (List ℕ) → Packet → Bool
is_other_icmp config names packet = is_icmp packet && not (list_any (λ name. hits config (setting.IcmpBlock name) packet) names)

-- The ICMP types that are blocked (firewalld.zone(5), `icmp-block`): those listed, or with `icmp-block-inversion` all others.
abbrev pub icmp_denied : Config → Rules → Bool → List Item
icmp_denied config rules inversion =
    if inversion then rejected (is_other_icmp config rules.icmp_blocks) ∷ [] else all_rejected config setting.IcmpBlock rules.icmp_blocks

-- The ICMP types that are let in: with `icmp-block-inversion` those listed.
abbrev pub icmp_items : Config → Rules → Bool → List Item
icmp_items config rules inversion = if inversion then all_accepted config setting.IcmpBlock rules.icmp_blocks else []

-- Services, ports, protocols, source ports and ICMP types.
abbrev pub listed_items : Config → Rules → Bool → List Item
listed_items config rules inversion =
    all_accepted config setting.Service rules.services
    ++ all_accepted config setting.Port rules.ports
    ++ all_accepted config setting.Protocol rules.protocols
    ++ all_accepted config setting.SourcePort rules.source_ports
    ++ icmp_items config rules inversion

-- what is denied, and what is let in: rich rules before the others
abbrev pub deny_items : Config → Rules → Bool → List Item
deny_items config rules inversion = rich_items config part.Deny rules.rich ++ icmp_denied config rules inversion

abbrev pub allow_items : Config → Rules → Bool → List Item
allow_items config rules inversion = rich_items config part.Allow rules.rich ++ listed_items config rules inversion

-- What stands at priority 0: first log lines.
abbrev pub level_items : Config → Rules → Bool → List Item
level_items config rules inversion =
    rich_items config part.Log rules.rich ++ (deny_items config rules inversion ++ allow_items config rules inversion)

-- All five parts.
abbrev pub items : Config → Rules → Bool → List Item
items config rules inversion =
    rich_items config part.Pre rules.rich ++ (level_items config rules inversion ++ rich_items config part.Post rules.rich)
