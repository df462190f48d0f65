-- What decides, and which packets it can decide of.
use Rattle.std.specs.Prelude.{◌≡◌, List, ◌++◌, map, Bool, true, ◌&&◌, Option, None, Some, if◌then◌else◌, []}
use Rattle.fw_addr.specs.declared.limit.Limit.{Limit}
use Rattle.fw_addr.specs.declared.log.LogKind.TheVariants as kind
use Rattle.fw_addr.specs.declared.log.LogLine.{LogLine}
use Rattle.fw_hits.specs.Hits.{hits}
use Rattle.fw_model.specs.declared.config.Config.{Config}
use Rattle.fw_model.specs.declared.outcome.Verdict.{Verdict}
use Rattle.fw_model.specs.declared.outcome.Verdict.TheVariants as verdict
use Rattle.fw_model.specs.declared.packet.Packet.{Packet}
use Rattle.fw_model.specs.declared.rich.Act.{Act}
use Rattle.fw_model.specs.declared.rich.Act.TheVariants as act
use Rattle.fw_model.specs.declared.rich.RichLog.{RichLog}
use Rattle.fw_model.specs.declared.rules.Rules.{Rules}
use Rattle.fw_model.specs.declared.setting.Setting.{Setting}
use Rattle.fw_model.specs.declared.setting.Setting.TheVariants as setting
use Rattle.fw_verdict.specs.Rich.{passes, reject_type}
use Rattle.fw_verdict.specs.Walk.{Item}
use Rattle.fw_verdict.specs.Walk.Effect.{decide, log}
use Rattle.nf_chains.specs.Rejects.{can_reject}

-- the verdict of an action; a mark has none
abbrev pub verdict_of : Act → Option Verdict
verdict_of act.Accept = Some verdict.Accept
verdict_of (act.Reject type) = Some (verdict.Reject (reject_type type))
verdict_of act.Drop = Some verdict.Drop
verdict_of (act.Mark value mask) = None

-- A reset answers TCP alone; all others can always be decided.
abbrev pub can_decide : Verdict → Packet → Bool
can_decide verdict.Accept packet = true
can_decide verdict.Drop packet = true
can_decide (verdict.Reject kind) packet = can_reject kind packet

-- a verdict for the packets that a setting is about
abbrev pub decided_by : Config → Verdict → Setting → Item
decided_by config chosen told = record { hits = hits config told; effect = decide chosen }

-- the settings that let packets in, in their order
abbrev pub listed_icmp : Rules → Bool → List Setting
listed_icmp rules inversion = if inversion then map setting.IcmpBlock rules.icmp_blocks else []

abbrev pub listed_settings : Rules → Bool → List Setting
listed_settings rules inversion =
    map setting.Service rules.services
    ++ map setting.Port rules.ports
    ++ map setting.Protocol rules.protocols
    ++ map setting.SourcePort rules.source_ports
    ++ listed_icmp rules inversion

-- the line of `log`
abbrev pub log_line : RichLog → LogLine
log_line rich = record { kind = kind.Rich; level = rich.level; prefix = rich.prefix }

-- a line for the packets of a condition that are within a limit
abbrev pub line_within : (Packet → Bool) → Option Limit → LogLine → Item
line_within condition limit line = record { hits = λ packet. condition packet && passes limit packet; effect = log line }
