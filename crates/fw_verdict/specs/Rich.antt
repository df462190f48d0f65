-- What rich rules do in the filter (firewalld.richlanguage(5), "Information about logging and actions"): in which of five parts
-- a rule stands, which lines it logs, and what it decides.
use Rattle.std.specs.Prelude.{ℕ, ◌==◌, List, [], ◌++◌, ◌∷◌, codes, int_lt, pos, Bool, true, false, not, ◌&&◌, ◌||◌, Option, None, Some}
use Rattle.std.specs.List.{filter, flat_map}
use Rattle.std.specs.Ordering.{int_eq}
use Rattle.fw_addr.specs.Protocols.{proto_number}
use Rattle.fw_addr.specs.declared.limit.Limit.{Limit}
use Rattle.fw_addr.specs.declared.log.Level.TheVariants.{Notice}
use Rattle.fw_addr.specs.declared.log.LogKind.TheVariants as kind
use Rattle.fw_addr.specs.declared.log.LogLine.{LogLine}
use Rattle.fw_addr.specs.declared.proto.PortProto.TheVariants.{Tcp}
use Rattle.fw_addr.specs.declared.reject.RejectType.{RejectType}
use Rattle.fw_addr.specs.declared.reject.RejectType.TheVariants as type
use Rattle.fw_hits.specs.Rich.{hits_rich}
use Rattle.fw_limit.specs.Within.{is_within}
use Rattle.fw_model.specs.declared.config.Config.{Config}
use Rattle.fw_model.specs.declared.outcome.Verdict.TheVariants as verdict
use Rattle.fw_model.specs.declared.packet.Packet.{Packet}
use Rattle.fw_model.specs.declared.rich.Act.{Act}
use Rattle.fw_model.specs.declared.rich.Act.TheVariants as act
use Rattle.fw_model.specs.declared.rich.Action.{Action}
use Rattle.fw_model.specs.declared.rich.Element.{Element}
use Rattle.fw_model.specs.declared.rich.Element.TheVariants as element
use Rattle.fw_model.specs.declared.rich.Rich.{Rich}
use Rattle.fw_model.specs.declared.rich.RichLog.{RichLog}
use Rattle.fw_order.specs.Order.{by_priority}
use Rattle.fw_verdict.specs.Walk.{Item}
use Rattle.fw_verdict.specs.Walk.Effect.{decide, log}
use Rattle.fw_verdict.specs.declared.rich.Part.{Part}
use Rattle.fw_verdict.specs.declared.rich.Part.TheVariants as part

-- Rules that mark, that forward ports and that masquerade don't stand in the filter.
abbrev pub is_mark : Act → Bool
is_mark act.Accept = false
is_mark (act.Reject type) = false
is_mark act.Drop = false
is_mark (act.Mark value mask) = true

abbrev pub marks : Option Action → Bool
marks None = false
marks (Some action) = is_mark action.act

abbrev pub translates : Option Element → Bool
translates None = false
translates (Some (element.Service name)) = false
translates (Some (element.Port port)) = false
translates (Some (element.Protocol protocol)) = false
translates (Some (element.IcmpBlock name)) = false
translates (Some (element.IcmpType name)) = false
translates (Some element.Masquerade) = true
translates (Some (element.SourcePort port)) = false
translates (Some (element.Forward forward)) = true

abbrev pub is_in_filter : Rich → Bool
is_in_filter rule = not (marks rule.action) && not (translates rule.element)

-- A rule denies by `reject`, `drop` or `icmp-block`, and lets in by `accept`.
abbrev pub is_denial : Act → Bool
is_denial act.Accept = false
is_denial (act.Reject type) = true
is_denial act.Drop = true
is_denial (act.Mark value mask) = false

abbrev pub blocks_icmp : Option Element → Bool
blocks_icmp None = false
blocks_icmp (Some (element.Service name)) = false
blocks_icmp (Some (element.Port port)) = false
blocks_icmp (Some (element.Protocol protocol)) = false
blocks_icmp (Some (element.IcmpBlock name)) = true
blocks_icmp (Some (element.IcmpType name)) = false
blocks_icmp (Some element.Masquerade) = false
blocks_icmp (Some (element.SourcePort port)) = false
blocks_icmp (Some (element.Forward forward)) = false

abbrev pub denies : Option Action → Option Element → Bool
denies None element = blocks_icmp element
denies (Some action) element = is_denial action.act

abbrev pub is_acceptance : Act → Bool
is_acceptance act.Accept = true
is_acceptance (act.Reject type) = false
is_acceptance act.Drop = false
is_acceptance (act.Mark value mask) = false

abbrev pub accepts : Option Action → Bool
accepts None = false
accepts (Some action) = is_acceptance action.act

-- The parts in which a rule stands: by a priority below 0 it comes before all others, above 0 behind them; one of priority 0
-- logs first, and then denies or lets in.
abbrev pub stands_in : Part → Rich → Bool
stands_in part.Pre rule = is_in_filter rule && int_lt rule.priority (pos 0)
stands_in part.Log rule = is_in_filter rule && int_eq rule.priority (pos 0)
stands_in part.Deny rule = (is_in_filter rule && int_eq rule.priority (pos 0)) && denies rule.action rule.element
stands_in part.Allow rule = (is_in_filter rule && int_eq rule.priority (pos 0)) && accepts rule.action
stands_in part.Post rule = is_in_filter rule && int_lt (pos 0) rule.priority

-- A line or an action whose limit isn't passed is left out, and it alone.
abbrev pub passes : Option Limit → Packet → Bool
passes None packet = true
passes (Some limit) packet = is_within limit packet.limits

-- the line of `log`
abbrev pub logged : Config → Rich → Option RichLog → List Item
logged config rule None = []
logged config rule (Some rich) =
    record {
      hits = λ packet. hits_rich config rule packet && passes rich.limit packet;
      effect = log (record { kind = kind.Rich; level = rich.level; prefix = rich.prefix });
    }
    ∷ []

-- The line of `audit` says what is done, by its name.
abbrev pub audit_line : List ℕ → LogLine
audit_line name = record { kind = kind.Audit; level = Notice; prefix = name }

abbrev pub audit_item : Config → Rich → Option Limit → List ℕ → List Item
audit_item config rule limit name =
    record { hits = λ packet. hits_rich config rule packet && passes limit packet; effect = log (audit_line name) } ∷ []

abbrev pub audited_as : Config → Rich → Option Limit → Act → List Item
audited_as config rule limit act.Accept = audit_item config rule limit (codes "accept")
audited_as config rule limit (act.Reject type) = audit_item config rule limit (codes "reject")
audited_as config rule limit act.Drop = audit_item config rule limit (codes "drop")
audited_as config rule limit (act.Mark value mask) = []

abbrev pub audited : Config → Rich → Option (Option Limit) → Option Action → List Item
audited config rule None action = []
audited config rule (Some limit) None = []
audited config rule (Some limit) (Some action) = audited_as config rule limit action.act

-- `log` and then `audit`
abbrev pub lines : Config → Rich → List Item
lines config rule = logged config rule rule.log ++ audited config rule rule.audit rule.action

-- A reject without a type says that the port can't be reached. A reset answers TCP alone.
abbrev pub reject_type : Option RejectType → RejectType
reject_type None = type.IcmpxPortUnreachable
reject_type (Some type) = type

abbrev pub is_reset : RejectType → Bool
is_reset type.IcmpNetUnreachable = false
is_reset type.IcmpHostUnreachable = false
is_reset type.IcmpPortUnreachable = false
is_reset type.IcmpProtoUnreachable = false
is_reset type.IcmpNetProhibited = false
is_reset type.IcmpHostProhibited = false
is_reset type.IcmpAdminProhibited = false
is_reset type.Icmp6NoRoute = false
is_reset type.Icmp6AddrUnreachable = false
is_reset type.Icmp6PortUnreachable = false
is_reset type.Icmp6AdmProhibited = false
is_reset type.IcmpxAdminProhibited = false
is_reset type.IcmpxPortUnreachable = false
is_reset type.TcpReset = true

abbrev pub can_answer : RejectType → Packet → Bool
can_answer type packet = not (is_reset type) || packet.proto == proto_number Tcp

abbrev pub acted_as : Config → Rich → Option Limit → Act → List Item
acted_as config rule limit act.Accept =
    record { hits = λ packet. hits_rich config rule packet && passes limit packet; effect = decide verdict.Accept } ∷ []
acted_as config rule limit (act.Reject type) =
    record {
      hits = λ packet. hits_rich config rule packet && (passes limit packet && can_answer (reject_type type) packet);
      effect = decide (verdict.Reject (reject_type type));
    }
    ∷ []
acted_as config rule limit act.Drop =
    record { hits = λ packet. hits_rich config rule packet && passes limit packet; effect = decide verdict.Drop } ∷ []
acted_as config rule limit (act.Mark value mask) = []

-- `icmp-block` has no action of its own: packets of its type are rejected, as they are by the settings of a zone.
abbrev pub blocked : Config → Rich → Bool → List Item
blocked config rule false = []
blocked config rule true = record { hits = hits_rich config rule; effect = decide (verdict.Reject type.IcmpxAdminProhibited) } ∷ []

abbrev pub acted : Config → Rich → Option Action → List Item
acted config rule None = blocked config rule (blocks_icmp rule.element)
acted config rule (Some action) = acted_as config rule action.limit action.act

-- what a rule does in a part
abbrev pub rule_items : Config → Part → Rich → List Item
rule_items config part.Pre rule = lines config rule ++ acted config rule rule.action
rule_items config part.Log rule = lines config rule
rule_items config part.Deny rule = acted config rule rule.action
rule_items config part.Allow rule = acted config rule rule.action
rule_items config part.Post rule = lines config rule ++ acted config rule rule.action

-- The rules of a part, by priority, and of one priority as they are listed.
abbrev pub rich_items : Config → Part → List Rich → List Item
rich_items config part rules = flat_map (rule_items config part) (by_priority (filter (stands_in part) rules))
