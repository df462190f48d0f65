-- What a rich rule in the filter that is about a packet does with it, what is said and decided there besides, and how a walk goes on with
-- what was logged before.
use Rattle.std.specs.Prelude.{◌≡◌, ℕ, List, [], ◌++◌, ◌∷◌, codes, Bool, ◌&&◌, ◌||◌, Option, None, Some, if◌then◌else◌}
use Rattle.fw_addr.specs.declared.limit.Limit.{Limit}
use Rattle.fw_addr.specs.declared.log.LogKind.TheVariants as kind
use Rattle.fw_addr.specs.declared.log.LogLine.{LogLine}
use Rattle.fw_addr.specs.declared.reject.RejectType.TheVariants.{IcmpxAdminProhibited}
use Rattle.fw_model.specs.Packets.{came_by}
use Rattle.fw_model.specs.declared.config.Config.{Config}
use Rattle.fw_model.specs.declared.outcome.Verdict.{Verdict}
use Rattle.fw_model.specs.declared.outcome.Verdict.TheVariants as verdict
use Rattle.fw_model.specs.declared.packet.Packet.{Packet}
use Rattle.fw_model.specs.declared.rich.Act.{Act}
use Rattle.fw_model.specs.declared.rich.Act.TheVariants as act
use Rattle.fw_model.specs.declared.rich.Action.{Action}
use Rattle.fw_model.specs.declared.rich.Rich.{Rich}
use Rattle.fw_model.specs.declared.rich.RichLog.{RichLog}
use Rattle.fw_verdict.specs.Denied.{denial, is_told}
use Rattle.fw_verdict.specs.Rich.{audit_line, blocks_icmp, can_answer, passes, reject_type}
use Rattle.fw_verdict.specs.Walk.{Walked}
use Rattle.fw_verdict.specs.Way.{is_known}

-- the line of `log`
abbrev pub log_given : Packet → Option RichLog → List LogLine
log_given packet None = []
log_given packet (Some rich) =
    if passes rich.limit packet then record { kind = kind.Rich; level = rich.level; prefix = rich.prefix } ∷ [] else []

-- the name by which `audit` tells of an action
abbrev pub audit_name : Act → Option (List ℕ)
audit_name act.Accept = Some (codes "accept")
audit_name (act.Reject type) = Some (codes "reject")
audit_name act.Drop = Some (codes "drop")
audit_name (act.Mark value mask) = None

abbrev pub line_named : Bool → Option (List ℕ) → List LogLine
line_named given None = []
line_named given (Some name) = if given then audit_line name ∷ [] else []

-- the line of `audit`
abbrev pub audit_given : Packet → Option (Option Limit) → Option Action → List LogLine
audit_given packet None action = []
audit_given packet (Some limit) None = []
audit_given packet (Some limit) (Some action) = line_named (passes limit packet) (audit_name action.act)

abbrev pub lines_given : Packet → Rich → List LogLine
lines_given packet rule = log_given packet rule.log ++ audit_given packet rule.audit rule.action

-- what an action decides
abbrev pub act_given : Packet → Option Limit → Act → Option Verdict
act_given packet limit act.Accept = if passes limit packet then Some verdict.Accept else None
act_given packet limit (act.Reject type) =
    if passes limit packet && can_answer (reject_type type) packet then Some (verdict.Reject (reject_type type)) else None
act_given packet limit act.Drop = if passes limit packet then Some verdict.Drop else None
act_given packet limit (act.Mark value mask) = None

abbrev pub block_given : Bool → Option Verdict
block_given blocks = if blocks then Some (verdict.Reject IcmpxAdminProhibited) else None

abbrev pub decision_given : Packet → Rich → Option Action → Option Verdict
decision_given packet rule None = block_given (blocks_icmp rule.element)
decision_given packet rule (Some action) = act_given packet action.limit action.act

-- the line of a denied packet, where such packets are told of
abbrev pub denial_given : Config → Packet → List ℕ → List LogLine
denial_given config packet prefix = if is_told config.log_denied packet.pkt then denial prefix ∷ [] else []

-- It is accepted in the filter without any zone's settings.
abbrev pub is_let_on : Packet → Bool
is_let_on packet = (is_known packet.state || packet.dnat) || came_by (codes "lo") packet.origin

-- From the lines so far a walk leads to these lines and this decision.
pub record Walks (walked : Walked) (old new : List LogLine) (decided : Option Verdict) : Type 0 where
  pub decides : decided ≡ walked.decided
  pub logs : new ≡ old ++ walked.logs
