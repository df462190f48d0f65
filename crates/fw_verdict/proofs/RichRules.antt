-- What a rich rule that is about a packet does, and one that isn't.
use Rattle.std.proofs.Common.{◌≡◌, ◌∙◌, List, [], ◌∷◌, ◌++◌, Bool, true, false, ◌&&◌, Option, None, Some, refl, sym, ap, subst, append-nil}
use Rattle.std.specs.Prelude.{if◌then◌else◌}
use Rattle.fw_addr.specs.declared.limit.Limit.{Limit}
use Rattle.fw_addr.specs.declared.log.LogLine.{LogLine}
use Rattle.fw_hits.specs.Rich.{hits_rich}
use Rattle.fw_model.specs.declared.config.Config.{Config}
use Rattle.fw_model.specs.declared.outcome.Verdict.{Verdict}
use Rattle.fw_model.specs.declared.packet.Packet.{Packet}
use Rattle.fw_model.specs.declared.rich.Act.{Act}
use Rattle.fw_model.specs.declared.rich.Act.TheVariants as act
use Rattle.fw_model.specs.declared.rich.Action.{Action}
use Rattle.fw_model.specs.declared.rich.Rich.{Rich}
use Rattle.fw_model.specs.declared.rich.RichLog.{RichLog}
use Rattle.fw_verdict.specs.Given.{Walks, act_given, audit_given, block_given, decision_given, lines_given, log_given}
use Rattle.fw_verdict.specs.Rich.{acted, acted_as, audited, blocked, blocks_icmp, can_answer, lines, logged, passes, reject_type, rule_items}
use Rattle.fw_verdict.specs.Walk.{Walked, done, nothing, or_then, silently, walk}
use Rattle.fw_verdict.specs.Walk.Effect.{decide, log}
use Rattle.fw_verdict.specs.declared.rich.Part.{Part}
use Rattle.fw_verdict.specs.declared.rich.Part.TheVariants as part
use Rattle.fw_verdict.proofs.Walks.{walk_append}

-- where a rule is about a packet, and only there
abbrev where_hit : Bool → Walked → Walked
where_hit hit walked = if hit then walked else nothing

abbrev tells : List LogLine → Walked
tells logs = record { decided = None; logs = logs }

no_line : (hit : Bool) → nothing ≡ where_hit hit (tells [])
no_line true = refl
no_line false = refl

one_line : (hit pass : Bool) (line : LogLine)
    → or_then (if hit && pass then done (log line) else nothing).decided (if hit && pass then done (log line) else nothing).logs nothing
    ≡ where_hit hit (tells (if pass then line ∷ [] else []))
one_line true true line = refl
one_line true false line = refl
one_line false pass line = refl

no_decision : (hit : Bool) → nothing ≡ where_hit hit (silently None)
no_decision true = refl
no_decision false = refl

one_decision : (hit pass : Bool) (chosen : Verdict)
    → or_then (if hit && pass then done (decide chosen) else nothing).decided (if hit && pass then done (decide chosen) else nothing).logs nothing
    ≡ where_hit hit (silently (if pass then Some chosen else None))
one_decision true true chosen = refl
one_decision true false chosen = refl
one_decision false pass chosen = refl

always_decides : (hit : Bool) (chosen : Verdict)
    → or_then (if hit then done (decide chosen) else nothing).decided (if hit then done (decide chosen) else nothing).logs nothing
    ≡ where_hit hit (silently (Some chosen))
always_decides true chosen = refl
always_decides false chosen = refl

logged_is : (config : Config) (rule : Rich) (packet : Packet) (rich : Option RichLog)
    → walk (logged config rule rich) packet ≡ where_hit (hits_rich config rule packet) (tells (log_given packet rich))
logged_is config rule packet None = no_line (hits_rich config rule packet)
logged_is config rule packet (Some rich) = one_line (hits_rich config rule packet) (passes rich.limit packet) _

audited_is : (config : Config) (rule : Rich) (packet : Packet) (limit : Option (Option Limit)) (action : Option Action)
    → walk (audited config rule limit action) packet ≡ where_hit (hits_rich config rule packet) (tells (audit_given packet limit action))
audited_is config rule packet None action = no_line (hits_rich config rule packet)
audited_is config rule packet (Some limit) None = no_line (hits_rich config rule packet)
audited_is config rule packet (Some limit) (Some action) = by action.act
  where
    by : (done_so : Act)
        → walk (audited config rule (Some limit) (Some (record { act = done_so; limit = action.limit }))) packet
        ≡ where_hit (hits_rich config rule packet) (tells (audit_given packet (Some limit) (Some (record { act = done_so; limit = action.limit }))))
    by act.Accept = one_line (hits_rich config rule packet) (passes limit packet) _
    by (act.Reject type) = one_line (hits_rich config rule packet) (passes limit packet) _
    by act.Drop = one_line (hits_rich config rule packet) (passes limit packet) _
    by (act.Mark value mask) = no_line (hits_rich config rule packet)

two_told : (hit : Bool) (one other : List LogLine)
    → or_then (where_hit hit (tells one)).decided (where_hit hit (tells one)).logs (where_hit hit (tells other)) ≡ where_hit hit (tells (one ++ other))
two_told true one other = refl
two_told false one other = refl

lines_are : (config : Config) (rule : Rich) (packet : Packet)
    → walk (lines config rule) packet ≡ where_hit (hits_rich config rule packet) (tells (lines_given packet rule))
lines_are config rule packet =
    walk_append (logged config rule rule.log) (audited config rule rule.audit rule.action) packet
    ∙ ap (λ (walked : Walked). or_then walked.decided walked.logs (walk (audited config rule rule.audit rule.action) packet)) (logged_is config rule packet rule.log)
    ∙ ap (or_then (where_hit (hits_rich config rule packet) (tells (log_given packet rule.log))).decided (where_hit (hits_rich config rule packet) (tells (log_given packet rule.log))).logs) (audited_is config rule packet rule.audit rule.action)
    ∙ two_told (hits_rich config rule packet) (log_given packet rule.log) (audit_given packet rule.audit rule.action)

acted_as_is : (config : Config) (rule : Rich) (packet : Packet) (limit : Option Limit) (done_so : Act)
    → walk (acted_as config rule limit done_so) packet ≡ where_hit (hits_rich config rule packet) (silently (act_given packet limit done_so))
acted_as_is config rule packet limit act.Accept = one_decision (hits_rich config rule packet) (passes limit packet) _
acted_as_is config rule packet limit (act.Reject type) =
    one_decision (hits_rich config rule packet) (passes limit packet && can_answer (reject_type type) packet) _
acted_as_is config rule packet limit act.Drop = one_decision (hits_rich config rule packet) (passes limit packet) _
acted_as_is config rule packet limit (act.Mark value mask) = no_decision (hits_rich config rule packet)

blocked_is : (config : Config) (rule : Rich) (packet : Packet) (blocks : Bool)
    → walk (blocked config rule blocks) packet ≡ where_hit (hits_rich config rule packet) (silently (block_given blocks))
blocked_is config rule packet true = always_decides (hits_rich config rule packet) _
blocked_is config rule packet false = no_decision (hits_rich config rule packet)

acted_is : (config : Config) (rule : Rich) (packet : Packet) (action : Option Action)
    → walk (acted config rule action) packet ≡ where_hit (hits_rich config rule packet) (silently (decision_given packet rule action))
acted_is config rule packet None = blocked_is config rule packet (blocks_icmp rule.element)
acted_is config rule packet (Some action) = acted_as_is config rule packet action.limit action.act

told_and_decided : (hit : Bool) (told : List LogLine) (chosen : Option Verdict)
    → or_then (where_hit hit (tells told)).decided (where_hit hit (tells told)).logs (where_hit hit (silently chosen)) ≡ where_hit hit (record { decided = chosen; logs = told })
told_and_decided true told chosen = ap (λ (logs : List LogLine). record { decided = chosen; logs = logs }) (append-nil told)
told_and_decided false told chosen = refl

both_are : (config : Config) (rule : Rich) (packet : Packet)
    → walk (lines config rule ++ acted config rule rule.action) packet
    ≡ where_hit (hits_rich config rule packet) (record { decided = decision_given packet rule rule.action; logs = lines_given packet rule })
both_are config rule packet =
    walk_append (lines config rule) (acted config rule rule.action) packet
    ∙ ap (λ (walked : Walked). or_then walked.decided walked.logs (walk (acted config rule rule.action) packet)) (lines_are config rule packet)
    ∙ ap (or_then (where_hit (hits_rich config rule packet) (tells (lines_given packet rule))).decided (where_hit (hits_rich config rule packet) (tells (lines_given packet rule))).logs) (acted_is config rule packet rule.action)
    ∙ told_and_decided (hits_rich config rule packet) (lines_given packet rule) (decision_given packet rule rule.action)

-- what a rule does in a part
abbrev does_in : Packet → Part → Rich → Walked
does_in packet part.Pre rule = record { decided = decision_given packet rule rule.action; logs = lines_given packet rule }
does_in packet part.Log rule = tells (lines_given packet rule)
does_in packet part.Deny rule = silently (decision_given packet rule rule.action)
does_in packet part.Allow rule = silently (decision_given packet rule rule.action)
does_in packet part.Post rule = record { decided = decision_given packet rule rule.action; logs = lines_given packet rule }

rule_is : (config : Config) (rule : Rich) (packet : Packet) (stage : Part)
    → walk (rule_items config stage rule) packet ≡ where_hit (hits_rich config rule packet) (does_in packet stage rule)
rule_is config rule packet part.Pre = both_are config rule packet
rule_is config rule packet part.Log = lines_are config rule packet
rule_is config rule packet part.Deny = acted_is config rule packet rule.action
rule_is config rule packet part.Allow = acted_is config rule packet rule.action
rule_is config rule packet part.Post = both_are config rule packet

-- a rule that isn't about the packet
pub misses : (config : Config) (rule : Rich) (packet : Packet) (stage : Part) (logs : List LogLine)
    → hits_rich config rule packet ≡ false
    → Walks (walk (rule_items config stage rule) packet) logs logs None
misses config rule packet stage logs missed =
    subst (λ (walked : Walked). Walks walked logs logs None)
    (sym (rule_is config rule packet stage ∙ ap (λ (hit : Bool). where_hit hit (does_in packet stage rule)) missed))
    (record { decides = refl; logs = sym (append-nil logs) })

-- one that is
pub acts : (config : Config) (rule : Rich) (packet : Packet) (stage is_stage : Part) (old new : List LogLine) (decided : Option Verdict)
    → hits_rich config rule packet ≡ true
    → stage ≡ is_stage
    → decided ≡ (does_in packet is_stage rule).decided
    → new ≡ old ++ (does_in packet is_stage rule).logs
    → Walks (walk (rule_items config stage rule) packet) old new decided
acts config rule packet stage is_stage old new decided hit is decides logs =
    subst (λ (one : Part). Walks (walk (rule_items config one rule) packet) old new decided) (sym is)
    (subst (λ (walked : Walked). Walks walked old new decided)
    (sym (rule_is config rule packet is_stage ∙ ap (λ (hits : Bool). where_hit hits (does_in packet is_stage rule)) hit))
    (record { decides = decides; logs = logs }))
