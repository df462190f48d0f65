-- Evaluation as a function, which the code follows: what it gives, what it makes of the packet, the lines that it logs and the rules
-- that it looks at, for so many links. What it is in the subject's own words says `Hooks.antt`.
use Rattle.std.specs.Prelude.{◌≡◌, ℕ, zero, suc, ◌+◌, List, [], ◌∷◌, ◌++◌, Bool, true, false, ◌||◌, Option, None, Some, Result, MatchResult, codes, is_some, length, if◌then◌else◌}
use Rattle.std.specs.List.{list_all}
use Rattle.std.specs.Option.{option_map}
use Rattle.fw_addr.specs.declared.dnat.Dnat.{Dnat}
use Rattle.fw_addr.specs.declared.log.LogLine.{LogLine}
use Rattle.fw_addr.specs.declared.reject.RejectType.{RejectType}
use Rattle.fw_base.specs.declared.memory.Memory.{Memory}
use Rattle.fw_model.specs.declared.outcome.Verdict.{Verdict}
use Rattle.fw_model.specs.declared.outcome.Verdict.TheVariants as verdict
use Rattle.fw_model.specs.declared.packet.Origin.{Origin}
use Rattle.fw_model.specs.declared.packet.Origin.TheVariants as origin
use Rattle.fw_model.specs.declared.packet.Packet.{Packet}
use Rattle.fw_model.specs.declared.packet.Via.{Via}
use Rattle.fw_model.specs.declared.packet.Via.TheVariants as via
use Rattle.nf_chains.specs.Courses.{marked_so, masqueraded_so, now_is, routed_now, translated_so}
use Rattle.nf_chains.specs.Hooks.{is_accept, is_filter, is_new, next_at}
use Rattle.nf_chains.specs.Maps.{led_dst, led_in, led_out, led_src}
use Rattle.nf_chains.specs.Marks.{can_translate}
use Rattle.nf_chains.specs.Rejects.{can_reject}
use Rattle.nf_chains.specs.Tests.{match_at}
use Rattle.nf_chains.specs.declared.course.Course.{Course}
use Rattle.nf_chains.specs.declared.flow.Flow.{Flow}
use Rattle.nf_chains.specs.declared.flow.Flow.TheVariants as flow
use Rattle.nf_chains.specs.declared.flow.Next.{Next}
use Rattle.nf_chains.specs.declared.flow.Next.TheVariants as next
use Rattle.nf_rules.specs.declared.chain.Base.{Base}
use Rattle.nf_rules.specs.declared.chain.Chain.{Chain}
use Rattle.nf_rules.specs.declared.chain.Hook.{Hook}
use Rattle.nf_rules.specs.declared.chain.Hook.TheVariants as hook
use Rattle.nf_rules.specs.declared.ruleset.Ruleset.{Ruleset}
use Rattle.nf_rules.specs.declared.rule.Rule.{Rule}
use Rattle.nf_rules.specs.declared.statement.Stmt.{Stmt}
use Rattle.nf_rules.specs.declared.statement.Stmt.TheVariants as stmt
use Rattle.nf_sound.specs.Names.{chain_of}

-- what something gives, what it makes of the packet, what it logs and how many rules it looks at
pub record Seen (A : Type 0) : Type 0 where
  pub found : A
  pub course : Course
  pub lines : List LogLine
  pub looked : ℕ

-- what is done with a packet, of which rules have made something so far
abbrev pub Step : Type 0 → Type 0
Step A = Course → Seen A

abbrev pub at_once : {A : Type 0} → A → Step A
at_once found = λ course. record { found = found; course = course; lines = []; looked = 0 }

-- another course
abbrev pub turned : {A : Type 0} → A → Course → Seen A
turned found course = record { found = found; course = course; lines = []; looked = 0 }

-- one thing, and then another that hangs on what it gives
abbrev pub and_then : {A B : Type 0} → Step A → (A → Step B) → Step B
and_then first behind = λ course. record {
  found = (behind (first course).found (first course).course).found;
  course = (behind (first course).found (first course).course).course;
  lines = (first course).lines ++ (behind (first course).found (first course).course).lines;
  looked = (first course).looked + (behind (first course).found (first course).course).looked;
}

-- the same, with another thing made of what it gives
abbrev pub giving : {A B : Type 0} → (A → B) → Step A → Step B
giving make step = λ course. record {
  found = make (step course).found;
  course = (step course).course;
  lines = (step course).lines;
  looked = (step course).looked;
}

-- the same, and one rule more that is looked at
abbrev pub counting : {A : Type 0} → Step A → Step A
counting step = λ course. record {
  found = (step course).found;
  course = (step course).course;
  lines = (step course).lines;
  looked = 1 + (step course).looked;
}

-- lines that are kept, where somebody asks for them
abbrev pub noted : List LogLine → Option (List LogLine) → Option (List LogLine)
noted lines journal = option_map (λ before. before ++ lines) journal

-- A result, another course, lines and a count of steps are what was seen.
pub record Tells {A : Type 0} (found : A) (step : Step A) (from to : Course) (before after : Option (List LogLine)) (start end : ℕ) : Type 0 where
  pub is : found ≡ (step from).found
  pub went : to ≡ (step from).course
  pub kept : after ≡ noted (step from).lines before
  pub counted : end ≡ start + (step from).looked

-- Only where lines are kept may there be no memory.
abbrev pub Answers : {A : Type 0} → Result A Memory → Step A → Course → Course → Option (List LogLine) → Option (List LogLine) → ℕ → ℕ → Type 0
Answers result step from to before after start end =
    MatchResult result (λ found. Tells found step from to before after start end) (λ error. is_some before ≡ true)

-- a reject that can't answer the packet does nothing
abbrev pub rejected : RejectType → Bool → Next
rejected kind true = next.Over (flow.Ended (verdict.Reject kind))
rejected kind false = next.Statement

-- A jump that comes back goes on with the next rule; what comes back from a goto comes back from here.
abbrev pub after_jump : Flow → Next
after_jump flow.Back = next.Rule
after_jump (flow.Ended verdict) = next.Over (flow.Ended verdict)

-- a translation that is possible ends the base chain
abbrev pub translating : Dnat → Bool → Step Next
translating dnat true = λ course. turned (next.Over (flow.Ended verdict.Accept)) (translated_so dnat course)
translating dnat false = at_once next.Statement

-- a map leads on, or has no key
abbrev pub leading : (List ℕ → Step Flow) → Option (List ℕ) → Step Next
leading call None = at_once next.Statement
leading call (Some name) = giving next.Over (call name)

-- what a statement does
abbrev pub act : Ruleset → Option (List ℕ) → Packet → (List ℕ → Step Flow) → Stmt → Step Next
act rules leaving packet call stmt.Accept = at_once (next.Over (flow.Ended verdict.Accept))
act rules leaving packet call stmt.Drop = at_once (next.Over (flow.Ended verdict.Drop))
act rules leaving packet call (stmt.Reject kind) = at_once (rejected kind (can_reject kind packet))
act rules leaving packet call (stmt.Jump name) = giving after_jump (call name)
act rules leaving packet call (stmt.Goto name) = leading call (Some name)
act rules leaving packet call stmt.Return = at_once (next.Over flow.Back)
act rules leaving packet call (stmt.Log line) = λ course. record { found = next.Statement; course = course; lines = line ∷ []; looked = 0 }
act rules leaving packet call (stmt.Mark value mask) = λ course. turned next.Statement (marked_so value mask course)
act rules leaving packet call (stmt.DnatTo dnat) = translating dnat (can_translate dnat packet)
act rules leaving packet call stmt.Masquerade = λ course. turned (next.Over (flow.Ended verdict.Accept)) (masqueraded_so course)
act rules leaving packet call (stmt.VmapIn name) = leading call (led_in rules packet name)
act rules leaving packet call (stmt.VmapOut name) = leading call (led_out rules leaving name)
act rules leaving packet call (stmt.VmapSrc name) = leading call (led_src rules packet name)
act rules leaving packet call (stmt.VmapDst name) = λ course. leading call (led_dst rules (now_is packet course) name) course

-- the statements behind one, or what it decides. None: the next rule goes on.
abbrev pub unless_decided : Step (Option Flow) → Next → Step (Option Flow)
unless_decided rest next.Statement = rest
unless_decided rest next.Rule = at_once None
unless_decided rest (next.Over flow) = at_once (Some flow)

abbrev pub run_statements : (Stmt → Step Next) → List Stmt → Step (Option Flow)
run_statements acts [] = at_once None
run_statements acts (statement ∷ statements) = and_then (acts statement) (λ came. unless_decided (run_statements acts statements) came)

-- all matches of a rule hold
abbrev pub holds : Ruleset → Option (List ℕ) → Packet → Rule → Course → Bool
holds rules leaving packet rule course = list_all (match_at leaving rules.sets (now_is packet course)) rule.matches

-- one of two, by a test of the course
abbrev pub where_holds : (Course → Bool) → Step (Option Flow) → Step (Option Flow)
where_holds test step = λ course. if test course then step course else at_once None course

-- one rule, with its step
abbrev pub one_rule : (Rule → Course → Bool) → (Stmt → Step Next) → Rule → Step (Option Flow)
one_rule test acts rule = counting (where_holds (test rule) (run_statements acts rule.stmts))

-- the next rules, unless it is over
abbrev pub unless_over : Step Flow → Option Flow → Step Flow
unless_over rest None = rest
unless_over rest (Some over) = at_once over

abbrev pub run_rules : (Rule → Course → Bool) → (Stmt → Step Next) → List Rule → Step Flow
run_rules test acts [] = at_once flow.Back
run_rules test acts (rule ∷ rules) = and_then (one_rule test acts rule) (λ over. unless_over (run_rules test acts rules) over)

abbrev pub run_called : (List Rule → Step Flow) → Option Chain → Step Flow
run_called run None = at_once flow.Back
run_called run (Some chain) = run chain.rules

-- the chain of a name, with so many links left
unfoldable pub calls : Ruleset → Option (List ℕ) → Packet → ℕ → List ℕ → Step Flow
calls rules leaving packet zero name = at_once flow.Back
calls rules leaving packet (suc links) name =
    run_called (run_rules (holds rules leaving packet) (act rules leaving packet (calls rules leaving packet links))) (chain_of rules.chains name)

-- rules, with so many links left
abbrev pub run : Ruleset → Option (List ℕ) → Packet → ℕ → List Rule → Step Flow
run rules leaving packet links list = run_rules (holds rules leaving packet) (act rules leaving packet (calls rules leaving packet links)) list

-- A base chain that comes to its end accepts.
abbrev pub policy : Flow → Verdict
policy flow.Back = verdict.Accept
policy (flow.Ended verdict) = verdict

-- 16 links, as many as a sound ruleset may need
abbrev pub run_base : Ruleset → Option (List ℕ) → Packet → Chain → Step Verdict
run_base rules leaving packet chain = giving policy (run rules leaving packet 16 chain.rules)

-- a chain of kind nat is met by packets of new connections alone
abbrev pub is_met : Packet → Option Base → Bool
is_met packet base = is_filter base || is_new packet

-- one that a packet doesn't meet lets it by
abbrev pub meet_one : Ruleset → Option (List ℕ) → Packet → Chain → Step Verdict
meet_one rules leaving packet chain = if is_met packet chain.base then run_base rules leaving packet chain else at_once verdict.Accept

-- what is accepted goes on
abbrev pub if_accepted : Step Verdict → Verdict → Step Verdict
if_accepted rest verdict = if is_accept verdict then rest else at_once verdict

abbrev pub meet_next : (Chain → Step Verdict) → (Option Chain → Step Verdict) → Option Chain → Step Verdict
meet_next meets behind None = at_once verdict.Accept
meet_next meets behind (Some chain) = and_then (meets chain) (λ verdict. if_accepted (behind (Some chain)) verdict)

-- the base chains at a hook behind one, so many of them at most
unfoldable pub meet : Ruleset → Option (List ℕ) → Packet → Hook → ℕ → Option Chain → Step Verdict
meet rules leaving packet wanted zero last = at_once verdict.Accept
meet rules leaving packet wanted (suc most) last =
    meet_next (meet_one rules leaving packet) (meet rules leaving packet wanted most) (next_at wanted last rules.chains)

-- all base chains at a hook
abbrev pub meet_all : Ruleset → Option (List ℕ) → Packet → Hook → Step Verdict
meet_all rules leaving packet wanted = meet rules leaving packet wanted (length rules.chains) None

-- a hook, and then postrouting
abbrev pub pass_on : Ruleset → Packet → Hook → List ℕ → Step Verdict
pass_on rules packet first name =
    and_then (meet_all rules (Some name) packet first) (λ verdict. if_accepted (meet_all rules (Some name) packet hook.Postrouting) verdict)

abbrev pub behind_link : Ruleset → Packet → Via → Step Verdict
behind_link rules packet via.Local = meet_all rules None packet hook.Input
behind_link rules packet (via.Link name) = pass_on rules packet hook.Forward name

abbrev pub behind_host : Ruleset → Packet → Via → Step Verdict
behind_host rules packet via.Local = pass_on rules packet hook.Output (codes "lo")
behind_host rules packet (via.Link name) = pass_on rules packet hook.Output name

-- where a packet goes is asked once it comes to that
abbrev pub by_route : Packet → (Via → Step Verdict) → Step Verdict
by_route packet step = λ course. step (routed_now packet course) course

-- the whole way of a packet
abbrev pub evaluated : Ruleset → Packet → Origin → Step Verdict
evaluated rules packet origin.Host = by_route packet (behind_host rules packet)
evaluated rules packet (origin.Link from) =
    and_then (meet_all rules None packet hook.Prerouting) (λ verdict. if_accepted (by_route packet (behind_link rules packet)) verdict)
