-- A run through rules is a way through them.
use Rattle.std.proofs.Common.{◌≡◌, ℕ, suc, ◌+◌, Bool, true, false, List, [], ◌∷◌, ◌++◌, Option, None, Some, refl, sym, append_assoc, append-nil, if◌then◌else◌, arith}
use Rattle.std.specs.List.{flat_map}
use Rattle.fw_addr.specs.declared.log.LogLine.{LogLine}
use Rattle.fw_model.specs.declared.outcome.Verdict.{Verdict}
use Rattle.fw_model.specs.declared.packet.Packet.{Packet}
use Rattle.nf_chains.proofs.Bridge.{Calls, Goes_behind, Goes_on, Goes_over, IsRun, behind_seen, carry, plain, statement_so}
use Rattle.nf_chains.specs.Courses.{moment}
use Rattle.nf_chains.specs.Evaluation.{Ends}
use Rattle.nf_chains.specs.Evaluation.Ends.{looks, looks_past}
use Rattle.nf_chains.specs.Moments.{Moment}
use Rattle.nf_chains.specs.Runs.{Seen, Step, act, at_once, holds, one_rule, run_rules, run_statements, unless_decided, unless_over}
use Rattle.nf_chains.specs.declared.course.Course.{Course}
use Rattle.nf_chains.specs.declared.flow.Flow.{Flow}
use Rattle.nf_chains.specs.declared.flow.Next.{Next}
use Rattle.nf_chains.specs.declared.flow.Next.TheVariants as next
use Rattle.nf_rules.specs.declared.ruleset.Ruleset.{Ruleset}
use Rattle.nf_rules.specs.declared.rule.Rule.{Rule}
use Rattle.nf_rules.specs.declared.statement.Stmt.{Stmt}
use Rattle.nf_sound.proofs.Paths.{behind as among_later, in_front}
use Rattle.nf_sound.specs.Targets.{rule_targets, targets}

-- the statements behind one, or what it decides
unless_so : (rules : Ruleset) (leaving : Option (List ℕ)) (packet : Packet) (statements : List Stmt) (rest : Step (Option Flow)) (behind : List Rule) (back : List (List Rule)) (v : Verdict) (e : Moment)
    → ((course : Course) (lines : List LogLine) (looked : ℕ) → Goes_over rules leaving behind back (rest course).found (behind_seen packet (rest course) lines looked) v e → Ends rules leaving statements behind back (moment packet course lines looked) v e)
    → (came : Next) (course : Course) (lines : List LogLine) (looked : ℕ)
    → Goes_over rules leaving behind back (unless_decided rest came course).found (behind_seen packet (unless_decided rest came course) lines looked) v e
    → Goes_behind rules leaving statements behind back came (moment packet course lines looked) v e
unless_so rules leaving packet statements rest behind back v e later next.Statement course lines looked there = later course lines looked there
unless_so rules leaving packet statements rest behind back v e later next.Rule course lines looked there =
    plain packet course (λ now. Ends rules leaving [] behind back now v e) lines looked there
unless_so rules leaving packet statements rest behind back v e later (next.Over over) course lines looked there =
    plain packet course (λ now. Goes_on rules leaving back over now v e) lines looked there

pub statements_so : (rules : Ruleset) (leaving : Option (List ℕ)) (packet : Packet) (call : List ℕ → Step Flow) (statements : List Stmt) → Calls rules leaving packet call (flat_map (targets rules.maps) statements)
    → (behind : List Rule) (back : List (List Rule)) (v : Verdict) (e : Moment) (course : Course) (lines : List LogLine) (looked : ℕ)
    → Goes_over rules leaving behind back (run_statements (act rules leaving packet call) statements course).found (behind_seen packet (run_statements (act rules leaving packet call) statements course) lines looked) v e
    → Ends rules leaving statements behind back (moment packet course lines looked) v e
statements_so rules leaving packet call [] each behind back v e course lines looked there =
    plain packet course (λ now. Ends rules leaving [] behind back now v e) lines looked there
statements_so rules leaving packet call (statement ∷ statements) each behind back v e course lines looked there =
    let first = act rules leaving packet call statement course in
    let rest = run_statements (act rules leaving packet call) statements in
    let seen = unless_decided rest first.found first.course in
    statement_so rules leaving packet call statement (λ name is. each name (in_front name (targets rules.maps statement) (flat_map (targets rules.maps) statements) is)) statements behind back course lines looked v e
    (unless_so rules leaving packet statements rest behind back v e
    (statements_so rules leaving packet call statements (λ name is. each name (among_later name (targets rules.maps statement) (flat_map (targets rules.maps) statements) is)) behind back v e)
    first.found first.course (lines ++ first.lines) (looked + first.looked)
    (carry packet seen.course (λ now. Goes_over rules leaving behind back seen.found now v e) _ _ _ _ (sym (append_assoc lines first.lines seen.lines)) (omega arith) there))

-- a rule, where its matches hold or don't
abbrev tested : Ruleset → Option (List ℕ) → Packet → (List ℕ → Step Flow) → Rule → Course → Bool → Seen (Option Flow)
tested rules leaving packet call rule course test = if test then run_statements (act rules leaving packet call) rule.stmts course else at_once None course

rule_so : (rules : Ruleset) (leaving : Option (List ℕ)) (packet : Packet) (call : List ℕ → Step Flow) (rule : Rule) (course : Course) (test : Bool)
    → holds rules leaving packet rule course ≡ test → Calls rules leaving packet call (flat_map (targets rules.maps) rule.stmts)
    → (behind : List Rule) (back : List (List Rule)) (lines : List LogLine) (looked : ℕ) (v : Verdict) (e : Moment)
    → Goes_over rules leaving behind back (tested rules leaving packet call rule course test).found (moment packet (tested rules leaving packet call rule course test).course (lines ++ (tested rules leaving packet call rule course test).lines) (looked + (1 + (tested rules leaving packet call rule course test).looked))) v e
    → Ends rules leaving [] (rule ∷ behind) back (moment packet course lines looked) v e
rule_so rules leaving packet call rule course true is each behind back lines looked v e there =
    let seen = run_statements (act rules leaving packet call) rule.stmts course in
    looks is (statements_so rules leaving packet call rule.stmts each behind back v e course lines (suc looked)
    (carry packet seen.course (λ now. Goes_over rules leaving behind back seen.found now v e) _ _ _ _ refl (omega arith) there))
rule_so rules leaving packet call rule course false is each behind back lines looked v e there =
    looks_past is (carry packet course (λ now. Ends rules leaving [] behind back now v e) _ _ _ _ (append-nil lines) (omega arith) there)

over_so : (rules : Ruleset) (leaving : Option (List ℕ)) (packet : Packet) (list : List Rule) (rest : Step Flow) → IsRun rules leaving packet list rest
    → (over : Option Flow) (back : List (List Rule)) (course : Course) (lines : List LogLine) (looked : ℕ) (v : Verdict) (e : Moment)
    → Goes_on rules leaving back (unless_over rest over course).found (behind_seen packet (unless_over rest over course) lines looked) v e
    → Goes_over rules leaving list back over (moment packet course lines looked) v e
over_so rules leaving packet list rest run None back course lines looked v e there = run.so back course lines looked v e there
over_so rules leaving packet list rest run (Some came) back course lines looked v e there =
    plain packet course (λ now. Goes_on rules leaving back came now v e) lines looked there

pub rules_so : (rules : Ruleset) (leaving : Option (List ℕ)) (packet : Packet) (call : List ℕ → Step Flow) (list : List Rule) → Calls rules leaving packet call (rule_targets rules.maps list)
    → IsRun rules leaving packet list (run_rules (holds rules leaving packet) (act rules leaving packet call) list)
rules_so rules leaving packet call [] each = record {
  so = λ back course lines looked v e there. plain packet course (λ now. Ends rules leaving [] [] back now v e) lines looked there;
}
rules_so rules leaving packet call (rule ∷ list) each =
    let rest = run_rules (holds rules leaving packet) (act rules leaving packet call) list in
    let here : Calls rules leaving packet call (flat_map (targets rules.maps) rule.stmts) = λ name is. each name (in_front name (flat_map (targets rules.maps) rule.stmts) (rule_targets rules.maps list) is) in
    let there : Calls rules leaving packet call (rule_targets rules.maps list) = λ name is. each name (among_later name (flat_map (targets rules.maps) rule.stmts) (rule_targets rules.maps list) is) in
    let first = one_rule (holds rules leaving packet) (act rules leaving packet call) rule in
    record {
      so = λ back course lines looked v e goes.
          rule_so rules leaving packet call rule course (holds rules leaving packet rule course) refl here list back lines looked v e
          (over_so rules leaving packet list rest (rules_so rules leaving packet call list there) (first course).found back (first course).course (lines ++ (first course).lines) (looked + (first course).looked) v e
          (carry packet (unless_over rest (first course).found (first course).course).course (λ now. Goes_on rules leaving back (unless_over rest (first course).found (first course).course).found now v e) _ _ _ _
          (sym (append_assoc lines (first course).lines (unless_over rest (first course).found (first course).course).lines)) (omega arith) goes));
    }
