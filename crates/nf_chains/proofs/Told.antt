-- What results, courses, lines and counts tell of what was seen.
use Rattle.std.proofs.Common.{◌≡◌, ℕ, zero, suc, ◌+◌, ◌-◌, ◌<◌, ◌≤◌, Bool, true, false, List, [], ◌∷◌, ◌++◌, Option, None, Some, Result, Ok, Err, is_some, slice_get, drop, length, if◌then◌else◌, refl, sym, ap, subst, ◌∙◌, add-one, append_assoc, append-nil, arith}
use Rattle.std.proofs.Math.Seq.{drop-nil}
use Rattle.std.specs.Result.{IsErr}
use Rattle.fw_addr.specs.declared.log.LogLine.{LogLine}
use Rattle.fw_base.specs.declared.memory.Memory.{Memory}
use Rattle.fw_model.specs.declared.outcome.Verdict.{Verdict}
use Rattle.fw_model.specs.declared.outcome.Verdict.TheVariants as verdict
use Rattle.fw_model.specs.declared.packet.Packet.{Packet}
use Rattle.nf_chains.specs.Hooks.{is_accept, next_at}
use Rattle.nf_chains.specs.Runs.{Answers, Seen, Step, Tells, and_then, at_once, calls, if_accepted, meet, meet_one, noted, one_rule, run, run_rules, run_statements, unless_decided, unless_over}
use Rattle.nf_chains.specs.declared.course.Course.{Course}
use Rattle.nf_chains.specs.declared.flow.Flow.{Flow}
use Rattle.nf_chains.specs.declared.flow.Flow.TheVariants as flow
use Rattle.nf_chains.specs.declared.flow.Next.{Next}
use Rattle.nf_chains.specs.declared.flow.Next.TheVariants as next
use Rattle.nf_rules.specs.declared.chain.Chain.{Chain}
use Rattle.nf_rules.specs.declared.chain.Hook.{Hook}
use Rattle.nf_rules.specs.declared.ruleset.Ruleset.{Ruleset}
use Rattle.nf_rules.specs.declared.rule.Rule.{Rule}
use Rattle.nf_rules.specs.declared.statement.Stmt.{Stmt}
use Rattle.nf_sound.specs.Names.{chain_of}

pub noted_nothing : (journal : Option (List LogLine)) → journal ≡ noted [] journal
noted_nothing None = refl
noted_nothing (Some lines) = ap Some (sym (append-nil lines))

noted_more : (xs ys : List LogLine) (journal : Option (List LogLine)) → noted ys (noted xs journal) ≡ noted (xs ++ ys) journal
noted_more xs ys None = refl
noted_more xs ys (Some lines) = ap Some (append_assoc lines xs ys)

pub is_some-noted : (lines : List LogLine) (journal : Option (List LogLine)) → is_some (noted lines journal) ≡ is_some journal
is_some-noted lines None = refl
is_some-noted lines (Some before) = refl

-- lines are kept before and after alike
pub still_kept : {A : Type 0} {found : A} {step : Step A} {c c' : Course} {j j' : Option (List LogLine)} {n n' : ℕ} → Tells found step c c' j j' n n' → is_some j' ≡ is_some j
still_kept {step = step} {c = c} {j = j} told = ap is_some told.kept ∙ is_some-noted (step c).lines j

-- what is there at once
pub told_at_once : {A : Type 0} (found : A) (c : Course) (j : Option (List LogLine)) (n : ℕ) → Tells found (at_once found) c c j j n n
told_at_once found c j n = record { is = refl; went = refl; kept = noted_nothing j; counted = omega arith }

-- one thing after another
pub told_then : {A B : Type 0} (x : A) (found : B) (first : Step A) (behind : A → Step B) (c c1 c2 : Course) (j j1 j2 : Option (List LogLine)) (n n1 n2 : ℕ) → Tells x first c c1 j j1 n n1 → Tells found (behind x) c1 c2 j1 j2 n1 n2 → Tells found (and_then first behind) c c2 j j2 n n2
told_then x found first behind c c1 c2 j j1 j2 n n1 n2 one other =
    let here = subst (λ (course : Course). Tells found (behind (first c).found) course c2 j1 j2 n1 n2) one.went (subst (λ y. Tells found (behind y) c1 c2 j1 j2 n1 n2) one.is other) in
    let seen = behind (first c).found (first c).course in
    record {
      is = here.is;
      went = here.went;
      kept = here.kept ∙ ap (noted seen.lines) one.kept ∙ noted_more (first c).lines seen.lines j;
      counted = omega (arith, one.counted, here.counted);
    }

-- the item at a place, and those behind it
pub drop_at : {X : Type 0} (xs : List X) (i : ℕ) (x : X) → slice_get xs i ≡ Some x → drop i xs ≡ x ∷ drop (i + 1) xs
drop_at [] i x at = cc
drop_at (first ∷ xs) zero x at = let here : first ≡ x = cc in rw here refl
drop_at (first ∷ xs) (suc i) x at = rw add-one (rw add-one at (drop_at xs i x at))

-- behind the last item nothing is left
pub drop_past : {X : Type 0} (xs : List X) (i : ℕ) → length xs ≤ i → drop i xs ≡ []
drop_past [] i past = drop-nil i
drop_past (x ∷ xs) zero past = absurd (omega arith)
drop_past (x ∷ xs) (suc i) past = drop_past xs i (omega arith)

if_true : {A : Type 0} (test : Bool) (x y : A) → test ≡ true → (if test then x else y) ≡ x
if_true true x y is = refl
if_true false x y is = cc

if_false : {A : Type 0} (test : Bool) (x y : A) → test ≡ false → (if test then x else y) ≡ y
if_false true x y is = cc
if_false false x y is = refl

-- statements
pub statement_later : (acts : Stmt → Step Next) (list : List Stmt) (statement : Stmt) (rest : List Stmt) (found : Option Flow) (c c1 c2 : Course) (j j1 j2 : Option (List LogLine)) (n n1 n2 : ℕ) → list ≡ statement ∷ rest → Tells next.Statement (acts statement) c c1 j j1 n n1 → Tells found (run_statements acts rest) c1 c2 j1 j2 n1 n2 → Tells found (run_statements acts list) c c2 j j2 n n2
statement_later acts list statement rest found c c1 c2 j j1 j2 n n1 n2 is one behind =
    subst (λ (l : List Stmt). Tells found (run_statements acts l) c c2 j j2 n n2) (sym is)
    (told_then next.Statement found (acts statement) (λ came. unless_decided (run_statements acts rest) came) c c1 c2 j j1 j2 n n1 n2 one behind)

pub statement_ends_rule : (acts : Stmt → Step Next) (list : List Stmt) (statement : Stmt) (rest : List Stmt) (c c1 : Course) (j j1 : Option (List LogLine)) (n n1 : ℕ) → list ≡ statement ∷ rest → Tells next.Rule (acts statement) c c1 j j1 n n1 → Tells None (run_statements acts list) c c1 j j1 n n1
statement_ends_rule acts list statement rest c c1 j j1 n n1 is one =
    subst (λ (l : List Stmt). Tells None (run_statements acts l) c c1 j j1 n n1) (sym is)
    (told_then next.Rule None (acts statement) (λ came. unless_decided (run_statements acts rest) came) c c1 c1 j j1 j1 n n1 n1 one (told_at_once None c1 j1 n1))

pub statement_ends_chain : (acts : Stmt → Step Next) (list : List Stmt) (statement : Stmt) (rest : List Stmt) (over : Flow) (c c1 : Course) (j j1 : Option (List LogLine)) (n n1 : ℕ) → list ≡ statement ∷ rest → Tells (next.Over over) (acts statement) c c1 j j1 n n1 → Tells (Some over) (run_statements acts list) c c1 j j1 n n1
statement_ends_chain acts list statement rest over c c1 j j1 n n1 is one =
    subst (λ (l : List Stmt). Tells (Some over) (run_statements acts l) c c1 j j1 n n1) (sym is)
    (told_then (next.Over over) (Some over) (acts statement) (λ came. unless_decided (run_statements acts rest) came) c c1 c1 j j1 j1 n n1 n1 one (told_at_once (Some over) c1 j1 n1))

pub statements_over : (acts : Stmt → Step Next) (list : List Stmt) (c : Course) (j : Option (List LogLine)) (n : ℕ) → list ≡ [] → Tells None (run_statements acts list) c c j j n n
statements_over acts list c j n is = subst (λ (l : List Stmt). Tells None (run_statements acts l) c c j j n n) (sym is) (told_at_once None c j n)

-- a rule whose matches hold
pub rule_holds : (test : Rule → Course → Bool) (acts : Stmt → Step Next) (rule : Rule) (result : Result (Option Flow) Memory) (c c1 : Course) (j j1 : Option (List LogLine)) (n n1 n2 : ℕ) → test rule c ≡ true → n1 ≡ n + 1 → Answers result (run_statements acts rule.stmts) c c1 j j1 n1 n2 → Answers result (one_rule test acts rule) c c1 j j1 n n2
rule_holds test acts rule (Ok found) c c1 j j1 n n1 n2 holds step told =
    let same : run_statements acts rule.stmts c ≡ (if test rule c then run_statements acts rule.stmts c else at_once None c) = sym (if_true (test rule c) (run_statements acts rule.stmts c) (at_once None c) holds) in
    record {
      is = told.is ∙ ap (λ (seen : Seen (Option Flow)). seen.found) same;
      went = told.went ∙ ap (λ (seen : Seen (Option Flow)). seen.course) same;
      kept = told.kept ∙ ap (λ (seen : Seen (Option Flow)). noted seen.lines j) same;
      counted = omega (arith, step, told.counted, ap (λ (seen : Seen (Option Flow)). seen.looked) same);
    }
rule_holds test acts rule (Err error) c c1 j j1 n n1 n2 holds step kept = kept

-- rules
pub rule_later : (test : Rule → Course → Bool) (acts : Stmt → Step Next) (list : List Rule) (rule : Rule) (rest : List Rule) (found : Flow) (c c1 c2 : Course) (j j1 j2 : Option (List LogLine)) (n n1 n2 : ℕ) → list ≡ rule ∷ rest → Tells None (one_rule test acts rule) c c1 j j1 n n1 → Tells found (run_rules test acts rest) c1 c2 j1 j2 n1 n2 → Tells found (run_rules test acts list) c c2 j j2 n n2
rule_later test acts list rule rest found c c1 c2 j j1 j2 n n1 n2 is one behind =
    subst (λ (l : List Rule). Tells found (run_rules test acts l) c c2 j j2 n n2) (sym is)
    (told_then None found (one_rule test acts rule) (λ over. unless_over (run_rules test acts rest) over) c c1 c2 j j1 j2 n n1 n2 one behind)

pub rule_over : (test : Rule → Course → Bool) (acts : Stmt → Step Next) (list : List Rule) (rule : Rule) (rest : List Rule) (found : Flow) (c c1 : Course) (j j1 : Option (List LogLine)) (n n1 : ℕ) → list ≡ rule ∷ rest → Tells (Some found) (one_rule test acts rule) c c1 j j1 n n1 → Tells found (run_rules test acts list) c c1 j j1 n n1
rule_over test acts list rule rest found c c1 j j1 n n1 is one =
    subst (λ (l : List Rule). Tells found (run_rules test acts l) c c1 j j1 n n1) (sym is)
    (told_then (Some found) found (one_rule test acts rule) (λ over. unless_over (run_rules test acts rest) over) c c1 c1 j j1 j1 n n1 n1 one (told_at_once found c1 j1 n1))

pub rules_over : (test : Rule → Course → Bool) (acts : Stmt → Step Next) (list : List Rule) (c : Course) (j : Option (List LogLine)) (n : ℕ) → list ≡ [] → Tells flow.Back (run_rules test acts list) c c j j n n
rules_over test acts list c j n is = subst (λ (l : List Rule). Tells flow.Back (run_rules test acts l) c c j j n n) (sym is) (told_at_once flow.Back c j n)

-- calls
pub no_call_left : (rules : Ruleset) (leaving : Option (List ℕ)) (packet : Packet) (links : ℕ) (name : List ℕ) (c : Course) (j : Option (List LogLine)) (n : ℕ) → links ≡ 0 → Tells flow.Back (calls rules leaving packet links name) c c j j n n
unfolding calls
no_call_left rules leaving packet zero name c j n is = told_at_once flow.Back c j n
no_call_left rules leaving packet (suc links) name c j n is = absurd (omega arith)

pub call_astray : (rules : Ruleset) (leaving : Option (List ℕ)) (packet : Packet) (links : ℕ) (name : List ℕ) (c : Course) (j : Option (List LogLine)) (n : ℕ) → chain_of rules.chains name ≡ None → Tells flow.Back (calls rules leaving packet links name) c c j j n n
unfolding calls
call_astray rules leaving packet zero name c j n is = told_at_once flow.Back c j n
call_astray rules leaving packet (suc links) name c j n is = rw is (told_at_once flow.Back c j n)

pub call_answered : (rules : Ruleset) (leaving : Option (List ℕ)) (packet : Packet) (links : ℕ) (name : List ℕ) (chain : Chain) (result : Result Flow Memory) (c c1 : Course) (j j1 : Option (List LogLine)) (n n1 : ℕ) → 0 < links → chain_of rules.chains name ≡ Some chain → Answers result (run rules leaving packet (links - 1) chain.rules) c c1 j j1 n n1 → Answers result (calls rules leaving packet links name) c c1 j j1 n n1
unfolding calls
call_answered rules leaving packet zero name chain result c c1 j j1 n n1 some found answer = absurd (omega arith)
call_answered rules leaving packet (suc links) name chain result c c1 j j1 n n1 some found answer =
    let less : suc links - 1 ≡ links = omega arith in
    rw found (rw less at answer)

-- what is accepted goes on, and what is refused is over
pub accepted_told : (first rest : Step Verdict) (chosen found : Verdict) (c c1 c2 : Course) (j j1 j2 : Option (List LogLine)) (n n1 n2 : ℕ) → is_accept chosen ≡ true → Tells chosen first c c1 j j1 n n1 → Tells found rest c1 c2 j1 j2 n1 n2 → Tells found (and_then first (λ v. if_accepted rest v)) c c2 j j2 n n2
accepted_told first rest chosen found c c1 c2 j j1 j2 n n1 n2 holds one other =
    told_then chosen found first (λ v. if_accepted rest v) c c1 c2 j j1 j2 n n1 n2 one
    (subst (λ step. Tells found step c1 c2 j1 j2 n1 n2) (sym (if_true (is_accept chosen) rest (at_once chosen) holds)) other)

pub refused_told : (first rest : Step Verdict) (chosen : Verdict) (c c1 : Course) (j j1 : Option (List LogLine)) (n n1 : ℕ) → is_accept chosen ≡ false → Tells chosen first c c1 j j1 n n1 → Tells chosen (and_then first (λ v. if_accepted rest v)) c c1 j j1 n n1
refused_told first rest chosen c c1 j j1 n n1 fails one =
    told_then chosen chosen first (λ v. if_accepted rest v) c c1 c1 j j1 j1 n n1 n1 one
    (subst (λ step. Tells chosen step c1 c1 j1 j1 n1 n1) (sym (if_false (is_accept chosen) rest (at_once chosen) fails)) (told_at_once chosen c1 j1 n1))

-- a result that is handed on behind one that was accepted
pub answered_behind : (first rest : Step Verdict) (chosen : Verdict) (result : Result Verdict Memory) (c c1 c2 : Course) (j j1 j2 : Option (List LogLine)) (n n1 n2 : ℕ) → is_accept chosen ≡ true → Tells chosen first c c1 j j1 n n1 → Answers result rest c1 c2 j1 j2 n1 n2 → Answers result (and_then first (λ v. if_accepted rest v)) c c2 j j2 n n2
answered_behind first rest chosen (Ok found) c c1 c2 j j1 j2 n n1 n2 holds one told = accepted_told first rest chosen found c c1 c2 j j1 j2 n n1 n2 holds one told
answered_behind first rest chosen (Err error) c c1 c2 j j1 j2 n n1 n2 holds one kept = sym (still_kept one) ∙ kept

-- hooks
pub met_none : (rules : Ruleset) (leaving : Option (List ℕ)) (packet : Packet) (wanted : Hook) (most : ℕ) (last : Option Chain) (c : Course) (j : Option (List LogLine)) (n : ℕ) → next_at wanted last rules.chains ≡ None → Tells verdict.Accept (meet rules leaving packet wanted most last) c c j j n n
unfolding meet
met_none rules leaving packet wanted zero last c j n none = told_at_once verdict.Accept c j n
met_none rules leaving packet wanted (suc most) last c j n none = rw none (told_at_once verdict.Accept c j n)

pub met_out : (rules : Ruleset) (leaving : Option (List ℕ)) (packet : Packet) (wanted : Hook) (most : ℕ) (last : Option Chain) (c : Course) (j : Option (List LogLine)) (n : ℕ) → most ≡ 0 → Tells verdict.Accept (meet rules leaving packet wanted most last) c c j j n n
unfolding meet
met_out rules leaving packet wanted zero last c j n none = told_at_once verdict.Accept c j n
met_out rules leaving packet wanted (suc most) last c j n none = absurd (omega arith)

pub met_accepted : (rules : Ruleset) (leaving : Option (List ℕ)) (packet : Packet) (wanted : Hook) (most : ℕ) (last : Option Chain) (chain : Chain) (chosen found : Verdict) (c c1 c2 : Course) (j j1 j2 : Option (List LogLine)) (n n1 n2 : ℕ) → next_at wanted last rules.chains ≡ Some chain → is_accept chosen ≡ true → Tells chosen (meet_one rules leaving packet chain) c c1 j j1 n n1 → Tells found (meet rules leaving packet wanted most (Some chain)) c1 c2 j1 j2 n1 n2 → Tells found (meet rules leaving packet wanted (suc most) last) c c2 j j2 n n2
unfolding meet
met_accepted rules leaving packet wanted most last chain chosen found c c1 c2 j j1 j2 n n1 n2 is holds one other =
    rw is (accepted_told (meet_one rules leaving packet chain) (meet rules leaving packet wanted most (Some chain)) chosen found c c1 c2 j j1 j2 n n1 n2 holds one other)

pub met_refused : (rules : Ruleset) (leaving : Option (List ℕ)) (packet : Packet) (wanted : Hook) (most : ℕ) (last : Option Chain) (chain : Chain) (chosen : Verdict) (c c1 : Course) (j j1 : Option (List LogLine)) (n n1 : ℕ) → next_at wanted last rules.chains ≡ Some chain → is_accept chosen ≡ false → Tells chosen (meet_one rules leaving packet chain) c c1 j j1 n n1 → Tells chosen (meet rules leaving packet wanted (suc most) last) c c1 j j1 n n1
unfolding meet
met_refused rules leaving packet wanted most last chain chosen c c1 j j1 n n1 is fails one =
    rw is (refused_told (meet_one rules leaving packet chain) (meet rules leaving packet wanted most (Some chain)) chosen c c1 j j1 n n1 fails one)

pub met_accepted_at : (rules : Ruleset) (leaving : Option (List ℕ)) (packet : Packet) (wanted : Hook) (most less : ℕ) (last : Option Chain) (chain : Chain) (chosen found : Verdict) (c c1 c2 : Course) (j j1 j2 : Option (List LogLine)) (n n1 n2 : ℕ) → suc less ≡ most → next_at wanted last rules.chains ≡ Some chain → is_accept chosen ≡ true → Tells chosen (meet_one rules leaving packet chain) c c1 j j1 n n1 → Tells found (meet rules leaving packet wanted less (Some chain)) c1 c2 j1 j2 n1 n2 → Tells found (meet rules leaving packet wanted most last) c c2 j j2 n n2
met_accepted_at rules leaving packet wanted most less last chain chosen found c c1 c2 j j1 j2 n n1 n2 one is holds first other =
    subst (λ (m : ℕ). Tells found (meet rules leaving packet wanted m last) c c2 j j2 n n2) one (met_accepted rules leaving packet wanted less last chain chosen found c c1 c2 j j1 j2 n n1 n2 is holds first other)

pub met_refused_at : (rules : Ruleset) (leaving : Option (List ℕ)) (packet : Packet) (wanted : Hook) (most less : ℕ) (last : Option Chain) (chain : Chain) (chosen : Verdict) (c c1 : Course) (j j1 : Option (List LogLine)) (n n1 : ℕ) → suc less ≡ most → next_at wanted last rules.chains ≡ Some chain → is_accept chosen ≡ false → Tells chosen (meet_one rules leaving packet chain) c c1 j j1 n n1 → Tells chosen (meet rules leaving packet wanted most last) c c1 j j1 n n1
met_refused_at rules leaving packet wanted most less last chain chosen c c1 j j1 n n1 one is fails first =
    subst (λ (m : ℕ). Tells chosen (meet rules leaving packet wanted m last) c c1 j j1 n n1) one (met_refused rules leaving packet wanted less last chain chosen c c1 j j1 n n1 is fails first)

-- an error where lines are kept
pub error_kept : {A : Type 0} (result : Result A Memory) (step : Step A) (c c1 : Course) (j j1 : Option (List LogLine)) (n n1 : ℕ) → IsErr result → is_some j ≡ true → Answers result step c c1 j j1 n n1
error_kept (Ok found) step c c1 j j1 n n1 is kept = cc
error_kept (Err error) step c c1 j j1 n n1 is kept = kept
