-- The hooks that the code goes through are those of the relation.
use Rattle.std.proofs.Common.{◌≡◌, ℕ, zero, suc, ◌+◌, ◌≤◌, Bool, true, false, ◌||◌, List, [], ◌∷◌, ◌++◌, codes, length, Option, None, Some, slice_get, refl, sym, ap, subst, append_assoc, append-nil, if◌then◌else◌, arith}
use Rattle.std.specs.List.{list_all}
use Rattle.std.proofs.lemmas.Cmp.{nat_list_cmp_total, tied_itself}
use Rattle.fw_addr.specs.declared.log.LogLine.{LogLine}
use Rattle.fw_model.specs.declared.outcome.Verdict.{Verdict}
use Rattle.fw_model.specs.declared.outcome.Verdict.TheVariants as verdict
use Rattle.fw_model.specs.declared.packet.Origin.{Origin}
use Rattle.fw_model.specs.declared.packet.Origin.TheVariants as origin
use Rattle.fw_model.specs.declared.packet.Packet.{Packet}
use Rattle.fw_model.specs.declared.packet.Via.{Via}
use Rattle.fw_model.specs.declared.packet.Via.TheVariants as via
use Rattle.nf_chains.proofs.Bridge.{Goes_on, behind_seen, carry}
use Rattle.nf_chains.proofs.Order.{at_most_all, fewer_by_one, next_found, none_next, waiting}
use Rattle.nf_chains.proofs.Sound.{base_runs, both}
use Rattle.nf_chains.specs.Courses.{moment, routed_now, started}
use Rattle.nf_chains.specs.Evaluation.{Ends}
use Rattle.nf_chains.specs.Evaluation.Ends.{ends}
use Rattle.nf_chains.specs.Hooks.{Goes, Meets, Passes, Stop, is_filter, is_new, next_at, out_by, stops_behind, stops_before}
use Rattle.nf_chains.specs.Hooks.Goes.{refused as turned_away, routed_on}
use Rattle.nf_chains.specs.Hooks.Meets.{passed, accepted, refused, translated, held_back, passed_by}
use Rattle.nf_chains.specs.Hooks.Passes.{through, further, stopped}
use Rattle.nf_chains.specs.Moments.{Moment, first_moment}
use Rattle.nf_chains.specs.Runs.{Step, at_once, behind_host, behind_link, by_route, evaluated, if_accepted, meet, meet_all, meet_next, meet_one, pass_on, policy, run, run_base}
use Rattle.nf_chains.specs.declared.course.Course.{Course}
use Rattle.nf_chains.specs.declared.flow.Flow.{Flow}
use Rattle.nf_chains.specs.declared.flow.Flow.TheVariants as flow
use Rattle.nf_rules.specs.declared.chain.Chain.{Chain}
use Rattle.nf_rules.specs.declared.chain.Hook.{Hook}
use Rattle.nf_rules.specs.declared.chain.Hook.TheVariants as hook
use Rattle.nf_rules.specs.declared.ruleset.Ruleset.{Ruleset}
use Rattle.nf_sound.proofs.Order.{called_at}
use Rattle.nf_sound.specs.Names.{chain_of}
use Rattle.nf_sound.specs.Sound.{SoundRules, rule_stands}

add_zero : (n : ℕ) → n ≡ n + 0
add_zero n = omega arith

-- nothing more was logged or looked at
still : (packet : Packet) (course : Course) (P : Moment → Type 0) (lines : List LogLine) (looked : ℕ) → P (moment packet course lines looked) → P (moment packet course (lines ++ []) (looked + 0))
still packet course P lines looked here = carry packet course P lines (lines ++ []) looked (looked + 0) (sym (append-nil lines)) (add_zero looked) here

of_at : {T : Type 0} (p : T → Bool) (items : List T) (place : ℕ) (item : T) → slice_get items place ≡ Some item → list_all p items ≡ true → p item ≡ true
of_at p [] place item at all = cc
of_at p (first ∷ items) zero item at all =
    let parts = both (p first) (list_all p items) all in
    let same : first ≡ item = cc in
    rw (← same) parts.0
of_at p (first ∷ items) (suc place) item at all = of_at p items place item at (both (p first) (list_all p items) all).1

policy_so : (rules : Ruleset) (leaving : Option (List ℕ)) (came : Flow) (now : Moment) → Goes_on rules leaving [] came now (policy came) now
policy_so rules leaving flow.Back now = ends
policy_so rules leaving (flow.Ended chosen) now = (refl, refl)

-- a base chain
base_so : (rules : Ruleset) (leaving : Option (List ℕ)) (packet : Packet) → SoundRules rules → (chain : Chain) (place : ℕ) → slice_get rules.chains place ≡ Some chain → (course : Course) (lines : List LogLine) (looked : ℕ)
    → Ends rules leaving [] chain.rules [] (moment packet course lines looked) (run_base rules leaving packet chain course).found (behind_seen packet (run_base rules leaving packet chain course) lines looked)
base_so rules leaving packet sound chain place at course lines looked =
    let stands = of_at (λ one. list_all (rule_stands rules) one.rules) rules.chains place chain at sound.rules_stand in
    let found : chain_of rules.chains chain.name ≡ Some chain = called_at (λ one. one.name) chain.name rules.chains place chain sound.by_name.chains at (tied_itself nat_list_cmp_total chain.name) in
    let came = run rules leaving packet 16 chain.rules course in
    let end = behind_seen packet came lines looked in
    (base_runs rules leaving packet sound chain found stands).so [] course lines looked (policy came.found) end (policy_so rules leaving came.found end)

-- a base chain that is met, what it decides, and what comes behind it
filter_so : (rules : Ruleset) (leaving : Option (List ℕ)) (packet : Packet) (wanted : Hook) (last : Option Chain) (chain : Chain) → next_at wanted last rules.chains ≡ Some chain → is_filter chain.base ≡ true
    → (chosen : Verdict) (rest : Step Verdict) (now : Moment) (course : Course) (lines : List LogLine) (looked : ℕ)
    → Ends rules leaving [] chain.rules [] now chosen (moment packet course lines looked)
    → Meets rules leaving wanted (Some chain) (moment packet course lines looked) (rest course).found (behind_seen packet (rest course) lines looked)
    → Meets rules leaving wanted last now (if_accepted rest chosen course).found (behind_seen packet (if_accepted rest chosen course) lines looked)
filter_so rules leaving packet wanted last chain found filters verdict.Accept rest now course lines looked here there = accepted found filters here there
filter_so rules leaving packet wanted last chain found filters verdict.Drop rest now course lines looked here there =
    still packet course (λ end. Meets rules leaving wanted last now verdict.Drop end) lines looked (refused found filters here refl)
filter_so rules leaving packet wanted last chain found filters (verdict.Reject kind) rest now course lines looked here there =
    still packet course (λ end. Meets rules leaving wanted last now (verdict.Reject kind) end) lines looked (refused found filters here refl)

nat_so : (rules : Ruleset) (leaving : Option (List ℕ)) (packet : Packet) (wanted : Hook) (last : Option Chain) (chain : Chain) → next_at wanted last rules.chains ≡ Some chain → is_filter chain.base ≡ false → is_new packet ≡ true
    → (chosen : Verdict) (rest : Step Verdict) (first : Course) (before : List LogLine) (seen : ℕ) (course : Course) (lines : List LogLine) (looked : ℕ)
    → Ends rules leaving [] chain.rules [] (moment packet first before seen) chosen (moment packet course lines looked)
    → Meets rules leaving wanted (Some chain) (moment packet course lines looked) (rest course).found (behind_seen packet (rest course) lines looked)
    → Meets rules leaving wanted last (moment packet first before seen) (if_accepted rest chosen course).found (behind_seen packet (if_accepted rest chosen course) lines looked)
nat_so rules leaving packet wanted last chain found nat new verdict.Accept rest first before seen course lines looked here there = translated found nat new here there
nat_so rules leaving packet wanted last chain found nat new verdict.Drop rest first before seen course lines looked here there =
    still packet course (λ end. Meets rules leaving wanted last (moment packet first before seen) verdict.Drop end) lines looked (held_back found nat new here refl)
nat_so rules leaving packet wanted last chain found nat new (verdict.Reject kind) rest first before seen course lines looked here there =
    still packet course (λ end. Meets rules leaving wanted last (moment packet first before seen) (verdict.Reject kind) end) lines looked (held_back found nat new here refl)

-- what a base chain gives, where it is met or isn't
abbrev met : Ruleset → Option (List ℕ) → Packet → Chain → Bool → Bool → Step Verdict
met rules leaving packet chain filters new = if filters || new then run_base rules leaving packet chain else at_once verdict.Accept

one_so : (rules : Ruleset) (leaving : Option (List ℕ)) (packet : Packet) → SoundRules rules → (wanted : Hook) (last : Option Chain) (chain : Chain) (place : ℕ) → next_at wanted last rules.chains ≡ Some chain → slice_get rules.chains place ≡ Some chain
    → (rest : Step Verdict)
    → ((course : Course) (lines : List LogLine) (looked : ℕ) → Meets rules leaving wanted (Some chain) (moment packet course lines looked) (rest course).found (behind_seen packet (rest course) lines looked))
    → (course : Course) (lines : List LogLine) (looked : ℕ) (filters new : Bool) → is_filter chain.base ≡ filters → is_new packet ≡ new
    → Meets rules leaving wanted last (moment packet course lines looked)
    (if_accepted rest (met rules leaving packet chain filters new course).found (met rules leaving packet chain filters new course).course).found
    (behind_seen packet (if_accepted rest (met rules leaving packet chain filters new course).found (met rules leaving packet chain filters new course).course) (lines ++ (met rules leaving packet chain filters new course).lines) (looked + (met rules leaving packet chain filters new course).looked))
one_so rules leaving packet sound wanted last chain place found at rest later course lines looked true new filter is =
    let base = run_base rules leaving packet chain course in
    filter_so rules leaving packet wanted last chain found filter base.found rest (moment packet course lines looked) base.course (lines ++ base.lines) (looked + base.looked)
    (base_so rules leaving packet sound chain place at course lines looked) (later base.course (lines ++ base.lines) (looked + base.looked))
one_so rules leaving packet sound wanted last chain place found at rest later course lines looked false true filter is =
    let base = run_base rules leaving packet chain course in
    nat_so rules leaving packet wanted last chain found filter is base.found rest course lines looked base.course (lines ++ base.lines) (looked + base.looked)
    (base_so rules leaving packet sound chain place at course lines looked) (later base.course (lines ++ base.lines) (looked + base.looked))
one_so rules leaving packet sound wanted last chain place found at rest later course lines looked false false filter is =
    carry packet (rest course).course (λ end. Meets rules leaving wanted last (moment packet course lines looked) (rest course).found end) _ _ _ _
    (ap (λ (l : List LogLine). l ++ (rest course).lines) (sym (append-nil lines))) (omega arith)
    (passed_by found filter is (later course lines looked))

next_so : (rules : Ruleset) (leaving : Option (List ℕ)) (packet : Packet) → SoundRules rules → (wanted : Hook) (behind : Option Chain → Step Verdict) (last : Option Chain) (found : Option Chain) → next_at wanted last rules.chains ≡ found
    → ((chain : Chain) → next_at wanted last rules.chains ≡ Some chain → (course : Course) (lines : List LogLine) (looked : ℕ) → Meets rules leaving wanted (Some chain) (moment packet course lines looked) (behind (Some chain) course).found (behind_seen packet (behind (Some chain) course) lines looked))
    → (course : Course) (lines : List LogLine) (looked : ℕ)
    → Meets rules leaving wanted last (moment packet course lines looked) (meet_next (meet_one rules leaving packet) behind found course).found (behind_seen packet (meet_next (meet_one rules leaving packet) behind found course) lines looked)
next_so rules leaving packet sound wanted behind last None is rest course lines looked =
    still packet course (λ end. Meets rules leaving wanted last (moment packet course lines looked) verdict.Accept end) lines looked (passed is)
next_so rules leaving packet sound wanted behind last (Some chain) is rest course lines looked =
    let there = next_found wanted last rules.chains chain is in
    let one = meet_one rules leaving packet chain course in
    let next = if_accepted (behind (Some chain)) one.found one.course in
    carry packet next.course (λ end. Meets rules leaving wanted last (moment packet course lines looked) next.found end) _ _ _ _
    (append_assoc lines one.lines next.lines) (omega arith)
    (one_so rules leaving packet sound wanted last chain there.place is there.at (behind (Some chain)) (rest chain is) course lines looked (is_filter chain.base) (is_new packet) refl refl)

meet_so : (rules : Ruleset) (leaving : Option (List ℕ)) (packet : Packet) → SoundRules rules → (wanted : Hook) (most : ℕ) (last : Option Chain) → waiting wanted last rules.chains ≤ most → (course : Course) (lines : List LogLine) (looked : ℕ)
    → Meets rules leaving wanted last (moment packet course lines looked) (meet rules leaving packet wanted most last course).found (behind_seen packet (meet rules leaving packet wanted most last course) lines looked)
unfolding meet
meet_so rules leaving packet sound wanted zero last enough course lines looked =
    still packet course (λ end. Meets rules leaving wanted last (moment packet course lines looked) verdict.Accept end) lines looked (passed (none_next wanted last rules.chains enough))
meet_so rules leaving packet sound wanted (suc most) last enough course lines looked =
    next_so rules leaving packet sound wanted (meet rules leaving packet wanted most) last (next_at wanted last rules.chains) refl
    (λ chain is course' lines' looked'. (
    let there = next_found wanted last rules.chains chain is in
    let less = fewer_by_one wanted last chain rules.chains there.place there.at there.hooked there.behind in
    meet_so rules leaving packet sound wanted most (Some chain) (omega arith) course' lines' looked'
    )) course lines looked

meet_all_so : (rules : Ruleset) (leaving : Option (List ℕ)) (packet : Packet) → SoundRules rules → (wanted : Hook) (course : Course) (lines : List LogLine) (looked : ℕ)
    → Meets rules leaving wanted None (moment packet course lines looked) (meet_all rules leaving packet wanted course).found (behind_seen packet (meet_all rules leaving packet wanted course) lines looked)
meet_all_so rules leaving packet sound wanted course lines looked =
    meet_so rules leaving packet sound wanted (length rules.chains) None (at_most_all wanted None rules.chains) course lines looked

-- the last stop
last_stop : (rules : Ruleset) (stop : Stop) (chosen : Verdict) (now end : Moment) → Meets rules stop.leaving stop.hook None now chosen end → Passes rules (stop ∷ []) now chosen end
last_stop rules stop verdict.Accept now end meets = further meets through
last_stop rules stop verdict.Drop now end meets = stopped meets refl
last_stop rules stop (verdict.Reject kind) now end meets = stopped meets refl

-- a stop, and those behind it
first_stop : (rules : Ruleset) (packet : Packet) (stop : Stop) (stops : List Stop) (chosen : Verdict) (rest : Step Verdict) (now : Moment) (course : Course) (lines : List LogLine) (looked : ℕ)
    → Meets rules stop.leaving stop.hook None now chosen (moment packet course lines looked)
    → Passes rules stops (moment packet course lines looked) (rest course).found (behind_seen packet (rest course) lines looked)
    → Passes rules (stop ∷ stops) now (if_accepted rest chosen course).found (behind_seen packet (if_accepted rest chosen course) lines looked)
first_stop rules packet stop stops verdict.Accept rest now course lines looked here there = further here there
first_stop rules packet stop stops verdict.Drop rest now course lines looked here there =
    still packet course (λ end. Passes rules (stop ∷ stops) now verdict.Drop end) lines looked (stopped here refl)
first_stop rules packet stop stops (verdict.Reject kind) rest now course lines looked here there =
    still packet course (λ end. Passes rules (stop ∷ stops) now (verdict.Reject kind) end) lines looked (stopped here refl)

one_stop_so : (rules : Ruleset) (packet : Packet) → SoundRules rules → (leaving : Option (List ℕ)) (wanted : Hook) (course : Course) (lines : List LogLine) (looked : ℕ)
    → Passes rules (record { hook = wanted; leaving = leaving } ∷ []) (moment packet course lines looked) (meet_all rules leaving packet wanted course).found (behind_seen packet (meet_all rules leaving packet wanted course) lines looked)
one_stop_so rules packet sound leaving wanted course lines looked =
    last_stop rules (record { hook = wanted; leaving = leaving }) _ _ _ (meet_all_so rules leaving packet sound wanted course lines looked)

pass_on_so : (rules : Ruleset) (packet : Packet) → SoundRules rules → (first : Hook) (name : List ℕ) (course : Course) (lines : List LogLine) (looked : ℕ)
    → Passes rules (out_by first name) (moment packet course lines looked) (pass_on rules packet first name course).found (behind_seen packet (pass_on rules packet first name course) lines looked)
pass_on_so rules packet sound first name course lines looked =
    let met = meet_all rules (Some name) packet first course in
    let rest = meet_all rules (Some name) packet hook.Postrouting in
    let next = if_accepted rest met.found met.course in
    carry packet next.course (λ end. Passes rules (out_by first name) (moment packet course lines looked) next.found end) _ _ _ _
    (append_assoc lines met.lines next.lines) (omega arith)
    (first_stop rules packet (record { hook = first; leaving = Some name }) (record { hook = hook.Postrouting; leaving = Some name } ∷ []) met.found rest (moment packet course lines looked) met.course (lines ++ met.lines) (looked + met.looked)
    (meet_all_so rules (Some name) packet sound first course lines looked)
    (one_stop_so rules packet sound (Some name) hook.Postrouting met.course (lines ++ met.lines) (looked + met.looked)))

behind_link_so : (rules : Ruleset) (packet : Packet) → SoundRules rules → (from : List ℕ) (to : Via) (course : Course) (lines : List LogLine) (looked : ℕ)
    → Passes rules (stops_behind (origin.Link from) to) (moment packet course lines looked) (behind_link rules packet to course).found (behind_seen packet (behind_link rules packet to course) lines looked)
behind_link_so rules packet sound from via.Local course lines looked = one_stop_so rules packet sound None hook.Input course lines looked
behind_link_so rules packet sound from (via.Link name) course lines looked = pass_on_so rules packet sound hook.Forward name course lines looked

behind_host_so : (rules : Ruleset) (packet : Packet) → SoundRules rules → (to : Via) (course : Course) (lines : List LogLine) (looked : ℕ)
    → Passes rules (stops_behind origin.Host to) (moment packet course lines looked) (behind_host rules packet to course).found (behind_seen packet (behind_host rules packet to course) lines looked)
behind_host_so rules packet sound via.Local course lines looked = pass_on_so rules packet sound hook.Output (codes "lo") course lines looked
behind_host_so rules packet sound (via.Link name) course lines looked = pass_on_so rules packet sound hook.Output name course lines looked

-- before routing and behind it
then_so : (rules : Ruleset) (packet : Packet) (chosen : Verdict) (rest : Step Verdict) (course : Course) (lines : List LogLine) (looked : ℕ)
    → Passes rules (stops_before packet.origin) (first_moment packet) chosen (moment packet course lines looked)
    → Passes rules (stops_behind packet.origin (routed_now packet course)) (moment packet course lines looked) (rest course).found (behind_seen packet (rest course) lines looked)
    → Goes rules packet (if_accepted rest chosen course).found (behind_seen packet (if_accepted rest chosen course) lines looked)
then_so rules packet verdict.Accept rest course lines looked before behind = routed_on before behind
then_so rules packet verdict.Drop rest course lines looked before behind =
    still packet course (λ end. Goes rules packet verdict.Drop end) lines looked (turned_away before refl)
then_so rules packet (verdict.Reject kind) rest course lines looked before behind =
    still packet course (λ end. Goes rules packet (verdict.Reject kind) end) lines looked (turned_away before refl)

-- the whole way
pub goes_so : (rules : Ruleset) (packet : Packet) → SoundRules rules → (from : Origin) → packet.origin ≡ from
    → Goes rules packet (evaluated rules packet from (started packet)).found (moment packet (evaluated rules packet from (started packet)).course (evaluated rules packet from (started packet)).lines (evaluated rules packet from (started packet)).looked)
goes_so rules packet sound origin.Host is =
    let start = started packet in
    let seen = behind_host rules packet (routed_now packet start) start in
    carry packet seen.course (λ end. Goes rules packet seen.found end) ([] ++ seen.lines) seen.lines (0 + seen.looked) seen.looked refl (omega arith)
    (routed_on {now = first_moment packet}
    (subst (λ (o : Origin). Passes rules (stops_before o) (first_moment packet) verdict.Accept (first_moment packet)) (sym is) through)
    (subst (λ (o : Origin). Passes rules (stops_behind o (routed_now packet start)) (moment packet start [] 0) seen.found (moment packet seen.course ([] ++ seen.lines) (0 + seen.looked))) (sym is) (behind_host_so rules packet sound (routed_now packet start) start [] 0)))
goes_so rules packet sound (origin.Link from) is =
    let start = started packet in
    let met = meet_all rules None packet hook.Prerouting start in
    let rest = by_route packet (behind_link rules packet) in
    let next = if_accepted rest met.found met.course in
    let there = rest met.course in
    carry packet next.course (λ end. Goes rules packet next.found end) (met.lines ++ next.lines) (met.lines ++ next.lines) ((0 + met.looked) + next.looked) (met.looked + next.looked) refl (omega arith)
    (then_so rules packet met.found rest met.course met.lines (0 + met.looked)
    (subst (λ (o : Origin). Passes rules (stops_before o) (first_moment packet) met.found (moment packet met.course ([] ++ met.lines) (0 + met.looked))) (sym is) (one_stop_so rules packet sound None hook.Prerouting start [] 0))
    (subst (λ (o : Origin). Passes rules (stops_behind o (routed_now packet met.course)) (moment packet met.course met.lines (0 + met.looked)) there.found (moment packet there.course (met.lines ++ there.lines) ((0 + met.looked) + there.looked))) (sym is) (behind_link_so rules packet sound from (routed_now packet met.course) met.course met.lines (0 + met.looked))))
