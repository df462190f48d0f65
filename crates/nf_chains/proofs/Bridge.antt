-- What a statement does in the function that the code follows is what it does in the relation.
use Rattle.std.proofs.Common.{◌≡◌, ℕ, ◌+◌, inl, Bool, true, false, List, [], ◌∷◌, ◌++◌, Option, None, Some, refl, sym, subst, ◌∙◌, append-nil, arith}
use Rattle.fw_addr.specs.declared.dnat.Dnat.{Dnat}
use Rattle.fw_addr.specs.declared.log.LogLine.{LogLine}
use Rattle.fw_addr.specs.declared.reject.RejectType.{RejectType}
use Rattle.fw_addr.specs.declared.reject.RejectType.TheVariants as reject
use Rattle.fw_model.specs.declared.outcome.Verdict.{Verdict}
use Rattle.fw_model.specs.declared.outcome.Verdict.TheVariants as verdict
use Rattle.fw_model.specs.declared.packet.Packet.{Packet}
use Rattle.nf_chains.proofs.Keys.{address_key, link_key, map_key}
use Rattle.nf_chains.specs.Courses.{masqueraded_so, moment, now_is, translated_so}
use Rattle.nf_chains.specs.Evaluation.{Ends}
use Rattle.nf_chains.specs.Evaluation.Ends.{accepts, drops, rejects, passes_over, logs, jumps, goes, returns, comes_back, marks, translates, translates_nothing, masquerades, leads_in, misses_in, leads_out, misses_out, leads_src, misses_src, leads_dst, misses_dst}
use Rattle.nf_chains.specs.Maps.{by_address, by_link, led_dst, led_in, led_out, led_src, link_of}
use Rattle.nf_chains.specs.Marks.{can_translate}
use Rattle.nf_chains.specs.Moments.{Moment}
use Rattle.nf_chains.specs.Rejects.{can_reject}
use Rattle.nf_chains.specs.Runs.{Seen, Step, act, after_jump, leading, rejected, translating}
use Rattle.nf_chains.specs.declared.course.Course.{Course}
use Rattle.nf_chains.specs.declared.flow.Flow.{Flow}
use Rattle.nf_chains.specs.declared.flow.Flow.TheVariants as flow
use Rattle.nf_chains.specs.declared.flow.Next.{Next}
use Rattle.nf_chains.specs.declared.flow.Next.TheVariants as next
use Rattle.nf_rules.specs.declared.chain.Chain.{Chain}
use Rattle.nf_rules.specs.declared.ruleset.Ruleset.{Ruleset}
use Rattle.nf_rules.specs.declared.rule.Rule.{Rule}
use Rattle.nf_rules.specs.declared.statement.Stmt.{Stmt}
use Rattle.nf_rules.specs.declared.statement.Stmt.TheVariants as stmt
use Rattle.nf_sound.specs.Names.{chain_of, map_of}
use Rattle.nf_sound.specs.Sound.{IsIn}
use Rattle.nf_sound.specs.Targets.{map_values, targets}

-- the moment behind what was seen
abbrev pub behind_seen : {A : Type 0} → Packet → Seen A → List LogLine → ℕ → Moment
behind_seen packet seen lines looked = moment packet seen.course (lines ++ seen.lines) (looked + seen.looked)

pub carry : (packet : Packet) (course : Course) (P : Moment → Type 0) (lines lines' : List LogLine) (looked looked' : ℕ) → lines ≡ lines' → looked ≡ looked' → P (moment packet course lines looked) → P (moment packet course lines' looked')
carry packet course P lines lines' looked looked' same same' there =
    subst (λ (n : ℕ). P (moment packet course lines' n)) same' (subst (λ (l : List LogLine). P (moment packet course l looked)) same there)

-- what comes of a flow
abbrev pub Goes_on : Ruleset → Option (List ℕ) → List (List Rule) → Flow → Moment → Verdict → Moment → Type 0
Goes_on rules leaving back (flow.Ended chosen) now v e = (v ≡ chosen) × (e ≡ now)
Goes_on rules leaving back flow.Back now v e = Ends rules leaving [] [] back now v e

-- of a rule that may be over
abbrev pub Goes_over : Ruleset → Option (List ℕ) → List Rule → List (List Rule) → Option Flow → Moment → Verdict → Moment → Type 0
Goes_over rules leaving behind back None now v e = Ends rules leaving [] behind back now v e
Goes_over rules leaving behind back (Some over) now v e = Goes_on rules leaving back over now v e

-- and of a statement
abbrev pub Goes_behind : Ruleset → Option (List ℕ) → List Stmt → List Rule → List (List Rule) → Next → Moment → Verdict → Moment → Type 0
Goes_behind rules leaving others behind back next.Statement now v e = Ends rules leaving others behind back now v e
Goes_behind rules leaving others behind back next.Rule now v e = Ends rules leaving [] behind back now v e
Goes_behind rules leaving others behind back (next.Over over) now v e = Goes_on rules leaving back over now v e

-- a run through a list is a way through it
pub record IsRun (rules : Ruleset) (leaving : Option (List ℕ)) (packet : Packet) (list : List Rule) (run : Step Flow) : Type 0 where
  pub so : (back : List (List Rule)) (course : Course) (lines : List LogLine) (looked : ℕ) (v : Verdict) (e : Moment)
      → Goes_on rules leaving back (run course).found (behind_seen packet (run course) lines looked) v e
      → Ends rules leaving [] list back (moment packet course lines looked) v e

-- the chain that a call leads to is there, and the call runs through it
pub record IsCall (rules : Ruleset) (leaving : Option (List ℕ)) (packet : Packet) (call : List ℕ → Step Flow) (name : List ℕ) : Type 0 where
  pub chain : Chain
  pub found : chain_of rules.chains name ≡ Some chain
  pub runs : IsRun rules leaving packet chain.rules (call name)

-- a call for each of some names
abbrev pub Calls : Ruleset → Option (List ℕ) → Packet → (List ℕ → Step Flow) → List (List ℕ) → Type 0
Calls rules leaving packet call names = (name : List ℕ) → IsIn name names → IsCall rules leaving packet call name

pub ended : (P : Verdict → Moment → Type 0) (v' v : Verdict) (now e : Moment) → P v' now → v ≡ v' → e ≡ now → P v e
ended P v' v now e here same same' = subst (λ (one : Verdict). P one e) (sym same) (subst (λ (one : Moment). P v' one) (sym same') here)

add_zero : (n : ℕ) → n + 0 ≡ n
add_zero n = omega arith

-- nothing was logged or looked at
pub plain : (packet : Packet) (course : Course) (P : Moment → Type 0) (lines : List LogLine) (looked : ℕ) → P (moment packet course (lines ++ []) (looked + 0)) → P (moment packet course lines looked)
plain packet course P lines looked there = carry packet course P (lines ++ []) lines (looked + 0) looked (append-nil lines) (add_zero looked) there

after_call : (rules : Ruleset) (leaving : Option (List ℕ)) (others : List Stmt) (behind : List Rule) (back : List (List Rule)) (came : Flow) (now : Moment) (v : Verdict) (e : Moment) → Goes_behind rules leaving others behind back (after_jump came) now v e → Goes_on rules leaving (behind ∷ back) came now v e
after_call rules leaving others behind back flow.Back now v e there = comes_back there
after_call rules leaving others behind back (flow.Ended chosen) now v e there = there

-- what can be rejected how doesn't hang on what rules rewrite
rejects_still : (kind : RejectType) (packet : Packet) (course : Course) → can_reject kind (now_is packet course) ≡ can_reject kind packet
rejects_still reject.IcmpNetUnreachable packet course = refl
rejects_still reject.IcmpHostUnreachable packet course = refl
rejects_still reject.IcmpPortUnreachable packet course = refl
rejects_still reject.IcmpProtoUnreachable packet course = refl
rejects_still reject.IcmpNetProhibited packet course = refl
rejects_still reject.IcmpHostProhibited packet course = refl
rejects_still reject.IcmpAdminProhibited packet course = refl
rejects_still reject.Icmp6NoRoute packet course = refl
rejects_still reject.Icmp6AddrUnreachable packet course = refl
rejects_still reject.Icmp6PortUnreachable packet course = refl
rejects_still reject.Icmp6AdmProhibited packet course = refl
rejects_still reject.IcmpxAdminProhibited packet course = refl
rejects_still reject.IcmpxPortUnreachable packet course = refl
rejects_still reject.TcpReset packet course = refl

reject_so : (rules : Ruleset) (leaving : Option (List ℕ)) (packet : Packet) (kind : RejectType) (test : Bool) → can_reject kind packet ≡ test
    → (others : List Stmt) (behind : List Rule) (back : List (List Rule)) (course : Course) (lines : List LogLine) (looked : ℕ) (v : Verdict) (e : Moment)
    → Goes_behind rules leaving others behind back (rejected kind test) (moment packet course lines looked) v e
    → Ends rules leaving (stmt.Reject kind ∷ others) behind back (moment packet course lines looked) v e
reject_so rules leaving packet kind true is others behind back course lines looked v e there =
    ended (λ v e. Ends rules leaving (stmt.Reject kind ∷ others) behind back (moment packet course lines looked) v e) (verdict.Reject kind) v (moment packet course lines looked) e
    (rejects (rejects_still kind packet course ∙ is)) there.0 there.1
reject_so rules leaving packet kind false is others behind back course lines looked v e there =
    passes_over (rejects_still kind packet course ∙ is) there

translate_so : (rules : Ruleset) (leaving : Option (List ℕ)) (packet : Packet) (dnat : Dnat) (test : Bool) → can_translate dnat packet ≡ test
    → (others : List Stmt) (behind : List Rule) (back : List (List Rule)) (course : Course) (lines : List LogLine) (looked : ℕ) (v : Verdict) (e : Moment)
    → Goes_behind rules leaving others behind back (translating dnat test course).found (behind_seen packet (translating dnat test course) lines looked) v e
    → Ends rules leaving (stmt.DnatTo dnat ∷ others) behind back (moment packet course lines looked) v e
translate_so rules leaving packet dnat true is others behind back course lines looked v e there =
    ended (λ v e. Ends rules leaving (stmt.DnatTo dnat ∷ others) behind back (moment packet course lines looked) v e) verdict.Accept v (moment packet (translated_so dnat course) lines looked) e
    (translates is) there.0 (plain packet (translated_so dnat course) (λ now. e ≡ now) lines looked there.1)
translate_so rules leaving packet dnat false is others behind back course lines looked v e there =
    translates_nothing is (plain packet course (λ now. Ends rules leaving others behind back now v e) lines looked there)

-- a map, whatever is looked up in it
lead_so : (rules : Ruleset) (leaving : Option (List ℕ)) (packet : Packet) (call : List ℕ → Step Flow) (names : List (List ℕ)) → Calls rules leaving packet call names
    → (found : Option (List ℕ)) → ((name : List ℕ) → found ≡ Some name → IsIn name names)
    → (statement : Stmt) (others : List Stmt) (behind : List Rule) (back : List (List Rule)) (course : Course) (lines : List LogLine) (looked : ℕ) (v : Verdict) (e : Moment)
    → ((name : List ℕ) (chain : Chain) → found ≡ Some name → chain_of rules.chains name ≡ Some chain → Ends rules leaving [] chain.rules back (moment packet course lines looked) v e → Ends rules leaving (statement ∷ others) behind back (moment packet course lines looked) v e)
    → (found ≡ None → Ends rules leaving others behind back (moment packet course lines looked) v e → Ends rules leaving (statement ∷ others) behind back (moment packet course lines looked) v e)
    → (test : Option (List ℕ)) → found ≡ test
    → Goes_behind rules leaving others behind back (leading call test course).found (behind_seen packet (leading call test course) lines looked) v e
    → Ends rules leaving (statement ∷ others) behind back (moment packet course lines looked) v e
lead_so rules leaving packet call names each found among statement others behind back course lines looked v e leads misses None is there =
    misses is (plain packet course (λ now. Ends rules leaving others behind back now v e) lines looked there)
lead_so rules leaving packet call names each found among statement others behind back course lines looked v e leads misses (Some name) is there =
    let to = each name (among name is) in
    leads name to.chain is to.found (to.runs.so back course lines looked v e there)

-- what a statement does
pub statement_so : (rules : Ruleset) (leaving : Option (List ℕ)) (packet : Packet) (call : List ℕ → Step Flow) (statement : Stmt) → Calls rules leaving packet call (targets rules.maps statement)
    → (others : List Stmt) (behind : List Rule) (back : List (List Rule)) (course : Course) (lines : List LogLine) (looked : ℕ) (v : Verdict) (e : Moment)
    → Goes_behind rules leaving others behind back (act rules leaving packet call statement course).found (behind_seen packet (act rules leaving packet call statement course) lines looked) v e
    → Ends rules leaving (statement ∷ others) behind back (moment packet course lines looked) v e
statement_so rules leaving packet call stmt.Accept each others behind back course lines looked v e there =
    ended (λ v e. Ends rules leaving (stmt.Accept ∷ others) behind back (moment packet course lines looked) v e) verdict.Accept v (moment packet course lines looked) e accepts there.0 (plain packet course (λ now. e ≡ now) lines looked there.1)
statement_so rules leaving packet call stmt.Drop each others behind back course lines looked v e there =
    ended (λ v e. Ends rules leaving (stmt.Drop ∷ others) behind back (moment packet course lines looked) v e) verdict.Drop v (moment packet course lines looked) e drops there.0 (plain packet course (λ now. e ≡ now) lines looked there.1)
statement_so rules leaving packet call (stmt.Reject kind) each others behind back course lines looked v e there =
    reject_so rules leaving packet kind (can_reject kind packet) refl others behind back course lines looked v e
    (plain packet course (λ now. Goes_behind rules leaving others behind back (rejected kind (can_reject kind packet)) now v e) lines looked there)
statement_so rules leaving packet call stmt.Return each others behind back course lines looked v e there =
    returns (plain packet course (λ now. Ends rules leaving [] [] back now v e) lines looked there)
statement_so rules leaving packet call (stmt.Jump name) each others behind back course lines looked v e there =
    let to = each name (inl refl) in
    jumps to.found (to.runs.so (behind ∷ back) course lines looked v e
    (after_call rules leaving others behind back (call name course).found (behind_seen packet (call name course) lines looked) v e there))
statement_so rules leaving packet call (stmt.Goto name) each others behind back course lines looked v e there =
    let to = each name (inl refl) in
    goes to.found (to.runs.so back course lines looked v e there)
statement_so rules leaving packet call (stmt.Log line) each others behind back course lines looked v e there =
    logs (carry packet course (λ now. Ends rules leaving others behind back now v e) _ _ _ _ refl (add_zero looked) there)
statement_so rules leaving packet call (stmt.Mark value mask) each others behind back course lines looked v e there =
    marks (plain packet _ (λ now. Ends rules leaving others behind back now v e) lines looked there)
statement_so rules leaving packet call (stmt.DnatTo dnat) each others behind back course lines looked v e there =
    translate_so rules leaving packet dnat (can_translate dnat packet) refl others behind back course lines looked v e there
statement_so rules leaving packet call stmt.Masquerade each others behind back course lines looked v e there =
    ended (λ v e. Ends rules leaving (stmt.Masquerade ∷ others) behind back (moment packet course lines looked) v e) verdict.Accept v (moment packet (masqueraded_so course) lines looked) e masquerades there.0 (plain packet (masqueraded_so course) (λ now. e ≡ now) lines looked there.1)
statement_so rules leaving packet call (stmt.VmapIn map) each others behind back course lines looked v e there =
    lead_so rules leaving packet call (map_values (map_of rules.maps map)) each (led_in rules packet map) (map_key (by_link (link_of packet.origin)) (link_key (link_of packet.origin)) (map_of rules.maps map))
    (stmt.VmapIn map) others behind back course lines looked v e (λ name chain is found ends. leads_in is found ends) (λ is ends. misses_in is ends) (led_in rules packet map) refl there
statement_so rules leaving packet call (stmt.VmapOut map) each others behind back course lines looked v e there =
    lead_so rules leaving packet call (map_values (map_of rules.maps map)) each (led_out rules leaving map) (map_key (by_link leaving) (link_key leaving) (map_of rules.maps map))
    (stmt.VmapOut map) others behind back course lines looked v e (λ name chain is found ends. leads_out is found ends) (λ is ends. misses_out is ends) (led_out rules leaving map) refl there
statement_so rules leaving packet call (stmt.VmapSrc map) each others behind back course lines looked v e there =
    lead_so rules leaving packet call (map_values (map_of rules.maps map)) each (led_src rules packet map) (map_key (by_address packet.src) (address_key packet.src) (map_of rules.maps map))
    (stmt.VmapSrc map) others behind back course lines looked v e (λ name chain is found ends. leads_src is found ends) (λ is ends. misses_src is ends) (led_src rules packet map) refl there
statement_so rules leaving packet call (stmt.VmapDst map) each others behind back course lines looked v e there =
    lead_so rules leaving packet call (map_values (map_of rules.maps map)) each (led_dst rules (now_is packet course) map) (map_key (by_address course.parts.dst) (address_key course.parts.dst) (map_of rules.maps map))
    (stmt.VmapDst map) others behind back course lines looked v e (λ name chain is found ends. leads_dst is found ends) (λ is ends. misses_dst is ends) (led_dst rules (now_is packet course) map) refl there
