-- Where no type goes on: what stands before the place of a fault begins one, and nothing that goes on with one byte more
-- is read.
use Rattle.std.proofs.Common.{◌≡◌, ℕ, zero, suc, ◌+◌, ◌-◌, ◌<◌, ◌≤◌, true, false, cond, eqb, List, [], ◌∷◌, ◌++◌, length, take, Option, Some, None, Result, Ok, Err, refl, sym, ap, subst, ◌∙◌, append_assoc, arith, inl, inr, ◌⊎◌}
use Rattle.std.specs.List.{list_all}
use Rattle.std.proofs.lemmas.Bool.{eqb-true, and_from}
use Rattle.std.proofs.lemmas.List.{append-nil, length-append}
use Rattle.std.proofs.Math.Seq.{take-append-add}
use Rattle.dbus_signature.specs.declared.kind.Basic.{Basic}
use Rattle.dbus_signature.specs.declared.kind.Basic.TheVariants as basic
use Rattle.dbus_signature.specs.declared.kind.Kind.{Kind}
use Rattle.dbus_signature.specs.declared.kind.Kind.TheVariants.{Basic as Plain, Variant, Array, Dict, Struct}
use Rattle.dbus_signature.specs.Types.{code, codes, all_codes, nests}
use Rattle.dbus_signature.specs.Reading.{Read, Reader, ◌>>=◌}
use Rattle.dbus_signature.specs.Signatures.{basic_of, basic_found, basic_at, brace_at, dict_at, plain_array_at, array_at, closing, unless_closed, members_at, struct_at, letter_at, kind_by, kind_at}
use Rattle.dbus_signature.proofs.KindLaws.{codes_plain, codes_array, codes_dict, codes_struct, kind_at_opens}
use Rattle.dbus_signature.proofs.Sound.{ok_is, not_ok, chosen, Takes, basic_takes, basic_again, nests_array, nests_dict, nests_plain, nests_struct, kind_takes}
use Rattle.dbus_signature.proofs.Complete.{starts, kind_again}

-- ---- tools

-- the step that failed
pub bind_err : {A B : Type 0} (r : Result A ℕ) (f : A → Result B ℕ) (place : ℕ) → (r >>= f) ≡ Err place → (r ≡ Err place) ⊎ ((x : A) × (r ≡ Ok x) × (f x ≡ Err place))
bind_err (Ok x) f place e = inr (x, refl, e)
bind_err (Err d) f place e = inl (let same : d ≡ place = cc in ap (λ (p : ℕ). Err p) same)

abbrev fails : {A : Type 0} → ℕ → Result A ℕ
fails place = Err place

pub err_is : {A : Type 0} (p q : ℕ) → fails {A = A} p ≡ fails {A = A} q → p ≡ q
err_is p q e = cc

pub not_err : {A : Type 0} (x : A) (place : ℕ) → Ok x ≡ fails {A = A} place → ⊥
not_err x place e = cc

-- A reader stops so far behind an offset: what stands before begins a word, and whatever follows the byte there it stops.
pub record Stop {A : Type 0} (reader : Reader A) (Word : List ℕ → Type 0) (at : ℕ) (text : List ℕ) (place : ℕ) : Type 0 where
  pub before : ℕ
  pub here : place ≡ at + before
  pub within : before ≤ length text
  pub more : List ℕ
  pub begins : Word (take before text ++ more)
  pub stays : before < length text → (others : List ℕ) → reader at (take (suc before) text ++ others) ≡ Err place

abbrev pub Stops : {A : Type 0} → Reader A → (List ℕ → Type 0) → Type 0
Stops {A} reader Word = (at : ℕ) (text : List ℕ) (place : ℕ) → reader at text ≡ Err place → Stop reader Word at text place

-- a reader that stops at once
stop_here : {A : Type 0} (reader : Reader A) (Word : List ℕ → Type 0) (at : ℕ) (text : List ℕ) (place : ℕ) (w : List ℕ) → at ≡ place → Word w → (0 < length text → (others : List ℕ) → reader at (take 1 text ++ others) ≡ Err place) → Stop reader Word at text place
stop_here reader Word at text place w is word stays = record { before = 0; here = omega arith; within = omega arith; more = w; begins = word; stays = stays }

-- what a reader knows of what it reads
record Knows {A : Type 0} (reader : Reader A) (Is : A → Type 0) (spelt : A → List ℕ) : Type 0 where
  took : (at : ℕ) (text : List ℕ) (x : A × ℕ × List ℕ) → reader at text ≡ Ok x → Takes at text (spelt x.0) x.1 x.2 × Is x.0
  again : (at : ℕ) (x : A) (rest : List ℕ) → Is x → reader at (spelt x ++ rest) ≡ Ok (x, at + length (spelt x), rest)

-- one reader and then another
then_stops : {A B : Type 0} (first : Reader A) (second : A → Reader B) (Is : A → Type 0) (spelt : A → List ℕ) (One Whole : List ℕ → Type 0) (Two : A → List ℕ → Type 0)
    → Knows first Is spelt → Stops first One → ((x : A) → Is x → Stops (second x) (Two x))
    → ((w : List ℕ) → One w → (v : List ℕ) × Whole (w ++ v)) → ((x : A) → Is x → (w : List ℕ) → Two x w → Whole (spelt x ++ w))
    → Stops (λ at text. first at text >>= λ x. second x.0 x.1 x.2) Whole
then_stops {A} {B} first second Is spelt One Whole Two knows stops_first stops_second complete join at text place e =
    elim (bind_err (first at text) (λ x. second x.0 x.1 x.2) place e) [
      | inl fault ↦
          let s = stops_first at text place fault in
          let c = complete (take s.before text ++ s.more) s.begins in
          record {
            before = s.before;
            here = s.here;
            within = s.within;
            more = s.more ++ c.0;
            begins = subst Whole (append_assoc (take s.before text) s.more c.0) c.1;
            stays = λ lt others. rw (s.stays lt others) refl;
          }
      | inr found ↦
          let x = found.0 in
          let t = knows.took at text x found.1 in
          let s = stops_second x.0 t.1 x.1 x.2 place found.2 in
          let word = spelt x.0 in
          let part : take (length word + s.before) text ++ s.more ≡ word ++ (take s.before x.2 ++ s.more) = ap (λ (u : List ℕ). take (length word + s.before) u ++ s.more) t.0.parts ∙ ap (λ (u : List ℕ). u ++ s.more) (take-append-add word x.2 s.before) ∙ append_assoc word (take s.before x.2) s.more in
          let long : length text ≡ length word + length x.2 = ap length t.0.parts ∙ length-append word x.2 in
          record {
            before = length word + s.before;
            here = omega (arith, s.here, t.0.moved);
            within = omega (arith, s.within);
            more = s.more;
            begins = subst Whole (sym part) (join x.0 t.1 (take s.before x.2 ++ s.more) s.begins);
            stays = λ lt others.
                let next : suc (length word + s.before) ≡ length word + suc s.before = omega arith in
                let here : take (suc (length word + s.before)) text ++ others ≡ word ++ (take (suc s.before) x.2 ++ others) = ap (λ (n : ℕ). take n text ++ others) next ∙ ap (λ (u : List ℕ). take (length word + suc s.before) u ++ others) t.0.parts ∙ ap (λ (u : List ℕ). u ++ others) (take-append-add word x.2 (suc s.before)) ∙ append_assoc word (take (suc s.before) x.2) others in
                let goes : second x.0 (at + length word) (take (suc s.before) x.2 ++ others) ≡ Err place = subst (λ (n : ℕ). second x.0 n (take (suc s.before) x.2 ++ others) ≡ Err place) t.0.moved (s.stays (omega arith) others) in
                rw (here, knows.again at x.0 (take (suc s.before) x.2 ++ others) t.1) goes;
          }
    ]

-- a reader that reads nothing and never fails
ok_stops : {A : Type 0} (x : A) → Stops (λ at text. Ok (x, at, text)) (λ w. w ≡ [])
ok_stops x at text place e = absurd (not_err (x, at, text) place e)

-- a reader behind one byte that it knows
shifted : {A : Type 0} (inner outer : Reader A) (One Whole : List ℕ → Type 0) (at c : ℕ) (rest : List ℕ) (place : ℕ)
    → ((others : List ℕ) → outer at (c ∷ others) ≡ inner (at + 1) others) → ((w : List ℕ) → One w → Whole (c ∷ w)) → Stop inner One (at + 1) rest place → Stop outer Whole at (c ∷ rest) place
shifted inner outer One Whole at c rest place opens join s = record {
  before = suc s.before;
  here = omega (arith, s.here);
  within = omega (arith, s.within);
  more = s.more;
  begins = join (take s.before rest ++ s.more) s.begins;
  stays = λ lt others. opens (take (suc s.before) rest ++ others) ∙ s.stays (omega arith) others;
}

-- ---- words

abbrev IsKey : List ℕ → Type 0
IsKey w = (b : Basic) × (w ≡ code b ∷ [])

-- a type that nests so deep
abbrev pub Word : ℕ → ℕ → List ℕ → Type 0
Word a s w = (k : Kind) × (w ≡ codes k) × (nests k a s ≡ true)

abbrev Nested : ℕ → ℕ → Kind → Type 0
Nested a s k = nests k a s ≡ true

a_letter : (a s : ℕ) → Word a s (121 ∷ [])
a_letter a s = (Plain basic.Byte, sym (codes_plain basic.Byte), nests_plain basic.Byte a s)

key_stops : Stops basic_at IsKey
key_stops at [] place e = stop_here basic_at IsKey at [] place (121 ∷ []) (err_is at place e) (basic.Byte, refl) (λ lt. absurd (omega arith))
key_stops at (c ∷ rest) place e = by_found (basic_of c) refl e where
  by_found : (found : Option Basic) → basic_of c ≡ found → basic_found at rest found ≡ Err place → Stop basic_at IsKey at (c ∷ rest) place
  by_found None is e = stop_here basic_at IsKey at (c ∷ rest) place (121 ∷ []) (err_is at place e) (basic.Byte, refl) (λ lt others. rw is e)
  by_found (Some b) is e = absurd (not_err (b, at + 1, rest) place e)

key_knows : Knows basic_at (λ b. Unit {0}) (λ b. code b ∷ [])
key_knows = record {
  took = λ at text x is. (basic_takes at text x is, tt);
  again = λ at b rest is. basic_again b at rest;
}

abbrev IsBrace : List ℕ → Type 0
IsBrace w = w ≡ 125 ∷ []

brace_stops : Stops brace_at IsBrace
brace_stops at [] place e = stop_here brace_at IsBrace at [] place (125 ∷ []) (err_is at place e) refl (λ lt. absurd (omega arith))
brace_stops at (c ∷ rest) place e =
    elim (chosen (eqb c 125) (Ok (tt, at + 1, rest)) (Err at) (Err place) e) [
      | inl p ↦ absurd (not_err (tt, at + 1, rest) place p.1)
      | inr p ↦ stop_here brace_at IsBrace at (c ∷ rest) place (125 ∷ []) (err_is at place p.1) refl (λ lt others. rw p.0 (ap (λ (n : ℕ). Err n) (err_is at place p.1)))
    ]

brace_takes : (at : ℕ) (text : List ℕ) (x : Unit {0} × ℕ × List ℕ) → brace_at at text ≡ Ok x → Takes at text (125 ∷ []) x.1 x.2
brace_takes at [] x e = absurd (not_ok at x e)
brace_takes at (c ∷ rest) x e =
    elim (chosen (eqb c 125) (Ok (tt, at + 1, rest)) (Err at) (Ok x) e) [
      | inl p ↦ subst (λ (y : Unit {0} × ℕ × List ℕ). Takes at (c ∷ rest) (125 ∷ []) y.1 y.2) (ok_is (tt, at + 1, rest) x p.1)
          (record { parts = ap (λ (l : ℕ). l ∷ rest) (eqb-true c 125 p.0); moved = refl })
      | inr p ↦ absurd (not_ok at x p.1)
    ]

brace_knows : Knows brace_at (λ u. Unit {0}) (λ u. 125 ∷ [])
brace_knows = record { took = λ at text x is. (brace_takes at text x is, tt); again = λ at u rest is. refl }

-- ---- types over the readers of what stands in them

-- an inner reader of types that nest so deep
record Inner (inner : Reader Kind) (a s : ℕ) : Type 0 where
  knows : Knows inner (Nested a s) codes
  stops : Stops inner (Word a s)

letter_stops : (a s : ℕ) → Stops letter_at (Word a s)
unfolding letter_at
letter_stops a s = then_stops basic_at (λ b at text. Ok (Plain b, at, text)) (λ b. Unit {0}) (λ b. code b ∷ []) IsKey (Word a s) (λ b w. w ≡ []) key_knows key_stops
    (λ b is. ok_stops (Plain b))
    (λ w key. ([], (Plain key.0, append-nil w ∙ key.1 ∙ sym (codes_plain key.0), nests_plain key.0 a s)))
    (λ b is w none. (Plain b, ap (λ (u : List ℕ). code b ∷ u) none ∙ sym (codes_plain b), nests_plain b a s))

-- what may stand behind an `a`
abbrev Behind_a : ℕ → ℕ → List ℕ → Type 0
Behind_a a s w = Word (suc a) s (97 ∷ w)

an_array : (a s : ℕ) (w : List ℕ) (k : Kind) → w ≡ codes k → Nested a s k → Behind_a a s w
an_array a s w k is nested = (Array k, ap (λ (u : List ℕ). 97 ∷ u) is ∙ sym (codes_array k), nests_array k a s ∙ nested)

plain_stops : (inner : Reader Kind) (a s : ℕ) → Inner inner a s → Stops (plain_array_at inner) (Behind_a a s)
unfolding plain_array_at
plain_stops inner a s i = then_stops inner (λ k at text. Ok (Array k, at, text)) (Nested a s) codes (Word a s) (Behind_a a s) (λ k w. w ≡ []) i.knows i.stops
    (λ k is. ok_stops (Array k))
    (λ w word. ([], an_array a s (w ++ []) word.0 (append-nil w ∙ word.1) word.2))
    (λ k is w none. an_array a s (codes k ++ w) k (ap (λ (u : List ℕ). codes k ++ u) none ∙ append-nil (codes k)) is)

-- what may stand behind an `a{`, and behind its key
abbrev Behind_brace : ℕ → ℕ → List ℕ → Type 0
Behind_brace a s w = Word (suc a) s (97 ∷ 123 ∷ w)

abbrev Behind_key : ℕ → ℕ → List ℕ → Type 0
Behind_key a s w = (k : Kind) × (w ≡ codes k ++ 125 ∷ []) × Nested a s k

a_dict : (a s : ℕ) (w : List ℕ) (b : Basic) (k : Kind) → w ≡ code b ∷ codes k ++ 125 ∷ [] → Nested a s k → Behind_brace a s w
a_dict a s w b k is nested = (Dict b k, ap (λ (u : List ℕ). 97 ∷ 123 ∷ u) is ∙ sym (codes_dict b k), nests_dict b k a s ∙ nested)

value_stops : (inner : Reader Kind) (a s : ℕ) (b : Basic) → Inner inner a s → Stops (λ at text. inner at text >>= λ value. brace_at value.1 value.2 >>= λ close. Ok (Dict b value.0, close.1, close.2)) (Behind_key a s)
value_stops inner a s b i = then_stops inner (λ k at text. brace_at at text >>= λ close. Ok (Dict b k, close.1, close.2)) (Nested a s) codes (Word a s) (Behind_key a s) (λ k. IsBrace) i.knows i.stops
    (λ k is. then_stops brace_at (λ u at text. Ok (Dict b k, at, text)) (λ u. Unit {0}) (λ u. 125 ∷ []) IsBrace IsBrace (λ u w. w ≡ []) brace_knows brace_stops
    (λ u h. ok_stops (Dict b k)) (λ w h. ([], append-nil w ∙ h)) (λ u h w none. ap (λ (v : List ℕ). 125 ∷ v) none))
    (λ w word. (125 ∷ [], (word.0, ap (λ (u : List ℕ). u ++ 125 ∷ []) word.1, word.2)))
    (λ k is w brace. (k, ap (λ (u : List ℕ). codes k ++ u) brace, is))

dict_stops : (inner : Reader Kind) (a s : ℕ) → Inner inner a s → Stops (dict_at inner) (Behind_brace a s)
unfolding dict_at
dict_stops inner a s i = then_stops basic_at (λ b at text. inner at text >>= λ value. brace_at value.1 value.2 >>= λ close. Ok (Dict b value.0, close.1, close.2)) (λ b. Unit {0}) (λ b. code b ∷ []) IsKey (Behind_brace a s) (λ b. Behind_key a s) key_knows key_stops
    (λ b is. value_stops inner a s b i)
    (λ w key. (121 ∷ 125 ∷ [], a_dict a s (w ++ (121 ∷ 125 ∷ [])) key.0 (Plain basic.Byte) (ap (λ (u : List ℕ). u ++ (121 ∷ 125 ∷ [])) key.1 ∙ ap (λ (u : List ℕ). code key.0 ∷ u ++ 125 ∷ []) (sym (codes_plain basic.Byte))) (nests_plain basic.Byte a s)))
    (λ b is w value. a_dict a s (code b ∷ w) b value.0 (ap (λ (u : List ℕ). code b ∷ u) value.1) value.2)

array_stops : (inner : Reader Kind) (a s : ℕ) → Inner inner a s → Stops (array_at inner) (Behind_a a s)
array_stops inner a s i at [] place e =
    let p = plain_stops inner a s i at [] place e in
    record { before = p.before; here = p.here; within = p.within; more = p.more; begins = p.begins; stays = λ lt. absurd (omega (arith, p.within)) }
array_stops inner a s i at (c ∷ rest) place e =
    elim (chosen (eqb c 123) (dict_at inner (at + 1) rest) (plain_array_at inner at (c ∷ rest)) (Err place) e) [
      | inl p ↦ shifted (dict_at inner) (array_at inner) (Behind_brace a s) (Behind_a a s) at c rest place (λ others. rw p.0 refl)
          (λ w word. subst (λ (l : ℕ). Word (suc a) s (97 ∷ l ∷ w)) (sym (eqb-true c 123 p.0)) word) (dict_stops inner a s i (at + 1) rest place p.1)
      | inr p ↦
          let q = plain_stops inner a s i at (c ∷ rest) place p.1 in
          record { before = q.before; here = q.here; within = q.within; more = q.more; begins = q.begins; stays = λ lt others. let h : plain_array_at inner at (c ∷ take q.before rest ++ others) ≡ Err place = q.stays lt others in rw p.0 h }
    ]

-- ---- members

abbrev AllNested : ℕ → ℕ → List Kind → Type 0
AllNested a s ks = list_all (λ k. nests k a s) ks ≡ true

-- members in a row, and the parenthesis
abbrev Behind_paren : ℕ → ℕ → List ℕ → Type 0
Behind_paren a s w = (ks : List Kind) × (0 < length ks) × (w ≡ all_codes ks ++ 41 ∷ []) × AllNested a s ks

a_struct : (a s : ℕ) (w : List ℕ) → Behind_paren a s w → Word a (suc s) (40 ∷ w)
a_struct a s w ([], some, is, nested) = absurd (omega arith)
a_struct a s w (k ∷ ks, some, is, nested) = (Struct (k ∷ ks), ap (λ (u : List ℕ). 40 ∷ u) is ∙ sym (codes_struct (k ∷ ks)), nests_struct k ks a s ∙ nested)

-- the members stop, whatever number bounds them
record StopMembers (inner : Reader Kind) (a s at : ℕ) (text : List ℕ) (place : ℕ) : Type 0 where
  before : ℕ
  here : place ≡ at + before
  within : before ≤ length text
  more : List ℕ
  begins : Behind_paren a s (take before text ++ more)
  stays : before < length text → (others : List ℕ) (n : ℕ) → length (take (suc before) text ++ others) ≤ n → members_at inner n at (take (suc before) text ++ others) ≡ Err place

pub some_more : (n : ℕ) (text others : List ℕ) → n < length text → (c : ℕ) × (rest : List ℕ) × (take (suc n) text ++ others ≡ c ∷ rest)
some_more n [] others lt = absurd (omega arith)
some_more n (c ∷ text) others lt = (c, take n text ++ others, refl)

-- a byte that closes nothing closes nothing, whatever follows
still_open : (m n : ℕ) (text others : List ℕ) (k : ℕ) → k < length text → closing m text ≡ None → closing n (take (suc k) text ++ others) ≡ None
still_open m n [] others k lt shut = absurd (omega arith)
still_open m n (c ∷ text) others k lt shut =
    elim (chosen (eqb c 41) (Some (m + 1, text)) None None shut) [
      | inl p ↦ absurd cc
      | inr p ↦ rw p.0 refl
    ]

member_step : (inner : Reader Kind) (n at : ℕ) (text : List ℕ) → 0 < n → members_at inner n at text ≡ (inner at text >>= λ first. unless_closed (closing first.1 first.2) (members_at inner (n - 1) first.1 first.2) >>= λ others. Ok (first.0 ∷ others.0, others.1, others.2))
unfolding members_at
member_step inner zero at text lt = absurd (omega arith)
member_step inner (suc n) at text lt = let e : suc n - 1 ≡ n = omega arith in rw e refl

unless_err : (shut : Option (ℕ × List ℕ)) (more : Read (List Kind)) (place : ℕ) → unless_closed shut more ≡ Err place → (shut ≡ None) × (more ≡ Err place)
unless_err None more place e = (refl, e)
unless_err (Some end) more place e = absurd (not_err _ place e)

next_member : (inner : Reader Kind) (a s : ℕ) → Inner inner a s → (at : ℕ) (text : List ℕ) (place : ℕ) (x : Kind × ℕ × List ℕ) → Takes at text (codes x.0) x.1 x.2 → Nested a s x.0 → closing x.1 x.2 ≡ None
    → StopMembers inner a s x.1 x.2 place → StopMembers inner a s at text place
next_member inner a s i at text place x t nested shut m =
    let word = codes x.0 in
    let long : length text ≡ length word + length x.2 = ap length t.parts ∙ length-append word x.2 in
    let some : 0 < length word = omega (arith, ap length (starts x.0).spelt) in
    let part : take (length word + m.before) text ++ m.more ≡ word ++ (take m.before x.2 ++ m.more) = ap (λ (u : List ℕ). take (length word + m.before) u ++ m.more) t.parts ∙ ap (λ (u : List ℕ). u ++ m.more) (take-append-add word x.2 m.before) ∙ append_assoc word (take m.before x.2) m.more in
    record {
      before = length word + m.before;
      here = omega (arith, m.here, t.moved);
      within = omega (arith, m.within);
      more = m.more;
      begins = (x.0 ∷ m.begins.0, omega arith, part ∙ ap (λ (u : List ℕ). word ++ u) m.begins.2 ∙ sym (append_assoc word (all_codes m.begins.0) (41 ∷ [])), and_from _ _ nested m.begins.3);
      stays = λ lt others n le.
          let rest = take (suc m.before) x.2 ++ others in
          let next : suc (length word + m.before) ≡ length word + suc m.before = omega arith in
          let here : take (suc (length word + m.before)) text ++ others ≡ word ++ rest = ap (λ (k : ℕ). take k text ++ others) next ∙ ap (λ (u : List ℕ). take (length word + suc m.before) u ++ others) t.parts ∙ ap (λ (u : List ℕ). u ++ others) (take-append-add word x.2 (suc m.before)) ∙ append_assoc word (take (suc m.before) x.2) others in
          let enough : suc (length rest) ≤ n = omega (arith, le, ap length here, length-append word rest, some) in
          let unclosed : closing (at + length word) rest ≡ None = still_open x.1 (at + length word) x.2 others m.before (omega arith) shut in
          let goes : members_at inner (n - 1) (at + length word) rest ≡ Err place = subst (λ (k : ℕ). members_at inner (n - 1) k rest ≡ Err place) t.moved (m.stays (omega arith) others (n - 1) (omega (arith, enough))) in
          rw here (member_step inner n at (word ++ rest) (omega (arith, enough)) ∙ rw (i.knows.again at x.0 rest nested, unclosed, goes) refl);
    }

members_stop : (inner : Reader Kind) (a s : ℕ) → Inner inner a s → (n at : ℕ) (text : List ℕ) (place : ℕ) → length text ≤ n → members_at inner n at text ≡ Err place → StopMembers inner a s at text place
unfolding members_at
members_stop inner a s i zero at [] place enough e = record {
  before = 0;
  here = omega (arith, err_is at place e);
  within = omega arith;
  more = 121 ∷ 41 ∷ [];
  begins = (Plain basic.Byte ∷ [], omega arith, ap (λ (u : List ℕ). (u ++ []) ++ 41 ∷ []) (sym (codes_plain basic.Byte)), and_from _ _ (nests_plain basic.Byte a s) refl);
  stays = λ lt. absurd (omega arith);
}
members_stop inner a s i zero at (c ∷ text) place enough e = absurd (omega arith)
members_stop inner a s i (suc n) at text place enough e =
    elim (bind_err (inner at text) (λ first. unless_closed (closing first.1 first.2) (members_at inner n first.1 first.2) >>= λ others. Ok (first.0 ∷ others.0, others.1, others.2)) place e) [
      | inl fault ↦
          let t = i.stops at text place fault in
          record {
            before = t.before;
            here = t.here;
            within = t.within;
            more = t.more ++ 41 ∷ [];
            begins = (t.begins.0 ∷ [], omega arith, sym (append_assoc (take t.before text) t.more (41 ∷ [])) ∙ ap (λ (u : List ℕ). u ++ 41 ∷ []) (t.begins.1 ∙ sym (append-nil (codes t.begins.0))), and_from _ _ t.begins.2 refl);
            stays = λ lt others m le.
                let some = some_more t.before text others lt in
                let long : 0 < m = omega (arith, ap length some.2) in
                member_step inner m at (take (suc t.before) text ++ others) long ∙ rw (t.stays lt others) refl;
          }
      | inr found ↦
          let x = found.0 in
          let t = i.knows.took at text x found.1 in
          elim (bind_err (unless_closed (closing x.1 x.2) (members_at inner n x.1 x.2)) (λ others. Ok (x.0 ∷ others.0, others.1, others.2)) place found.2) [
            | inr others ↦ absurd (not_err _ place others.2)
            | inl fault ↦
                let open_still = unless_err (closing x.1 x.2) (members_at inner n x.1 x.2) place fault in
                let first = starts x.0 in
                let long : length text ≡ length (codes x.0) + length x.2 = ap length t.0.parts ∙ length-append (codes x.0) x.2 in
                next_member inner a s i at text place x t.0 t.1 open_still.0 (members_stop inner a s i n x.1 x.2 place (omega (arith, ap length first.spelt)) open_still.1)
          ]
    ]

struct_stops : (inner : Reader Kind) (a s : ℕ) → Inner inner a s → Stops (struct_at inner) (λ w. Word a (suc s) (40 ∷ w))
unfolding struct_at
struct_stops inner a s i at text place e =
    elim (bind_err (members_at inner (length text) at text) (λ members. Ok (Struct members.0, members.1, members.2)) place e) [
      | inr found ↦ absurd (not_err _ place found.2)
      | inl fault ↦
          let m = members_stop inner a s i (length text) at text place (omega arith) fault in
          record {
            before = m.before;
            here = m.here;
            within = m.within;
            more = m.more;
            begins = a_struct a s (take m.before text ++ m.more) m.begins;
            stays = λ lt others. rw (m.stays lt others (length (take (suc m.before) text ++ others)) (omega arith)) refl;
          }
    ]

-- ---- one type

abbrev KindStops : ℕ → ℕ → (in_array in_struct : Reader Kind) → ℕ → List ℕ → ℕ → Type 0
KindStops a s in_array in_struct at text place = Stop (kind_by a s in_array in_struct) (Word a s) at text place

more_arrays : (a s : ℕ) → (eqb a 0 ≡ false) → (w : List ℕ) → Behind_a (a - 1) s w → Word a s (97 ∷ w)
more_arrays zero s some w word = absurd cc
more_arrays (suc a) s some w word = let e : suc (suc a - 1) ≡ suc a = omega arith in subst (λ (n : ℕ). Word n s (97 ∷ w)) e word

more_structs : (a s : ℕ) → (eqb s 0 ≡ false) → (w : List ℕ) → Word a (suc (s - 1)) (40 ∷ w) → Word a s (40 ∷ w)
more_structs a zero some w word = absurd cc
more_structs a (suc s) some w word = let e : suc (suc s - 1) ≡ suc s = omega arith in subst (λ (n : ℕ). Word a n (40 ∷ w)) e word

by_stops : (in_array in_struct : Reader Kind) (a s : ℕ) → (0 < a → Inner in_array (a - 1) s) → (0 < s → Inner in_struct a (s - 1)) → Stops (kind_by a s in_array in_struct) (Word a s)
by_stops in_array in_struct a s arrays structs at [] place e = stop_here (kind_by a s in_array in_struct) (Word a s) at [] place (121 ∷ []) (err_is at place e) (a_letter a s) (λ lt. absurd (omega arith))
by_stops in_array in_struct a s arrays structs at (c ∷ rest) place e =
    elim (chosen (eqb c 97) (cond (eqb a 0) (Err at) (array_at in_array (at + 1) rest)) _ (Err place) e) [
      | inl p ↦ elim (chosen (eqb a 0) (Err at) (array_at in_array (at + 1) rest) (Err place) p.1) [
        | inl q ↦ stop_here (kind_by a s in_array in_struct) (Word a s) at (c ∷ rest) place (121 ∷ []) (err_is at place q.1) (a_letter a s) (λ lt others. rw (p.0, q.0) (ap (λ (n : ℕ). Err n) (err_is at place q.1)))
        | inr q ↦ shifted (array_at in_array) (kind_by a s in_array in_struct) (Behind_a (a - 1) s) (Word a s) at c rest place (λ others. rw (p.0, q.0) refl)
            (λ w word. subst (λ (l : ℕ). Word a s (l ∷ w)) (sym (eqb-true c 97 p.0)) (more_arrays a s q.0 w word)) (array_stops in_array (a - 1) s (arrays (above a q.0)) (at + 1) rest place q.1)
      ]
      | inr p ↦ elim (chosen (eqb c 40) (cond (eqb s 0) (Err at) (struct_at in_struct (at + 1) rest)) _ (Err place) p.1) [
        | inl q ↦ elim (chosen (eqb s 0) (Err at) (struct_at in_struct (at + 1) rest) (Err place) q.1) [
          | inl r ↦ stop_here (kind_by a s in_array in_struct) (Word a s) at (c ∷ rest) place (121 ∷ []) (err_is at place r.1) (a_letter a s) (λ lt others. rw (p.0, q.0, r.0) (ap (λ (n : ℕ). Err n) (err_is at place r.1)))
          | inr r ↦ shifted (struct_at in_struct) (kind_by a s in_array in_struct) (λ w. Word a (suc (s - 1)) (40 ∷ w)) (Word a s) at c rest place (λ others. rw (p.0, q.0, r.0) refl)
              (λ w word. subst (λ (l : ℕ). Word a s (l ∷ w)) (sym (eqb-true c 40 q.0)) (more_structs a s r.0 w word)) (struct_stops in_struct a (s - 1) (structs (above s r.0)) (at + 1) rest place r.1)
        ]
        | inr q ↦ elim (chosen (eqb c 118) (Ok (Variant, at + 1, rest)) (letter_at at (c ∷ rest)) (Err place) q.1) [
          | inl r ↦ absurd (not_err _ place r.1)
          | inr r ↦
              let t = letter_stops a s at (c ∷ rest) place r.1 in
              record { before = t.before; here = t.here; within = t.within; more = t.more; begins = t.begins; stays = λ lt others. let h : letter_at at (c ∷ take t.before rest ++ others) ≡ Err place = t.stays lt others in rw (p.0, q.0, r.0) h }
        ]
      ]
    ]
  where
    above : (n : ℕ) → eqb n 0 ≡ false → 0 < n
    above zero no_more = absurd cc
    above (suc n) some = omega arith

kind_inner : (n a s : ℕ) → a + s ≤ n → Stops (kind_at a s) (Word a s) → Inner (kind_at a s) a s
kind_inner n a s le stops = record {
  knows = record { took = λ at text x is. kind_takes n a s le at text x is; again = λ at k rest nested. kind_again n a s le k at rest nested };
  stops = stops;
}

opened : (a s at : ℕ) (text : List ℕ) (place : ℕ) → kind_at a s at text ≡ Err place → kind_by a s (kind_at (a - 1) s) (kind_at a (s - 1)) at text ≡ Err place
opened a s at text place e = sym (kind_at_opens a s at text) ∙ e

closed : (a s at : ℕ) (text : List ℕ) (place : ℕ) → KindStops a s (kind_at (a - 1) s) (kind_at a (s - 1)) at text place → Stop (kind_at a s) (Word a s) at text place
closed a s at text place t = record { before = t.before; here = t.here; within = t.within; more = t.more; begins = t.begins; stays = λ lt others. kind_at_opens a s at (take (suc t.before) text ++ others) ∙ t.stays lt others }

pub kind_stops : (n a s : ℕ) → a + s ≤ n → Stops (kind_at a s) (Word a s)
kind_stops zero a s le at text place e =
    closed a s at text place (by_stops (kind_at (a - 1) s) (kind_at a (s - 1)) a s (λ some. absurd (omega arith)) (λ some. absurd (omega arith)) at text place (opened a s at text place e))
kind_stops (suc n) a s le at text place e =
    closed a s at text place (by_stops (kind_at (a - 1) s) (kind_at a (s - 1)) a s
    (λ some. kind_inner n (a - 1) s (omega arith) (kind_stops n (a - 1) s (omega arith)))
    (λ some. kind_inner n a (s - 1) (omega arith) (kind_stops n a (s - 1) (omega arith))) at text place (opened a s at text place e))
