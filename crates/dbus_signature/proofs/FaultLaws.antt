-- A text that is no signature, or no type, is at fault exactly where reading stops.
use Rattle.std.proofs.Common.{◌≡◌, ℕ, zero, suc, ◌+◌, ◌<◌, ◌≤◌, true, false, ltb, ◌↔◌, List, [], ◌∷◌, ◌++◌, length, take, drop, Result, Ok, Err, refl, sym, ap, subst, ◌∙◌, append_assoc, arith, inl, inr, ◌⊎◌, add-one}
use Rattle.std.proofs.lemmas.Bool.{and_from, cases_lt, ltb-true, ltb-false, lt-ltb, le-ltb}
use Rattle.std.proofs.lemmas.List.{append-nil, length-append, length-take, take-append-drop, take-take, take_at}
use Rattle.std.proofs.Math.Seq.{take-append-add}
use Rattle.dbus_signature.specs.declared.kind.Kind.{Kind}
use Rattle.dbus_signature.specs.Types.{codes, nests}
use Rattle.dbus_signature.specs.Reading.{◌>>=◌}
use Rattle.dbus_signature.specs.Signatures.{kind_at, kinds_at, kinds_of, all_kinds, signature_of, max_nesting, max_length}
use Rattle.dbus_signature.specs.FirstFault.{AreTypes, IsType, BeginsWord, FirstFault, SignatureFault}
use Rattle.dbus_signature.proofs.Sound.{ok_is, chosen, Takes, kind_takes}
use Rattle.dbus_signature.proofs.Complete.{starts, count_le, kind_again}
use Rattle.dbus_signature.proofs.Whole.{kinds_take, kinds_again, kinds_step}
use Rattle.dbus_signature.proofs.Stops.{bind_err, err_is, not_err, some_more, kind_stops}

-- ---- types in a row

record StopKinds (at : ℕ) (text : List ℕ) (place : ℕ) : Type 0 where
  before : ℕ
  here : place ≡ at + before
  within : before ≤ length text
  more : List ℕ
  begins : AreTypes (take before text ++ more)
  stays : before < length text → (others : List ℕ) (n : ℕ) → length (take (suc before) text ++ others) ≤ n → kinds_at n at (take (suc before) text ++ others) ≡ Err place

-- one step, at a text that goes on
step_at : (n at : ℕ) (text : List ℕ) (c : ℕ) (more : List ℕ) → text ≡ c ∷ more → 0 < n → (m : ℕ) × (n ≡ suc m) × (kinds_at n at text ≡ (kind_at max_nesting max_nesting at text >>= λ first. kinds_at m first.1 first.2 >>= λ others. Ok (first.0 ∷ others)))
step_at zero at text c more is some = absurd (omega arith)
step_at (suc m) at text c more is some = (m, refl, kinds_step m at text c more is)

one_more : (k : Kind) (w : List ℕ) → nests k max_nesting max_nesting ≡ true → AreTypes w → AreTypes (codes k ++ w)
one_more k w nested types = (k ∷ types.0, ap (λ (u : List ℕ). codes k ++ u) types.1, and_from _ _ nested types.2)

next_kinds : (at : ℕ) (text : List ℕ) (place : ℕ) (x : Kind × ℕ × List ℕ) → Takes at text (codes x.0) x.1 x.2 → nests x.0 max_nesting max_nesting ≡ true → StopKinds x.1 x.2 place → StopKinds at text place
next_kinds at text place x t nested m =
    let word = codes x.0 in
    let long : length text ≡ length word + length x.2 = ap length t.parts ∙ length-append word x.2 in
    let some : 0 < length word = omega (arith, ap length (starts x.0).spelt) in
    let part : take (length word + m.before) text ++ m.more ≡ word ++ (take m.before x.2 ++ m.more) = ap (λ (u : List ℕ). take (length word + m.before) u ++ m.more) t.parts ∙ ap (λ (u : List ℕ). u ++ m.more) (take-append-add word x.2 m.before) ∙ append_assoc word (take m.before x.2) m.more in
    record {
      before = length word + m.before;
      here = omega (arith, m.here, t.moved);
      within = omega (arith, m.within);
      more = m.more;
      begins = subst AreTypes (sym part) (one_more x.0 (take m.before x.2 ++ m.more) nested m.begins);
      stays = λ lt others n le.
          let rest = take (suc m.before) x.2 ++ others in
          let next : suc (length word + m.before) ≡ length word + suc m.before = omega arith in
          let here : take (suc (length word + m.before)) text ++ others ≡ word ++ rest = ap (λ (k : ℕ). take k text ++ others) next ∙ ap (λ (u : List ℕ). take (length word + suc m.before) u ++ others) t.parts ∙ ap (λ (u : List ℕ). u ++ others) (take-append-add word x.2 (suc m.before)) ∙ append_assoc word (take (suc m.before) x.2) others in
          let enough : suc (length rest) ≤ n = omega (arith, le, ap length here, length-append word rest, some) in
          let first = starts x.0 in
          let step = step_at n at (word ++ rest) first.letter (first.others ++ rest) (ap (λ (u : List ℕ). u ++ rest) first.spelt) (omega (arith, enough)) in
          let goes : kinds_at step.0 (at + length word) rest ≡ Err place = subst (λ (k : ℕ). kinds_at step.0 k rest ≡ Err place) t.moved (m.stays (omega arith) others step.0 (omega (arith, enough, step.1))) in
          rw here (step.2 ∙ rw (kind_again 64 max_nesting max_nesting (omega arith) x.0 at rest nested, goes) refl);
    }

kinds_stop : (n at : ℕ) (text : List ℕ) (place : ℕ) → length text ≤ n → kinds_at n at text ≡ Err place → StopKinds at text place
unfolding kinds_at
kinds_stop n at [] place enough e = absurd (not_err [] place e)
kinds_stop zero at (c ∷ text) place enough e = absurd (omega arith)
kinds_stop (suc n) at (c ∷ text) place enough e =
    elim (bind_err (kind_at max_nesting max_nesting at (c ∷ text)) (λ first. kinds_at n first.1 first.2 >>= λ others. Ok (first.0 ∷ others)) place e) [
      | inl fault ↦
          let t = kind_stops 64 max_nesting max_nesting (omega arith) at (c ∷ text) place fault in
          record {
            before = t.before;
            here = t.here;
            within = t.within;
            more = t.more;
            begins = (t.begins.0 ∷ [], t.begins.1 ∙ sym (append-nil (codes t.begins.0)), and_from _ _ t.begins.2 refl);
            stays = λ lt others m le.
                let some = some_more t.before (c ∷ text) others lt in
                let step = step_at m at (take (suc t.before) (c ∷ text) ++ others) some.0 some.1 some.2 (omega (arith, le, ap length some.2)) in
                step.2 ∙ rw (t.stays lt others) refl;
          }
      | inr found ↦
          let x = found.0 in
          let t = kind_takes 64 max_nesting max_nesting (omega arith) at (c ∷ text) x found.1 in
          let long : suc (length text) ≡ length (codes x.0) + length x.2 = ap length t.0.parts ∙ length-append (codes x.0) x.2 in
          elim (bind_err (kinds_at n x.1 x.2) (λ others. Ok (x.0 ∷ others)) place found.2) [
            | inr others ↦ absurd (not_err _ place others.2)
            | inl fault ↦ next_kinds at (c ∷ text) place x t.0 t.1 (kinds_stop n x.1 x.2 place (omega (arith, ap length (starts x.0).spelt)) fault)
          ]
    ]

pub read_types : (n at : ℕ) (text : List ℕ) → length text ≤ n → (types : AreTypes text) → kinds_at n at text ≡ Ok types.0
read_types n at text enough types = ap (kinds_at n at) types.1 ∙ kinds_again types.0 n at (omega (arith, count_le types.0, ap length types.1)) types.2

pub kinds_fault : (at : ℕ) (text : List ℕ) (place : ℕ) → kinds_at (length text) at text ≡ Err place → (k : ℕ) × (place ≡ at + k) × FirstFault AreTypes text k
kinds_fault at text place e =
    let s = kinds_stop (length text) at text place (omega arith) e in (
      s.before,
      s.here,
      record {
        within = s.within;
        begins = (s.more, s.begins);
        stuck = λ lt b.
            let whole : AreTypes (take (suc s.before) text ++ b.0) = rw add-one at b.1 in
            let stopped = s.stays lt b.0 (length (take (suc s.before) text ++ b.0)) (omega arith) in
            not_err _ place (sym (read_types (length (take (suc s.before) text ++ b.0)) at (take (suc s.before) text ++ b.0) (omega arith) whole) ∙ stopped);
        ended = λ same types. not_err _ place (sym (read_types (length text) at text (omega arith) types) ∙ e);
      },
    )

-- ---- there is one place at most

shorter_begins : (IsWord : List ℕ → Type 0) (text : List ℕ) (m n : ℕ) → m ≤ n → BeginsWord IsWord (take n text) → BeginsWord IsWord (take m text)
shorter_begins IsWord text m n le b =
    let split : take n text ≡ take m text ++ drop m (take n text) = sym (take-append-drop m (take n text)) ∙ ap (λ (u : List ℕ). u ++ drop m (take n text)) (take-take m n text le) in
    (drop m (take n text) ++ b.0, subst IsWord (ap (λ (u : List ℕ). u ++ b.0) split ∙ append_assoc (take m text) (drop m (take n text)) b.0) b.1)

-- a word begins as far as one likes
word_begins : (IsWord : List ℕ → Type 0) (text : List ℕ) (m : ℕ) → IsWord text → BeginsWord IsWord (take m text)
word_begins IsWord text m word = (drop m text, subst IsWord (sym (take-append-drop m text)) word)

not_before : (IsWord : List ℕ → Type 0) (text : List ℕ) (m n : ℕ) → FirstFault IsWord text m → FirstFault IsWord text n → m < n → ⊥
not_before IsWord text m n f g lt = f.stuck (omega (arith, g.within)) (shorter_begins IsWord text (m + 1) n (omega arith) g.begins)

one_place : (IsWord : List ℕ → Type 0) (text : List ℕ) (m n : ℕ) → FirstFault IsWord text m → FirstFault IsWord text n → m ≡ n
one_place IsWord text m n f g =
    elim (cases_lt m n) [
      | inl lt ↦ absurd (not_before IsWord text m n f g lt)
      | inr le ↦ elim (cases_lt n m) [
        | inl lt ↦ absurd (not_before IsWord text n m g f lt)
        | inr ge ↦ omega arith
      ]
    ]

-- what is no word has no whole one
no_word : (IsWord : List ℕ → Type 0) (text : List ℕ) (m : ℕ) → FirstFault IsWord text m → IsWord text → ⊥
no_word IsWord text m f word =
    elim (cases_lt m (length text)) [
      | inl lt ↦ f.stuck lt (word_begins IsWord text (m + 1) word)
      | inr le ↦ f.ended (omega (arith, f.within)) word
    ]

pub kinds_fault_only : (at : ℕ) (text : List ℕ) (k : ℕ) → FirstFault AreTypes text k → kinds_at (length text) at text ≡ Err (at + k)
kinds_fault_only at text k f = by_result (kinds_at (length text) at text) refl where
  by_result : (r : Result (List Kind) ℕ) → kinds_at (length text) at text ≡ r → r ≡ Err (at + k)
  by_result (Ok kinds) is = absurd (no_word AreTypes text k f (let t = kinds_take (length text) at text kinds is in (kinds, t.0, t.1)))
  by_result (Err place) is =
      let g = kinds_fault at text place is in
      let same : g.0 ≡ k = one_place AreTypes text g.0 k g.2 f in
      ap (λ (p : ℕ). Err p) (omega (arith, g.1, same))

-- ---- one type

-- Reading one type fails, or leaves bytes behind it.
abbrev pub TypeFails : ℕ → List ℕ → ℕ → Type 0
TypeFails at text place = (kind_at max_nesting max_nesting at text ≡ Err place) ⊎ ((x : Kind × ℕ × List ℕ) × (kind_at max_nesting max_nesting at text ≡ Ok x) × (0 < length x.2) × (place ≡ x.1))

pub read_type : (at : ℕ) (text : List ℕ) (type : IsType text) → kind_at max_nesting max_nesting at text ≡ Ok (type.0, at + length (codes type.0), [])
read_type at text type = ap (kind_at max_nesting max_nesting at) (type.1 ∙ sym (append-nil (codes type.0))) ∙ kind_again 64 max_nesting max_nesting (omega arith) type.0 at [] type.2

pub type_fault : (at : ℕ) (text : List ℕ) (place : ℕ) → TypeFails at text place → (k : ℕ) × (place ≡ at + k) × FirstFault IsType text k
type_fault at text place (inl e) =
    let s = kind_stops 64 max_nesting max_nesting (omega arith) at text place e in (
      s.before,
      s.here,
      record {
        within = s.within;
        begins = (s.more, s.begins);
        stuck = λ lt b.
            let whole : IsType (take (suc s.before) text ++ b.0) = rw add-one at b.1 in
            not_err _ place (sym (read_type at (take (suc s.before) text ++ b.0) whole) ∙ s.stays lt b.0);
        ended = λ same type. not_err _ place (sym (read_type at text type) ∙ e);
      },
    )
type_fault at text place (inr left) =
    let x = left.0 in
    let t = kind_takes 64 max_nesting max_nesting (omega arith) at text x left.1 in
    let word = codes x.0 in
    let long : length text ≡ length word + length x.2 = ap length t.0.parts ∙ length-append word x.2 in
    let front : take (length word) text ≡ word = ap (take (length word)) t.0.parts ∙ take_at word x.2 (length word) refl in (
      length word,
      left.3 ∙ t.0.moved,
      record {
        within = omega arith;
        begins = ([], subst IsType (sym (append-nil (take (length word) text) ∙ front)) (x.0, refl, t.1));
        stuck = λ lt b.
            let more : take (length word + 1) text ++ b.0 ≡ word ++ (take 1 x.2 ++ b.0) = ap (λ (u : List ℕ). take (length word + 1) u ++ b.0) t.0.parts ∙ ap (λ (u : List ℕ). u ++ b.0) (take-append-add word x.2 1) ∙ append_assoc word (take 1 x.2) b.0 in
            let once = kind_again 64 max_nesting max_nesting (omega arith) x.0 at (take 1 x.2 ++ b.0) t.1 in
            let same = ok_is _ _ (sym (read_type at (take (length word + 1) text ++ b.0) b.1) ∙ ap (kind_at max_nesting max_nesting at) more ∙ once) in
            let none : [] ≡ take 1 x.2 ++ b.0 = ap (λ (y : Kind × ℕ × List ℕ). y.2) same in
            absurd (omega (arith, ap length none, length-append (take 1 x.2) b.0, length-take 1 x.2, left.2));
        ended = λ same type. absurd (omega (arith, left.2));
      },
    )

pub type_fault_only : (at : ℕ) (text : List ℕ) (k : ℕ) → FirstFault IsType text k → TypeFails at text (at + k)
type_fault_only at text k f = by_result (kind_at max_nesting max_nesting at text) refl where
  placed : (place : ℕ) → TypeFails at text place → place ≡ at + k
  placed place fails = let g = type_fault at text place fails in omega (arith, g.1, one_place IsType text g.0 k g.2 f)

  by_rest : (kind : Kind) (next : ℕ) (rest : List ℕ) → kind_at max_nesting max_nesting at text ≡ Ok (kind, next, rest) → TypeFails at text (at + k)
  by_rest kind next [] is =
      let t = kind_takes 64 max_nesting max_nesting (omega arith) at text (kind, next, []) is in
      absurd (no_word IsType text k f (kind, t.0.parts ∙ append-nil (codes kind), t.1))
  by_rest kind next (c ∷ rest) is =
      let fails : TypeFails at text next = inr ((kind, next, c ∷ rest), is, omega arith, refl) in
      subst (λ (p : ℕ). TypeFails at text p) (placed next fails) fails

  by_result : (r : Result (Kind × ℕ × List ℕ) ℕ) → kind_at max_nesting max_nesting at text ≡ r → TypeFails at text (at + k)
  by_result (Ok x) is = by_rest x.0 x.1 x.2 is
  by_result (Err place) is = let fails : TypeFails at text place = inl is in subst (λ (p : ℕ). TypeFails at text p) (placed place fails) fails

-- ---- whole signatures

-- a fault before a cut is one of the text
uncut : (text : List ℕ) (n k : ℕ) → k < n → n ≤ length text → FirstFault AreTypes (take n text) k → FirstFault AreTypes text k
uncut text n k lt le f = record {
  within = omega arith;
  begins = subst (BeginsWord AreTypes) (take-take k n text (omega arith)) f.begins;
  stuck = λ more b. f.stuck (omega (arith, length-take n text)) (subst (BeginsWord AreTypes) (sym (take-take (k + 1) n text (omega arith))) b);
  ended = λ same types. absurd (omega arith);
}

cut : (text : List ℕ) (n k : ℕ) → k < n → n ≤ length text → FirstFault AreTypes text k → FirstFault AreTypes (take n text) k
cut text n k lt le f = record {
  within = omega (arith, length-take n text);
  begins = subst (BeginsWord AreTypes) (sym (take-take k n text (omega arith))) f.begins;
  stuck = λ more b. f.stuck (omega arith) (subst (BeginsWord AreTypes) (take-take (k + 1) n text (omega arith)) b);
  ended = λ same types. absurd (omega (arith, length-take n text));
}

abbrev front_of : List ℕ → List ℕ
front_of text = take max_length text

-- what is read of a text that is too long
abbrev too_long : Result (List Kind) ℕ → Result (List Kind) ℕ
too_long read = read >>= λ kinds. Err max_length

long_found : (text : List ℕ) (place : ℕ) → max_length < length text → too_long (all_kinds (front_of text)) ≡ Err place → SignatureFault text place
long_found text place long e =
    elim (bind_err (all_kinds (front_of text)) (λ kinds. Err max_length) place e) [
      | inl fault ↦
          let f = kinds_fault 0 (front_of text) place fault in
          let g : FirstFault AreTypes (front_of text) place = subst (FirstFault AreTypes (front_of text)) (let h : f.0 ≡ place = omega (arith, f.1) in h) f.2 in
          elim (cases_lt place max_length) [
            | inl lt ↦ inr (long, inl (lt, uncut text max_length place lt (omega arith) g))
            | inr le ↦
                let same : place ≡ max_length = omega (arith, g.within, length-take max_length text) in
                inr (long, inr (same, subst (BeginsWord AreTypes) (ap (λ (n : ℕ). take n (front_of text)) same ∙ take-take max_length max_length text (omega arith)) g.begins))
          ]
      | inr done ↦
          let t = kinds_take (length (front_of text)) 0 (front_of text) done.0 done.1 in
          inr (long, inr (sym (err_is {A = List Kind} max_length place done.2), ([], subst AreTypes (sym (append-nil (front_of text))) (done.0, t.0, t.1))))
    ]

long_only : (text : List ℕ) (place : ℕ) → max_length < length text → ((place < max_length) × FirstFault AreTypes text place) ⊎ ((place ≡ max_length) × BeginsWord AreTypes (front_of text))
    → too_long (all_kinds (front_of text)) ≡ Err place
long_only text place long (inl f) = rw (kinds_fault_only 0 (front_of text) place (cut text max_length place f.0 (omega arith) f.1)) (ap (λ (p : ℕ). Err p) (let h : 0 + place ≡ place = omega arith in h))
long_only text place long (inr f) = by_result (all_kinds (front_of text)) refl where
  by_result : (r : Result (List Kind) ℕ) → all_kinds (front_of text) ≡ r → too_long r ≡ Err place
  by_result (Ok kinds) is = ap (λ (p : ℕ). Err p) (sym f.0)
  by_result (Err p) is =
      let g = kinds_fault 0 (front_of text) p is in
      let most = length-take max_length text in
      elim (cases_lt g.0 max_length) [
        | inl lt ↦ absurd (g.2.stuck (omega arith) (shorter_begins AreTypes (front_of text) (g.0 + 1) max_length (omega arith) (subst (BeginsWord AreTypes) (sym (take-take max_length max_length text (omega arith))) f.1)))
        | inr le ↦ ap (λ (q : ℕ). Err q) (omega (arith, g.1, g.2.within, f.0))
      ]

pub signature_fault : (text : List ℕ) (place : ℕ) → (signature_of text ≡ Err place) ↔ SignatureFault text place
unfolding kinds_of
signature_fault text place = (found, only) where
  found : signature_of text ≡ Err place → SignatureFault text place
  found e =
      elim (bind_err (kinds_of text) (λ kinds. Ok text) place e) [
        | inr done ↦ absurd (not_err text place done.2)
        | inl fault ↦ elim (chosen (ltb max_length (length text)) (all_kinds (front_of text) >>= λ kinds. Err max_length) (all_kinds text) (Err place) fault) [
          | inl p ↦ long_found text place (ltb-true _ _ p.0) p.1
          | inr p ↦
              let f = kinds_fault 0 text place p.1 in
              inl (ltb-false _ _ p.0, subst (FirstFault AreTypes text) (let h : f.0 ≡ place = omega (arith, f.1) in h) f.2)
        ]
      ]

  only : SignatureFault text place → signature_of text ≡ Err place
  only (inl f) =
      let short : ltb max_length (length text) ≡ false = le-ltb _ _ f.0 in
      rw (short, kinds_fault_only 0 text place f.1) (ap (λ (p : ℕ). Err p) (let h : 0 + place ≡ place = omega arith in h))
  only (inr f) =
      let long : ltb max_length (length text) ≡ true = lt-ltb _ _ f.0 in
      rw (long, long_only text place f.0 f.1) refl
