-- Whole signatures: a text is one exactly where it is read to its end.
use Rattle.std.proofs.Common.{◌≡◌, ℕ, zero, suc, ◌+◌, ◌≤◌, Bool, true, false, ltb, eqb, ◌↔◌, List, [], ◌∷◌, ◌++◌, length, take, Result, Ok, Err, refl, sym, ap, subst, ◌∙◌, arith, inl, inr}
use Rattle.std.specs.List.{list_all}
use Rattle.std.proofs.lemmas.Bool.{ltb-false, le-ltb, and_parts, and_from, eqb-true, false≢true}
use Rattle.std.proofs.lemmas.List.{append-nil, nil_from_length}
use Rattle.dbus_signature.specs.declared.kind.Kind.{Kind}
use Rattle.dbus_signature.specs.Types.{codes, all_codes, nests}
use Rattle.dbus_signature.specs.Reading.{◌>>=◌}
use Rattle.dbus_signature.specs.Signatures.{kind_at, kinds_at, kinds_of, all_kinds, signature_of, IsSignature, IsOneType, SpellsType, max_nesting, max_length}
use Rattle.dbus_signature.proofs.Sound.{bind_ok, ok_is, not_ok, chosen, kind_takes}
use Rattle.dbus_signature.proofs.Complete.{starts, count_le, kind_again}

-- these types nest as deep as they may
abbrev pub AllNest : List Kind → Type 0
AllNest kinds = list_all (λ kind. nests kind max_nesting max_nesting) kinds ≡ true

pub kinds_take : (n at : ℕ) (text : List ℕ) (kinds : List Kind) → kinds_at n at text ≡ Ok kinds → (text ≡ all_codes kinds) × AllNest kinds
unfolding kinds_at
kinds_take n at [] kinds e = subst (λ (ks : List Kind). ([] ≡ all_codes ks) × AllNest ks) (ok_is [] kinds e) (refl, refl)
kinds_take zero at (c ∷ text) kinds e = absurd (not_ok at kinds e)
kinds_take (suc n) at (c ∷ text) kinds e =
    let f = bind_ok (kind_at max_nesting max_nesting at (c ∷ text)) (λ first. kinds_at n first.1 first.2 >>= λ others. Ok (first.0 ∷ others)) kinds e in
    let o = bind_ok (kinds_at n f.0.1 f.0.2) (λ others. Ok (f.0.0 ∷ others)) kinds f.2 in
    let t = kind_takes 64 max_nesting max_nesting (omega arith) at (c ∷ text) f.0 f.1 in
    let u = kinds_take n f.0.1 f.0.2 o.0 o.1 in
    subst (λ (ks : List Kind). ((c ∷ text) ≡ all_codes ks) × AllNest ks) (ok_is (f.0.0 ∷ o.0) kinds o.2)
    (t.0.parts ∙ ap (λ (s : List ℕ). codes f.0.0 ++ s) u.0, and_from _ _ t.1 u.1)

-- one step, at a text that goes on
pub kinds_step : (n at : ℕ) (text : List ℕ) (c : ℕ) (more : List ℕ) → text ≡ c ∷ more → kinds_at (suc n) at text ≡ (kind_at max_nesting max_nesting at text >>= λ first. kinds_at n first.1 first.2 >>= λ others. Ok (first.0 ∷ others))
unfolding kinds_at
kinds_step n at text c more is = rw is refl

pub kinds_again : (kinds : List Kind) (n at : ℕ) → length kinds ≤ n → AllNest kinds → kinds_at n at (all_codes kinds) ≡ Ok kinds
unfolding kinds_at
kinds_again [] zero at enough nested = refl
kinds_again [] (suc n) at enough nested = refl
kinds_again (k ∷ ks) zero at enough nested = absurd (omega arith)
kinds_again (k ∷ ks) (suc n) at enough nested =
    let both = and_parts (nests k max_nesting max_nesting) (list_all (λ kind. nests kind max_nesting max_nesting) ks) nested in
    let first = starts k in
    kinds_step n at (codes k ++ all_codes ks) first.letter (first.others ++ all_codes ks) (ap (λ (t : List ℕ). t ++ all_codes ks) first.spelt)
    ∙ rw (kind_again 64 max_nesting max_nesting (omega arith) k at (all_codes ks) both.0, kinds_again ks n (at + length (codes k)) (omega arith) both.1) refl

pub signature_is : (text : List ℕ) (kinds : List Kind) → kinds_of text ≡ Ok kinds → IsSignature text
unfolding kinds_of
signature_is text kinds e =
    elim (chosen (ltb max_length (length text)) (all_kinds (take max_length text) >>= λ kinds. Err max_length) (all_kinds text) (Ok kinds) e) [
      | inl p ↦ absurd (not_ok max_length kinds (bind_ok (all_kinds (take max_length text)) (λ kinds. Err max_length) kinds p.1).2)
      | inr p ↦
          let t = kinds_take (length text) 0 text kinds p.1 in
          record { kinds = kinds; spelt = t.0; nested = t.1; short = ltb-false _ _ p.0 }
    ]

kinds_of_again : (text : List ℕ) (s : IsSignature text) → kinds_of text ≡ Ok s.kinds
unfolding kinds_of
kinds_of_again text s =
    let short : ltb max_length (length text) ≡ false = le-ltb _ _ s.short in
    let enough : length s.kinds ≤ length text = omega (arith, count_le s.kinds, ap length s.spelt) in
    rw short (ap (kinds_at (length text) 0) s.spelt ∙ kinds_again s.kinds (length text) 0 enough s.nested)

pub signature_again : (text : List ℕ) → IsSignature text → signature_of text ≡ Ok text
signature_again text s = rw (kinds_of_again text s) refl

abbrev read_one : ℕ → Kind × ℕ × List ℕ → Result (Kind × ℕ × List ℕ) ℕ
read_one at x = Ok x

pub one_type_again : (text : List ℕ) (k : Kind) → SpellsType text k → kind_at max_nesting max_nesting 0 text ≡ Ok (k, 0 + length (codes k), [])
one_type_again text k s =
    ap (kind_at max_nesting max_nesting 0) (s.spelt ∙ sym (append-nil (codes k))) ∙ kind_again 64 max_nesting max_nesting (omega arith) k 0 [] s.nested

-- the type that is read of such a text is the one that it spells
pub one_type_is : (text : List ℕ) (x : Kind × ℕ × List ℕ) → IsOneType text → kind_at max_nesting max_nesting 0 text ≡ Ok x → SpellsType text x.0
one_type_is text x one e =
    let same = ok_is (one.0, 0 + length (codes one.0), []) x (sym (one_type_again text one.0 one.1) ∙ e) in
    subst (λ (y : Kind × ℕ × List ℕ). SpellsType text y.0) same one.1

pub one_type_never_fails : (text : List ℕ) (place : ℕ) → IsOneType text → kind_at max_nesting max_nesting 0 text ≡ Err place → ⊥
one_type_never_fails text place one e = not_ok place _ (sym e ∙ one_type_again text one.0 one.1)

-- a text of one type is a signature
pub type_is_signature : (text : List ℕ) (k : Kind) → SpellsType text k → IsSignature text
type_is_signature text k s = record {
  kinds = k ∷ [];
  spelt = s.spelt ∙ sym (append-nil (codes k));
  nested = and_from _ _ s.nested refl;
  short = s.short;
}

-- a text spells one type at most
pub one_kind : (text : List ℕ) (k l : Kind) → SpellsType text k → SpellsType text l → k ≡ l
one_kind text k l s t =
    let same = ok_is (k, 0 + length (codes k), []) (l, 0 + length (codes l), []) (sym (one_type_again text k s) ∙ one_type_again text l t) in
    ap (λ (x : Kind × ℕ × List ℕ). x.0) same

-- a text is read as one type to its end exactly where it spells one
pub one_type_tells : (text : List ℕ) (kind : Kind) (next : ℕ) (rest : List ℕ) (b : Bool) → IsSignature text → kind_at max_nesting max_nesting 0 text ≡ Ok (kind, next, rest) → b ≡ eqb (length rest) 0 → (b ≡ true) ↔ IsOneType text
one_type_tells text kind next rest b s e is =
    let t = kind_takes 64 max_nesting max_nesting (omega arith) 0 text (kind, next, rest) e in (
      (λ (holds : b ≡ true).
          let none : rest ≡ [] = nil_from_length rest (eqb-true (length rest) 0 (sym is ∙ holds)) in
          (kind, record { spelt = t.0.parts ∙ ap (λ (r : List ℕ). codes kind ++ r) none ∙ append-nil (codes kind); nested = t.1; short = s.short })),
      (λ (one : IsOneType text).
          let same = ok_is (one.0, 0 + length (codes one.0), []) (kind, next, rest) (sym (one_type_again text one.0 one.1) ∙ e) in
          let none : [] ≡ rest = ap (λ (x : Kind × ℕ × List ℕ). x.2) same in
          is ∙ ap (λ (r : List ℕ). eqb (length r) 0) (sym none)),
    )

pub no_type_tells : (text : List ℕ) (place : ℕ) → kind_at max_nesting max_nesting 0 text ≡ Err place → (false ≡ true) ↔ IsOneType text
no_type_tells text place e = ((λ (wrong : false ≡ true). absurd (false≢true wrong)), (λ (one : IsOneType text). absurd (one_type_never_fails text place one e)))
