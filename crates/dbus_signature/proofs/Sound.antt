-- What is read as a type is its spelling.
use Rattle.std.proofs.Common.{◌≡◌, ℕ, zero, suc, ◌+◌, ◌-◌, ◌<◌, ◌≤◌, Bool, true, false, cond, eqb, List, [], ◌∷◌, ◌++◌, length, Option, Some, None, Result, Ok, Err, refl, sym, ap, subst, ◌∙◌, append_assoc, arith, inl, inr, ◌⊎◌}
use Rattle.std.specs.Prelude.{◌&&◌}
use Rattle.std.specs.List.{list_all}
use Rattle.std.proofs.lemmas.Bool.{eqb-true, ne_eqb, and_from}
use Rattle.std.proofs.lemmas.List.{length-append}
use Rattle.std.proofs.lemmas.List.Folds.{list_all-map}
use Rattle.dbus_signature.specs.declared.kind.Basic.{Basic}
use Rattle.dbus_signature.specs.declared.kind.Basic.TheVariants as basic
use Rattle.dbus_signature.specs.declared.kind.Kind.{Kind}
use Rattle.dbus_signature.specs.declared.kind.Kind.TheOpen.{Kind-F}
use Rattle.dbus_signature.specs.declared.kind.Kind.TheVariants.{Basic as Plain, Variant, Array, Dict, Struct, rolls-Basic, rolls-Variant, rolls-Array, rolls-Dict, rolls-Struct}
use Rattle.dbus_signature.specs.declared.kind.Kind.TheFolds.{fold-roll-Kind}
use Rattle.dbus_signature.specs.Types.{code, codes, all_codes, nests, nests_step}
use Rattle.dbus_signature.specs.Reading.{Read, Reader, ◌>>=◌}
use Rattle.dbus_signature.specs.Signatures.{with_code, all_basics, basic_of, basic_found, basic_at, brace_at, dict_at, plain_array_at, array_at, closing, unless_closed, members_at, struct_at, letter_at, kind_by, kind_at}
use Rattle.dbus_signature.proofs.KindLaws.{codes_plain, codes_variant, codes_array, codes_dict, codes_struct, kind_at_opens}

-- ---- tools

-- the value of a step that did not fail
pub bind_ok : {A B : Type 0} (r : Result A ℕ) (f : A → Result B ℕ) (y : B) → (r >>= f) ≡ Ok y → (x : A) × (r ≡ Ok x) × (f x ≡ Ok y)
bind_ok (Ok x) f y e = (x, refl, e)
bind_ok (Err d) f y e = absurd cc

-- which way a test went
pub chosen : {A : Type 0} (b : Bool) (x y z : A) → cond b x y ≡ z → ((b ≡ true) × (x ≡ z)) ⊎ ((b ≡ false) × (y ≡ z))
chosen true x y z e = inl (refl, e)
chosen false x y z e = inr (refl, e)

abbrev pub done : {A : Type 0} → A → Result A ℕ
done x = Ok x

pub ok_is : {A : Type 0} (x y : A) → done x ≡ done y → x ≡ y
ok_is x y e = cc

abbrev at_fault : {A : Type 0} → ℕ → Result A ℕ
at_fault place = Err place

pub not_ok : {A : Type 0} (place : ℕ) (x : A) → at_fault place ≡ done x → ⊥
not_ok place x e = cc

-- what a reader took from the front
pub record Takes (at : ℕ) (text taken : List ℕ) (next : ℕ) (rest : List ℕ) : Type 0 where
  pub parts : text ≡ taken ++ rest
  pub moved : next ≡ at + length taken

pub Takes-then : (a : ℕ) (s x : List ℕ) (b : ℕ) (t y : List ℕ) (c : ℕ) (u : List ℕ) → Takes a s x b t → Takes b t y c u → Takes a s (x ++ y) c u
Takes-then a s x b t y c u p q = record {
  parts = p.parts ∙ ap (λ (z : List ℕ). x ++ z) q.parts ∙ sym (append_assoc x y u);
  moved = omega (arith, p.moved, q.moved, length-append x y);
}

Takes-one : (at c : ℕ) (text taken : List ℕ) (next : ℕ) (rest : List ℕ) → Takes (at + 1) text taken next rest → Takes at (c ∷ text) (c ∷ taken) next rest
Takes-one at c text taken next rest t = record { parts = ap (λ (z : List ℕ). c ∷ z) t.parts; moved = omega (arith, t.moved) }

-- ---- how deep types nest

pub nests_array : (e : Kind) (a s : ℕ) → nests (Array e) (suc a) s ≡ nests e a s
nests_array e a s = ap (λ (k : Kind). nests k (suc a) s) (sym (rolls-Array e)) ∙ ap (λ (f : ℕ → ℕ → Bool). f (suc a) s) (fold-roll-Kind (ℕ → ℕ → Bool) nests_step (Kind-F.Array e))

pub nests_no_array : (e : Kind) (s : ℕ) → nests (Array e) 0 s ≡ false
nests_no_array e s = ap (λ (k : Kind). nests k 0 s) (sym (rolls-Array e)) ∙ ap (λ (f : ℕ → ℕ → Bool). f 0 s) (fold-roll-Kind (ℕ → ℕ → Bool) nests_step (Kind-F.Array e))

pub nests_dict : (b : Basic) (e : Kind) (a s : ℕ) → nests (Dict b e) (suc a) s ≡ nests e a s
nests_dict b e a s = ap (λ (k : Kind). nests k (suc a) s) (sym (rolls-Dict b e)) ∙ ap (λ (f : ℕ → ℕ → Bool). f (suc a) s) (fold-roll-Kind (ℕ → ℕ → Bool) nests_step (Kind-F.Dict b e))

pub nests_no_dict : (b : Basic) (e : Kind) (s : ℕ) → nests (Dict b e) 0 s ≡ false
nests_no_dict b e s = ap (λ (k : Kind). nests k 0 s) (sym (rolls-Dict b e)) ∙ ap (λ (f : ℕ → ℕ → Bool). f 0 s) (fold-roll-Kind (ℕ → ℕ → Bool) nests_step (Kind-F.Dict b e))

pub nests_plain : (b : Basic) (a s : ℕ) → nests (Plain b) a s ≡ true
nests_plain b a s = ap (λ (k : Kind). nests k a s) (sym (rolls-Basic b)) ∙ ap (λ (f : ℕ → ℕ → Bool). f a s) (fold-roll-Kind (ℕ → ℕ → Bool) nests_step (Kind-F.Basic b))

pub nests_variant : (a s : ℕ) → nests Variant a s ≡ true
nests_variant a s = ap (λ (k : Kind). nests k a s) (sym rolls-Variant) ∙ ap (λ (f : ℕ → ℕ → Bool). f a s) (fold-roll-Kind (ℕ → ℕ → Bool) nests_step Kind-F.Variant)

all_nest : List Kind → ℕ → ℕ → Bool
all_nest ks a s = list_all (λ k. nests k a s) ks

pub nests_struct : (k : Kind) (ks : List Kind) (a s : ℕ) → nests (Struct (k ∷ ks)) a (suc s) ≡ (nests k a s && list_all (λ m. nests m a s) ks)
nests_struct k ks a s = ap (λ (x : Kind). nests x a (suc s)) (sym (rolls-Struct (k ∷ ks))) ∙ ap (λ (f : ℕ → ℕ → Bool). f a (suc s)) (fold-roll-Kind (ℕ → ℕ → Bool) nests_step (Kind-F.Struct (k ∷ ks))) ∙ ap (λ (t : Bool). nests k a s && t) (list_all-map (λ (f : ℕ → ℕ → Bool). f a s) nests ks)

-- ---- letters

with_code_is : (bs : List Basic) (c : ℕ) (b : Basic) → with_code c bs ≡ Some b → c ≡ code b
with_code_is [] c b e = absurd cc
with_code_is (x ∷ bs) c b e =
    elim (chosen (eqb (code x) c) (Some x) (with_code c bs) (Some b) e) [
      | inl p ↦ sym (eqb-true _ _ p.0) ∙ ap code (let h : x ≡ b = cc in h)
      | inr p ↦ with_code_is bs c b p.1
    ]

pub basic_takes : (at : ℕ) (text : List ℕ) (x : Basic × ℕ × List ℕ) → basic_at at text ≡ Ok x → Takes at text (code x.0 ∷ []) x.1 x.2
basic_takes at [] x e = absurd (not_ok at x e)
basic_takes at (c ∷ rest) x e = by_found (basic_of c) refl e where
  by_found : (found : Option Basic) → basic_of c ≡ found → basic_found at rest found ≡ Ok x → Takes at (c ∷ rest) (code x.0 ∷ []) x.1 x.2
  by_found None is e = absurd (not_ok at x e)
  by_found (Some b) is e =
      subst (λ (y : Basic × ℕ × List ℕ). Takes at (c ∷ rest) (code y.0 ∷ []) y.1 y.2) (ok_is (b, at + 1, rest) x e)
      (record { parts = ap (λ (l : ℕ). l ∷ rest) (with_code_is all_basics c b is); moved = refl })

pub basic_again : (b : Basic) (at : ℕ) (rest : List ℕ) → basic_at at (code b ∷ rest) ≡ Ok (b, at + 1, rest)
basic_again basic.Byte at rest = refl
basic_again basic.Bool at rest = refl
basic_again basic.I16 at rest = refl
basic_again basic.U16 at rest = refl
basic_again basic.I32 at rest = refl
basic_again basic.U32 at rest = refl
basic_again basic.I64 at rest = refl
basic_again basic.U64 at rest = refl
basic_again basic.Double at rest = refl
basic_again basic.Str at rest = refl
basic_again basic.Path at rest = refl
basic_again basic.Sig at rest = refl
basic_again basic.Fd at rest = refl

brace_takes : (at : ℕ) (text : List ℕ) (x : Unit {0} × ℕ × List ℕ) → brace_at at text ≡ Ok x → Takes at text (125 ∷ []) x.1 x.2
brace_takes at [] x e = absurd (not_ok at x e)
brace_takes at (c ∷ rest) x e =
    elim (chosen (eqb c 125) (Ok (tt, at + 1, rest)) (Err at) (Ok x) e) [
      | inl p ↦ subst (λ (y : Unit {0} × ℕ × List ℕ). Takes at (c ∷ rest) (125 ∷ []) y.1 y.2) (ok_is (tt, at + 1, rest) x p.1)
          (record { parts = ap (λ (l : ℕ). l ∷ rest) (eqb-true c 125 p.0); moved = refl })
      | inr p ↦ absurd (not_ok at x p.1)
    ]

-- ---- types

-- What an inner reader reads is spelt so, and nests as deep as it may.
abbrev Sound : Reader Kind → ℕ → ℕ → Type 0
Sound inner a s = (at : ℕ) (text : List ℕ) (x : Kind × ℕ × List ℕ) → inner at text ≡ Ok x → Takes at text (codes x.0) x.1 x.2 × (nests x.0 a s ≡ true)

-- a type as it stands behind what was read before
abbrev Reads : ℕ → List ℕ → Kind × ℕ × List ℕ → ℕ → ℕ → Type 0
Reads at text x a s = Takes at text (codes x.0) x.1 x.2 × (nests x.0 a s ≡ true)

plain_array_takes : (inner : Reader Kind) (a s : ℕ) → Sound inner a s → (at : ℕ) (text : List ℕ) (x : Kind × ℕ × List ℕ) → plain_array_at inner (at + 1) text ≡ Ok x → Reads at (97 ∷ text) x (suc a) s
unfolding plain_array_at
plain_array_takes inner a s sound at text x e =
    let b = bind_ok (inner (at + 1) text) (λ element. Ok (Array element.0, element.1, element.2)) x e in
    let t = sound (at + 1) text b.0 b.1 in
    let made : Kind × ℕ × List ℕ = (Array b.0.0, b.0.1, b.0.2) in
    subst (λ (y : Kind × ℕ × List ℕ). Reads at (97 ∷ text) y (suc a) s) (ok_is made x b.2)
    (rw (codes_array b.0.0) (Takes-one at 97 text (codes b.0.0) b.0.1 b.0.2 t.0), nests_array b.0.0 a s ∙ t.1)

dict_takes : (inner : Reader Kind) (a s : ℕ) → Sound inner a s → (at : ℕ) (text : List ℕ) (x : Kind × ℕ × List ℕ) → dict_at inner (at + 1 + 1) text ≡ Ok x → Reads at (97 ∷ 123 ∷ text) x (suc a) s
unfolding dict_at
dict_takes inner a s sound at text x e =
    let k = bind_ok (basic_at (at + 1 + 1) text) (λ key. inner key.1 key.2 >>= λ value. brace_at value.1 value.2 >>= λ close. Ok (Dict key.0 value.0, close.1, close.2)) x e in
    let v = bind_ok (inner k.0.1 k.0.2) (λ value. brace_at value.1 value.2 >>= λ close. Ok (Dict k.0.0 value.0, close.1, close.2)) x k.2 in
    let c = bind_ok (brace_at v.0.1 v.0.2) (λ close. Ok (Dict k.0.0 v.0.0, close.1, close.2)) x v.2 in
    let tk = basic_takes (at + 1 + 1) text k.0 k.1 in
    let tv = sound k.0.1 k.0.2 v.0 v.1 in
    let tc = brace_takes v.0.1 v.0.2 c.0 c.1 in
    let t1 = Takes-then v.0.1 v.0.2 (codes v.0.0) v.0.1 v.0.2 (125 ∷ []) c.0.1 c.0.2 in
    let tvc = Takes-then k.0.1 k.0.2 (codes v.0.0) v.0.1 v.0.2 (125 ∷ []) c.0.1 c.0.2 tv.0 tc in
    let tkvc = Takes-then (at + 1 + 1) text (code k.0.0 ∷ []) k.0.1 k.0.2 (codes v.0.0 ++ 125 ∷ []) c.0.1 c.0.2 tk tvc in
    let whole = Takes-one at 97 (123 ∷ text) (123 ∷ code k.0.0 ∷ codes v.0.0 ++ 125 ∷ []) c.0.1 c.0.2 (Takes-one (at + 1) 123 text (code k.0.0 ∷ codes v.0.0 ++ 125 ∷ []) c.0.1 c.0.2 tkvc) in
    let made : Kind × ℕ × List ℕ = (Dict k.0.0 v.0.0, c.0.1, c.0.2) in
    subst (λ (y : Kind × ℕ × List ℕ). Reads at (97 ∷ 123 ∷ text) y (suc a) s) (ok_is made x c.2)
    (rw (codes_dict k.0.0 v.0.0) whole, nests_dict k.0.0 v.0.0 a s ∙ tv.1)

array_takes : (inner : Reader Kind) (a s : ℕ) → Sound inner a s → (at : ℕ) (text : List ℕ) (x : Kind × ℕ × List ℕ) → array_at inner (at + 1) text ≡ Ok x → Reads at (97 ∷ text) x (suc a) s
array_takes inner a s sound at [] x e = plain_array_takes inner a s sound at [] x e
array_takes inner a s sound at (c ∷ text) x e =
    elim (chosen (eqb c 123) (dict_at inner (at + 1 + 1) text) (plain_array_at inner (at + 1) (c ∷ text)) (Ok x) e) [
      | inl p ↦ subst (λ (l : ℕ). Reads at (97 ∷ l ∷ text) x (suc a) s) (sym (eqb-true c 123 p.0)) (dict_takes inner a s sound at text x p.1)
      | inr p ↦ plain_array_takes inner a s sound at (c ∷ text) x p.1
    ]

closing_is : (at : ℕ) (text : List ℕ) (end : ℕ × List ℕ) → closing at text ≡ Some end → Takes at text (41 ∷ []) end.0 end.1
closing_is at [] end e = absurd cc
closing_is at (c ∷ rest) end e =
    elim (chosen (eqb c 41) (Some (at + 1, rest)) None (Some end) e) [
      | inl p ↦ let same : (at + 1, rest) ≡ end = cc in subst (λ (y : ℕ × List ℕ). Takes at (c ∷ rest) (41 ∷ []) y.0 y.1) same (record { parts = ap (λ (l : ℕ). l ∷ rest) (eqb-true c 41 p.0); moved = refl })
      | inr p ↦ absurd cc
    ]

-- members in a row, and the parenthesis
abbrev ReadsMembers : ℕ → List ℕ → List Kind × ℕ × List ℕ → ℕ → ℕ → Type 0
ReadsMembers at text x a s = Takes at text (all_codes x.0 ++ 41 ∷ []) x.1 x.2 × (list_all (λ k. nests k a s) x.0 ≡ true)

others_take : (at : ℕ) (text : List ℕ) (more : Read (List Kind)) (a s : ℕ) → ((y : List Kind × ℕ × List ℕ) → more ≡ Ok y → ReadsMembers at text y a s) → (shut : Option (ℕ × List ℕ)) → closing at text ≡ shut
    → (y : List Kind × ℕ × List ℕ) → unless_closed shut more ≡ Ok y → ReadsMembers at text y a s
others_take at text more a s takes None is y e = takes y e
others_take at text more a s takes (Some end) is y e =
    subst (λ (z : List Kind × ℕ × List ℕ). ReadsMembers at text z a s) (ok_is ([], end.0, end.1) y e) (closing_is at text end is, refl)

members_take : (inner : Reader Kind) (a s : ℕ) → Sound inner a s → (n at : ℕ) (text : List ℕ) (x : List Kind × ℕ × List ℕ) → members_at inner n at text ≡ Ok x → ReadsMembers at text x a s × (0 < length x.0)
unfolding members_at
members_take inner a s sound zero at text x e = absurd (not_ok at x e)
members_take inner a s sound (suc n) at text x e =
    let f = bind_ok (inner at text) (λ first. unless_closed (closing first.1 first.2) (members_at inner n first.1 first.2) >>= λ others. Ok (first.0 ∷ others.0, others.1, others.2)) x e in
    let o = bind_ok (unless_closed (closing f.0.1 f.0.2) (members_at inner n f.0.1 f.0.2)) (λ others. Ok (f.0.0 ∷ others.0, others.1, others.2)) x f.2 in
    let t = sound at text f.0 f.1 in
    let others = others_take f.0.1 f.0.2 (members_at inner n f.0.1 f.0.2) a s (λ y h. (members_take inner a s sound n f.0.1 f.0.2 y h).0) (closing f.0.1 f.0.2) refl o.0 o.1 in
    let both = Takes-then at text (codes f.0.0) f.0.1 f.0.2 (all_codes o.0.0 ++ 41 ∷ []) o.0.1 o.0.2 t.0 others.0 in
    let whole : Takes at text (all_codes (f.0.0 ∷ o.0.0) ++ 41 ∷ []) o.0.1 o.0.2 = rw (append_assoc (codes f.0.0) (all_codes o.0.0) (41 ∷ [])) both in
    let made : List Kind × ℕ × List ℕ = (f.0.0 ∷ o.0.0, o.0.1, o.0.2) in
    let long : 0 < length made.0 = omega arith in
    subst (λ (y : List Kind × ℕ × List ℕ). ReadsMembers at text y a s × (0 < length y.0)) (ok_is made x o.2) ((whole, and_from _ _ t.1 others.1), long)

struct_nests : (ks : List Kind) (a s : ℕ) → 0 < length ks → list_all (λ k. nests k a s) ks ≡ true → nests (Struct ks) a (suc s) ≡ true
struct_nests [] a s long all = absurd (omega arith)
struct_nests (k ∷ ks) a s long all = nests_struct k ks a s ∙ all

struct_takes : (inner : Reader Kind) (a s : ℕ) → Sound inner a s → (at : ℕ) (text : List ℕ) (x : Kind × ℕ × List ℕ) → struct_at inner (at + 1) text ≡ Ok x → Reads at (40 ∷ text) x a (suc s)
unfolding struct_at
struct_takes inner a s sound at text x e =
    let b = bind_ok (members_at inner (length text) (at + 1) text) (λ members. Ok (Struct members.0, members.1, members.2)) x e in
    let t = members_take inner a s sound (length text) (at + 1) text b.0 b.1 in
    let made : Kind × ℕ × List ℕ = (Struct b.0.0, b.0.1, b.0.2) in
    subst (λ (y : Kind × ℕ × List ℕ). Reads at (40 ∷ text) y a (suc s)) (ok_is made x b.2)
    (rw (codes_struct b.0.0) (Takes-one at 40 text (all_codes b.0.0 ++ 41 ∷ []) b.0.1 b.0.2 t.0.0), struct_nests b.0.0 a s t.1 t.0.1)

letter_takes : (at : ℕ) (text : List ℕ) (x : Kind × ℕ × List ℕ) (a s : ℕ) → letter_at at text ≡ Ok x → Reads at text x a s
unfolding letter_at
letter_takes at text x a s e =
    let b = bind_ok (basic_at at text) (λ basic. Ok (Plain basic.0, basic.1, basic.2)) x e in
    let t = basic_takes at text b.0 b.1 in
    let made : Kind × ℕ × List ℕ = (Plain b.0.0, b.0.1, b.0.2) in
    subst (λ (y : Kind × ℕ × List ℕ). Reads at text y a s) (ok_is made x b.2) (rw (codes_plain b.0.0) t, nests_plain b.0.0 a s)

variant_takes : (at : ℕ) (text : List ℕ) (x : Kind × ℕ × List ℕ) (a s : ℕ) → done (Variant, at + 1, text) ≡ Ok x → Reads at (118 ∷ text) x a s
variant_takes at text x a s e =
    subst (λ (y : Kind × ℕ × List ℕ). Reads at (118 ∷ text) y a s) (ok_is (Variant, at + 1, text) x e) (rw codes_variant (record { parts = refl; moved = refl }), nests_variant a s)

array_arm : (inner : Reader Kind) (a s : ℕ) → (0 < a → Sound inner (a - 1) s) → (at c : ℕ) (text : List ℕ) (x : Kind × ℕ × List ℕ) → c ≡ 97 → cond (eqb a 0) (Err at) (array_at inner (at + 1) text) ≡ Ok x → Reads at (c ∷ text) x a s
array_arm inner zero s sound at c text x letter e = absurd (not_ok at x e)
array_arm inner (suc a) s sound at c text x letter e =
    let below : Sound inner a s = let same : suc a - 1 ≡ a = omega arith in subst (λ (n : ℕ). Sound inner n s) same (sound (omega arith)) in
    let some : eqb (suc a) 0 ≡ false = ne_eqb (suc a) 0 (λ h. omega arith) in
    let f : array_at inner (at + 1) text ≡ Ok x = rw some at e in
    rw letter (array_takes inner a s below at text x f)

struct_arm : (inner : Reader Kind) (a s : ℕ) → (0 < s → Sound inner a (s - 1)) → (at c : ℕ) (text : List ℕ) (x : Kind × ℕ × List ℕ) → c ≡ 40 → cond (eqb s 0) (Err at) (struct_at inner (at + 1) text) ≡ Ok x → Reads at (c ∷ text) x a s
struct_arm inner a zero sound at c text x letter e = absurd (not_ok at x e)
struct_arm inner a (suc s) sound at c text x letter e =
    let below : Sound inner a s = let same : suc s - 1 ≡ s = omega arith in subst (λ (n : ℕ). Sound inner a n) same (sound (omega arith)) in
    let some : eqb (suc s) 0 ≡ false = ne_eqb (suc s) 0 (λ h. omega arith) in
    let f : struct_at inner (at + 1) text ≡ Ok x = rw some at e in
    rw letter (struct_takes inner a s below at text x f)

by_takes : (in_array in_struct : Reader Kind) (a s : ℕ) → (0 < a → Sound in_array (a - 1) s) → (0 < s → Sound in_struct a (s - 1)) → (at : ℕ) (text : List ℕ) (x : Kind × ℕ × List ℕ) → kind_by a s in_array in_struct at text ≡ Ok x → Reads at text x a s
by_takes in_array in_struct a s for_array for_struct at [] x e = absurd (not_ok at x e)
by_takes in_array in_struct a s for_array for_struct at (c ∷ text) x e =
    elim (chosen (eqb c 97) _ _ (Ok x) e) [
      | inl p ↦ array_arm in_array a s for_array at c text x (eqb-true c 97 p.0) p.1
      | inr p ↦ elim (chosen (eqb c 40) _ _ (Ok x) p.1) [
        | inl q ↦ struct_arm in_struct a s for_struct at c text x (eqb-true c 40 q.0) q.1
        | inr q ↦ elim (chosen (eqb c 118) _ _ (Ok x) q.1) [
          | inl r ↦ rw (eqb-true c 118 r.0) (variant_takes at text x a s r.1)
          | inr r ↦ letter_takes at (c ∷ text) x a s r.1
        ]
      ]
    ]

pub kind_takes : (n a s : ℕ) → a + s ≤ n → Sound (kind_at a s) a s
kind_takes zero a s le at text x e =
    by_takes (kind_at (a - 1) s) (kind_at a (s - 1)) a s (λ some. absurd (omega arith)) (λ some. absurd (omega arith)) at text x (sym (kind_at_opens a s at text) ∙ e)
kind_takes (suc n) a s le at text x e =
    by_takes (kind_at (a - 1) s) (kind_at a (s - 1)) a s (λ some. kind_takes n (a - 1) s (omega arith)) (λ some. kind_takes n a (s - 1) (omega arith)) at text x (sym (kind_at_opens a s at text) ∙ e)
