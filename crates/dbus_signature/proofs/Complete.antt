-- Each type that nests as deep as it may is read, whatever follows its spelling.
use Rattle.std.proofs.Common.{◌≡◌, ℕ, zero, suc, ◌+◌, ◌-◌, ◌<◌, ◌≤◌, Bool, true, false, eqb, List, [], ◌∷◌, ◌++◌, length, None, Ok, refl, sym, ap, subst, ◌∙◌, append_assoc, arith}
use Rattle.std.specs.List.{list_all}
use Rattle.std.proofs.lemmas.Bool.{ne_eqb, and_parts}
use Rattle.std.proofs.lemmas.List.{length-append}
use Rattle.dbus_signature.specs.declared.kind.Basic.{Basic}
use Rattle.dbus_signature.specs.declared.kind.Basic.TheVariants as basic
use Rattle.dbus_signature.specs.declared.kind.Kind.{Kind}
use Rattle.dbus_signature.specs.declared.kind.Kind.TheOpen.{Kind-F}
use Rattle.dbus_signature.specs.declared.kind.Kind.TheVariants.{Basic as Plain, Variant, Array, Dict, Struct, rolls-Struct}
use Rattle.dbus_signature.specs.declared.kind.Kind.TheFolds.{fold-roll-Kind}
use Rattle.dbus_signature.specs.Types.{code, codes, all_codes, nests, nests_step}
use Rattle.dbus_signature.specs.Reading.{Read, Reader}
use Rattle.dbus_signature.specs.Signatures.{dict_at, plain_array_at, array_at, closing, members_at, struct_at, letter_at, kind_by, kind_at}
use Rattle.dbus_signature.proofs.Sound.{nests_array, nests_no_array, nests_dict, nests_no_dict, nests_struct, basic_again}
use Rattle.dbus_signature.proofs.KindLaws.{codes_plain, codes_variant, codes_array, codes_dict, codes_struct, by_kind, kind_at_opens}

-- Each type that nests as deep as it may is read, whatever follows.
abbrev pub Again : Reader Kind → ℕ → ℕ → Kind → Type 0
Again inner a s k = (at : ℕ) (rest : List ℕ) → nests k a s ≡ true → inner at (codes k ++ rest) ≡ Ok (k, at + length (codes k), rest)

abbrev pub Complete : Reader Kind → ℕ → ℕ → Type 0
Complete inner a s = (k : Kind) → Again inner a s k

abbrev found : {A : Type 0} → A → ℕ → List ℕ → Read A
found x at rest = Ok (x, at, rest)

moved_to : {A : Type 0} (x : A) (m n : ℕ) (rest : List ℕ) → m ≡ n → found x m rest ≡ found x n rest
moved_to {A} x m n rest e = ap (λ (k : ℕ). found x k rest) e

pub nests_empty : (a s : ℕ) → nests (Struct []) a s ≡ false
nests_empty a s = ap (λ (k : Kind). nests k a s) (sym (rolls-Struct [])) ∙ ap (λ (f : ℕ → ℕ → Bool). f a s) (fold-roll-Kind (ℕ → ℕ → Bool) nests_step (Kind-F.Struct []))

pub nests_no_struct : (k : Kind) (ks : List Kind) (a : ℕ) → nests (Struct (k ∷ ks)) a 0 ≡ false
nests_no_struct k ks a = ap (λ (x : Kind). nests x a 0) (sym (rolls-Struct (k ∷ ks))) ∙ ap (λ (f : ℕ → ℕ → Bool). f a 0) (fold-roll-Kind (ℕ → ℕ → Bool) nests_step (Kind-F.Struct (k ∷ ks)))

-- a type's first letter, which closes nothing and opens no entry
pub record Starts (k : Kind) : Type 0 where
  pub letter : ℕ
  pub others : List ℕ
  pub spelt : codes k ≡ letter ∷ others
  pub closes_nothing : letter ≡ 41 → ⊥
  pub opens_nothing : letter ≡ 123 → ⊥

code_least : (b : Basic) → 98 ≤ code b
code_least basic.Byte = omega arith
code_least basic.Bool = omega arith
code_least basic.I16 = omega arith
code_least basic.U16 = omega arith
code_least basic.I32 = omega arith
code_least basic.U32 = omega arith
code_least basic.I64 = omega arith
code_least basic.U64 = omega arith
code_least basic.Double = omega arith
code_least basic.Str = omega arith
code_least basic.Path = omega arith
code_least basic.Sig = omega arith
code_least basic.Fd = omega arith

code_most : (b : Basic) → code b ≤ 121
code_most basic.Byte = omega arith
code_most basic.Bool = omega arith
code_most basic.I16 = omega arith
code_most basic.U16 = omega arith
code_most basic.I32 = omega arith
code_most basic.U32 = omega arith
code_most basic.I64 = omega arith
code_most basic.U64 = omega arith
code_most basic.Double = omega arith
code_most basic.Str = omega arith
code_most basic.Path = omega arith
code_most basic.Sig = omega arith
code_most basic.Fd = omega arith

starts_plain : (b : Basic) → Starts (Plain b)
starts_plain b = record {
  letter = code b;
  others = [];
  spelt = codes_plain b;
  closes_nothing = λ e. absurd (omega (arith, code_least b));
  opens_nothing = λ e. absurd (omega (arith, code_most b));
}

pub starts : (k : Kind) → Starts k
starts = by_kind Starts starts_plain
    (record { letter = 118; others = []; spelt = codes_variant; closes_nothing = λ e. absurd (omega arith); opens_nothing = λ e. absurd (omega arith) })
    (λ e. record { letter = 97; others = codes e; spelt = codes_array e; closes_nothing = λ h. absurd (omega arith); opens_nothing = λ h. absurd (omega arith) })
    (λ b e. record { letter = 97; others = 123 ∷ code b ∷ codes e ++ 125 ∷ []; spelt = codes_dict b e; closes_nothing = λ h. absurd (omega arith); opens_nothing = λ h. absurd (omega arith) })
    (λ ks. record { letter = 40; others = all_codes ks ++ 41 ∷ []; spelt = codes_struct ks; closes_nothing = λ h. absurd (omega arith); opens_nothing = λ h. absurd (omega arith) })

plain_by : (b : Basic) (a s : ℕ) (in_array in_struct : Reader Kind) (at : ℕ) (rest : List ℕ) → kind_by a s in_array in_struct at (code b ∷ rest) ≡ Ok (Plain b, at + 1, rest)
unfolding letter_at
plain_by basic.Byte a s in_array in_struct at rest = refl
plain_by basic.Bool a s in_array in_struct at rest = refl
plain_by basic.I16 a s in_array in_struct at rest = refl
plain_by basic.U16 a s in_array in_struct at rest = refl
plain_by basic.I32 a s in_array in_struct at rest = refl
plain_by basic.U32 a s in_array in_struct at rest = refl
plain_by basic.I64 a s in_array in_struct at rest = refl
plain_by basic.U64 a s in_array in_struct at rest = refl
plain_by basic.Double a s in_array in_struct at rest = refl
plain_by basic.Str a s in_array in_struct at rest = refl
plain_by basic.Path a s in_array in_struct at rest = refl
plain_by basic.Sig a s in_array in_struct at rest = refl
plain_by basic.Fd a s in_array in_struct at rest = refl

again_plain : (a s : ℕ) (b : Basic) → Again (kind_at a s) a s (Plain b)
again_plain a s b at rest nested =
    let spelt : codes (Plain b) ≡ code b ∷ [] = codes_plain b in
    rw spelt (kind_at_opens a s at (code b ∷ rest) ∙ plain_by b a s (kind_at (a - 1) s) (kind_at a (s - 1)) at rest)

again_variant : (a s : ℕ) → Again (kind_at a s) a s Variant
again_variant a s at rest nested = rw codes_variant (kind_at_opens a s at (118 ∷ rest))

array_plain : (inner : Reader Kind) (at : ℕ) (text : List ℕ) (c : ℕ) (others : List ℕ) → text ≡ c ∷ others → (c ≡ 123 → ⊥) → array_at inner at text ≡ plain_array_at inner at text
array_plain inner at text c others is other = rw (is, ne_eqb c 123 other) refl

array_again : (inner : Reader Kind) (e : Kind) (at : ℕ) (rest : List ℕ) → inner (at + 1) (codes e ++ rest) ≡ Ok (e, at + 1 + length (codes e), rest) → array_at inner (at + 1) (codes e ++ rest) ≡ Ok (Array e, at + length (97 ∷ codes e), rest)
unfolding plain_array_at
array_again inner e at rest h =
    let first = starts e in
    array_plain inner (at + 1) (codes e ++ rest) first.letter (first.others ++ rest) (ap (λ (t : List ℕ). t ++ rest) first.spelt) first.opens_nothing
    ∙ rw h (moved_to (Array e) (at + 1 + length (codes e)) (at + length (97 ∷ codes e)) rest (omega arith))

dict_again : (inner : Reader Kind) (b : Basic) (e : Kind) (at : ℕ) (rest : List ℕ) → inner (at + 1 + 1 + 1) (codes e ++ (125 ∷ rest)) ≡ Ok (e, at + 1 + 1 + 1 + length (codes e), 125 ∷ rest)
    → dict_at inner (at + 1 + 1) (code b ∷ codes e ++ (125 ∷ rest)) ≡ Ok (Dict b e, at + length (97 ∷ 123 ∷ code b ∷ codes e ++ 125 ∷ []), rest)
unfolding dict_at
dict_again inner b e at rest h =
    rw (basic_again b (at + 1 + 1) (codes e ++ (125 ∷ rest)), h) (moved_to (Dict b e) _ _ rest (omega (arith, length-append (codes e) (125 ∷ []))))

false_true : false ≡ true → ⊥
false_true e = cc

again_array : (a s : ℕ) → (0 < a → Complete (kind_at (a - 1) s) (a - 1) s) → (e : Kind) → Again (kind_at a s) a s (Array e)
again_array zero s inner e at rest nested = absurd (false_true (sym (nests_no_array e s) ∙ nested))
again_array (suc a) s inner e at rest nested =
    let some : eqb (suc a) 0 ≡ false = ne_eqb (suc a) 0 (λ h. omega arith) in
    let less : suc a - 1 ≡ a = omega arith in
    let below : nests e (suc a - 1) s ≡ true = rw less (sym (nests_array e a s) ∙ nested) in
    let h = inner (omega arith) e (at + 1) rest below in
    rw (codes_array e) (kind_at_opens (suc a) s at (97 ∷ codes e ++ rest) ∙ rw some (array_again (kind_at (suc a - 1) s) e at rest h))

again_dict : (a s : ℕ) → (0 < a → Complete (kind_at (a - 1) s) (a - 1) s) → (b : Basic) (e : Kind) → Again (kind_at a s) a s (Dict b e)
again_dict zero s inner b e at rest nested = absurd (false_true (sym (nests_no_dict b e s) ∙ nested))
again_dict (suc a) s inner b e at rest nested =
    let some : eqb (suc a) 0 ≡ false = ne_eqb (suc a) 0 (λ h. omega arith) in
    let less : suc a - 1 ≡ a = omega arith in
    let below : nests e (suc a - 1) s ≡ true = rw less (sym (nests_dict b e a s) ∙ nested) in
    let h = inner (omega arith) e (at + 1 + 1 + 1) (125 ∷ rest) below in
    let regrouped : codes e ++ (125 ∷ []) ++ rest ≡ codes e ++ (125 ∷ rest) = append_assoc (codes e) (125 ∷ []) rest in
    rw (codes_dict b e, regrouped) (kind_at_opens (suc a) s at (97 ∷ 123 ∷ code b ∷ codes e ++ (125 ∷ rest)) ∙ rw some (dict_again (kind_at (suc a - 1) s) b e at rest h))

unclosed : (at : ℕ) (k : Kind) (text : List ℕ) → closing at (codes k ++ text) ≡ None
unclosed at k text = let first = starts k in rw (first.spelt, ne_eqb first.letter 41 first.closes_nothing) refl

-- how many members there may be
pub count_le : (ks : List Kind) → length ks ≤ length (all_codes ks)
count_le [] = omega arith
count_le (k ∷ ks) = omega (arith, count_le ks, length-append (codes k) (all_codes ks), ap length (starts k).spelt)

-- the members that are still read
abbrev AgainMembers : Reader Kind → ℕ → ℕ → List Kind → List ℕ → Type 0
AgainMembers inner n at ks rest = members_at inner n at (all_codes ks ++ (41 ∷ rest)) ≡ found ks (at + length (all_codes ks) + 1) rest

last_again : (inner : Reader Kind) (a s : ℕ) → Complete inner a s → (k : Kind) (n at : ℕ) (rest : List ℕ) → nests k a s ≡ true → AgainMembers inner (suc n) at (k ∷ []) rest
unfolding members_at
last_again inner a s complete k n at rest nested =
    let regrouped : (codes k ++ []) ++ (41 ∷ rest) ≡ codes k ++ (41 ∷ rest) = append_assoc (codes k) [] (41 ∷ rest) in
    rw (regrouped, complete k at (41 ∷ rest) nested) (moved_to (k ∷ []) _ _ rest (omega (arith, length-append (codes k) [])))

more_again : (inner : Reader Kind) (a s : ℕ) → Complete inner a s → (k l : Kind) (ks : List Kind) (n at : ℕ) (rest : List ℕ) → nests k a s ≡ true
    → AgainMembers inner n (at + length (codes k)) (l ∷ ks) rest → AgainMembers inner (suc n) at (k ∷ l ∷ ks) rest
unfolding members_at
more_again inner a s complete k l ks n at rest nested h =
    let others = all_codes (l ∷ ks) ++ (41 ∷ rest) in
    let regrouped : (codes k ++ all_codes (l ∷ ks)) ++ (41 ∷ rest) ≡ codes k ++ (all_codes (l ∷ ks) ++ (41 ∷ rest)) = append_assoc (codes k) (all_codes (l ∷ ks)) (41 ∷ rest) in
    let open_still : closing (at + length (codes k)) (all_codes (l ∷ ks) ++ (41 ∷ rest)) ≡ None = rw (append_assoc (codes l) (all_codes ks) (41 ∷ rest)) (unclosed (at + length (codes k)) l (all_codes ks ++ (41 ∷ rest))) in
    rw (regrouped, complete k at (all_codes (l ∷ ks) ++ (41 ∷ rest)) nested, open_still, h) (moved_to (k ∷ l ∷ ks) _ _ rest (omega (arith, length-append (codes k) (all_codes (l ∷ ks)))))

members_again : (inner : Reader Kind) (a s : ℕ) → Complete inner a s → (ks : List Kind) (n at : ℕ) (rest : List ℕ) → 0 < length ks → length ks ≤ n → list_all (λ k. nests k a s) ks ≡ true → AgainMembers inner n at ks rest
members_again inner a s complete [] n at rest some enough nested = absurd (omega arith)
members_again inner a s complete (k ∷ ks) zero at rest some enough nested = absurd (omega arith)
members_again inner a s complete (k ∷ []) (suc n) at rest some enough nested = last_again inner a s complete k n at rest (and_parts _ _ nested).0
members_again inner a s complete (k ∷ l ∷ ks) (suc n) at rest some enough nested =
    let both = and_parts (nests k a s) (list_all (λ m. nests m a s) (l ∷ ks)) nested in
    more_again inner a s complete k l ks n at rest both.0 (members_again inner a s complete (l ∷ ks) n (at + length (codes k)) rest (omega arith) (omega arith) both.1)

struct_again : (inner : Reader Kind) (a s : ℕ) → Complete inner a s → (ks : List Kind) (at : ℕ) (rest : List ℕ) → 0 < length ks → list_all (λ k. nests k a s) ks ≡ true
    → struct_at inner (at + 1) (all_codes ks ++ (41 ∷ rest)) ≡ Ok (Struct ks, at + length (40 ∷ all_codes ks ++ 41 ∷ []), rest)
unfolding struct_at
struct_again inner a s complete ks at rest some nested =
    rw (members_again inner a s complete ks (length (all_codes ks ++ (41 ∷ rest))) (at + 1) rest some (omega (arith, count_le ks, length-append (all_codes ks) (41 ∷ rest))) nested)
    (moved_to (Struct ks) _ _ rest (omega (arith, length-append (all_codes ks) (41 ∷ []))))

again_struct : (a s : ℕ) → (0 < s → Complete (kind_at a (s - 1)) a (s - 1)) → (ks : List Kind) → Again (kind_at a s) a s (Struct ks)
again_struct a s inner [] at rest nested = absurd (false_true (sym (nests_empty a s) ∙ nested))
again_struct a zero inner (k ∷ ks) at rest nested = absurd (false_true (sym (nests_no_struct k ks a) ∙ nested))
again_struct a (suc s) inner (k ∷ ks) at rest nested =
    let some : eqb (suc s) 0 ≡ false = ne_eqb (suc s) 0 (λ h. omega arith) in
    let less : suc s - 1 ≡ s = omega arith in
    let below : list_all (λ m. nests m a (suc s - 1)) (k ∷ ks) ≡ true = subst (λ (n : ℕ). list_all (λ m. nests m a n) (k ∷ ks) ≡ true) (sym less) (sym (nests_struct k ks a s) ∙ nested) in
    let regrouped : (all_codes (k ∷ ks) ++ (41 ∷ [])) ++ rest ≡ all_codes (k ∷ ks) ++ (41 ∷ rest) = append_assoc (all_codes (k ∷ ks)) (41 ∷ []) rest in
    rw (codes_struct (k ∷ ks), regrouped) (kind_at_opens a (suc s) at (40 ∷ all_codes (k ∷ ks) ++ (41 ∷ rest)) ∙ rw some (struct_again (kind_at a (suc s - 1)) a (suc s - 1) (inner (omega arith)) (k ∷ ks) at rest (omega arith) below))

again_by : (a s : ℕ) → (0 < a → Complete (kind_at (a - 1) s) (a - 1) s) → (0 < s → Complete (kind_at a (s - 1)) a (s - 1)) → Complete (kind_at a s) a s
again_by a s in_array in_struct = by_kind (Again (kind_at a s) a s) (again_plain a s) (again_variant a s) (again_array a s in_array) (again_dict a s in_array) (again_struct a s in_struct)

pub kind_again : (n a s : ℕ) → a + s ≤ n → Complete (kind_at a s) a s
kind_again zero a s le = again_by a s (λ some. absurd (omega arith)) (λ some. absurd (omega arith))
kind_again (suc n) a s le = again_by a s (λ some. kind_again n (a - 1) s (omega arith)) (λ some. kind_again n a (s - 1) (omega arith))
