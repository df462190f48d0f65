-- The types within a type keep the limits too.
use Rattle.std.proofs.Common.{◌≡◌, ℕ, zero, suc, ◌+◌, ◌<◌, ◌≤◌, true, false, List, [], ◌∷◌, length, All, refl, sym, ap, ◌∙◌, arith}
use Rattle.std.specs.List.{list_all, AllByRecursion}
use Rattle.std.proofs.lemmas.Bool.{and_parts, and_from}
use Rattle.std.proofs.lemmas.List.{length-append}
use Rattle.std.proofs.lemmas.List.Elements.{All-from_recursion}
use Rattle.dbus_signature.specs.declared.kind.Basic.{Basic}
use Rattle.dbus_signature.specs.declared.kind.Kind.{Kind}
use Rattle.dbus_signature.specs.declared.kind.Kind.TheVariants.{Array, Dict, Struct}
use Rattle.dbus_signature.specs.Types.{codes, all_codes, nests}
use Rattle.dbus_signature.specs.Signatures.{IsKind, max_nesting, max_length}
use Rattle.dbus_signature.proofs.KindLaws.{by_kind, codes_array, codes_dict, codes_struct}
use Rattle.dbus_signature.proofs.Sound.{nests_array, nests_no_array, nests_dict, nests_no_dict, nests_plain, nests_variant, nests_struct}
use Rattle.dbus_signature.proofs.Complete.{nests_empty, nests_no_struct}

false_true : false ≡ true → ⊥
false_true e = cc

-- What nests as deep as it may there nests as deep as it may where more may.
abbrev Grows : ℕ → ℕ → ℕ → ℕ → Kind → Type 0
Grows a s b t k = nests k a s ≡ true → nests k b t ≡ true

all_grow : (a s b t : ℕ) → ((k : Kind) → Grows a s b t k) → (ks : List Kind) → list_all (λ k. nests k a s) ks ≡ true → list_all (λ k. nests k b t) ks ≡ true
all_grow a s b t grow [] all = refl
all_grow a s b t grow (k ∷ ks) all =
    let both = and_parts (nests k a s) (list_all (λ x. nests x a s) ks) all in
    and_from _ _ (grow k both.0) (all_grow a s b t grow ks both.1)

grows_array : (n a s b t : ℕ) → ((c d : ℕ) → suc c ≡ a → suc d ≡ b → (k : Kind) → Grows c s d t k) → a ≤ b → (e : Kind) → Grows a s b t (Array e)
grows_array n zero s b t inner le e nested = absurd (false_true (sym (nests_no_array e s) ∙ nested))
grows_array n (suc a) s zero t inner le e nested = absurd (omega arith)
grows_array n (suc a) s (suc b) t inner le e nested = nests_array e b t ∙ inner a b refl refl e (sym (nests_array e a s) ∙ nested)

grows_dict : (a s b t : ℕ) → ((c d : ℕ) → suc c ≡ a → suc d ≡ b → (k : Kind) → Grows c s d t k) → a ≤ b → (l : Basic) (e : Kind) → Grows a s b t (Dict l e)
grows_dict zero s b t inner le l e nested = absurd (false_true (sym (nests_no_dict l e s) ∙ nested))
grows_dict (suc a) s zero t inner le l e nested = absurd (omega arith)
grows_dict (suc a) s (suc b) t inner le l e nested = nests_dict l e b t ∙ inner a b refl refl e (sym (nests_dict l e a s) ∙ nested)

grows_struct : (a s b t : ℕ) → ((c d : ℕ) → suc c ≡ s → suc d ≡ t → (k : Kind) → Grows a c b d k) → s ≤ t → (ks : List Kind) → Grows a s b t (Struct ks)
grows_struct a s b t inner le [] nested = absurd (false_true (sym (nests_empty a s) ∙ nested))
grows_struct a zero b t inner le (k ∷ ks) nested = absurd (false_true (sym (nests_no_struct k ks a) ∙ nested))
grows_struct a (suc s) b zero inner le (k ∷ ks) nested = absurd (omega arith)
grows_struct a (suc s) b (suc t) inner le (k ∷ ks) nested =
    nests_struct k ks b t ∙ all_grow a s b t (inner s t refl refl) (k ∷ ks) (sym (nests_struct k ks a s) ∙ nested)

grows : (n a s b t : ℕ) → a + s ≤ n → a ≤ b → s ≤ t → (k : Kind) → Grows a s b t k
grows zero a s b t le la ls = by_kind (Grows a s b t) (λ l nested. nests_plain l b t) (λ nested. nests_variant b t)
    (grows_array 0 a s b t (λ c d p q. absurd (omega arith)) la)
    (grows_dict a s b t (λ c d p q. absurd (omega arith)) la)
    (grows_struct a s b t (λ c d p q. absurd (omega arith)) ls)
grows (suc n) a s b t le la ls = by_kind (Grows a s b t) (λ l nested. nests_plain l b t) (λ nested. nests_variant b t)
    (grows_array 0 a s b t (λ c d p q. grows n c s d t (omega arith) (omega arith) ls) la)
    (grows_dict a s b t (λ c d p q. grows n c s d t (omega arith) (omega arith) ls) la)
    (grows_struct a s b t (λ c d p q. grows n a c b d (omega arith) la (omega arith)) ls)

pub element_is : (e : Kind) → IsKind (Array e) → IsKind e
element_is e is =
    let below : nests e 31 max_nesting ≡ true = sym (nests_array e 31 max_nesting) ∙ is.nested in
    record { spelt = refl; nested = grows 63 31 max_nesting max_nesting max_nesting (omega arith) (omega arith) (omega arith) e below; short = omega (arith, is.short, ap length (codes_array e)) }

pub value_is : (l : Basic) (e : Kind) → IsKind (Dict l e) → IsKind e
value_is l e is =
    let below : nests e 31 max_nesting ≡ true = sym (nests_dict l e 31 max_nesting) ∙ is.nested in
    record { spelt = refl; nested = grows 63 31 max_nesting max_nesting max_nesting (omega arith) (omega arith) (omega arith) e below; short = omega (arith, is.short, ap length (codes_dict l e), length-append (codes e) (125 ∷ [])) }

members_are : (ks : List Kind) → list_all (λ k. nests k max_nesting 31) ks ≡ true → length (all_codes ks) ≤ max_length → AllByRecursion IsKind ks
members_are [] nested short = tt
members_are (k ∷ ks) nested short =
    let both = and_parts (nests k max_nesting 31) (list_all (λ m. nests m max_nesting 31) ks) nested in
    let len = length-append (codes k) (all_codes ks) in
    (record { spelt = refl; nested = grows 63 max_nesting 31 max_nesting max_nesting (omega arith) (omega arith) (omega arith) k both.0; short = omega arith }, members_are ks both.1 (omega arith))

pub all_members_are : (ks : List Kind) → IsKind (Struct ks) → AllByRecursion IsKind ks
all_members_are [] is = tt
all_members_are (k ∷ ks) is =
    members_are (k ∷ ks) (sym (nests_struct k ks max_nesting 31) ∙ is.nested) (omega (arith, is.short, ap length (codes_struct (k ∷ ks)), length-append (all_codes (k ∷ ks)) (41 ∷ [])))

pub members_is : (ks : List Kind) → IsKind (Struct ks) → All IsKind ks
members_is ks is = All-from_recursion IsKind ks (all_members_are ks is)

pub struct_some : (ks : List Kind) → IsKind (Struct ks) → 0 < length ks
struct_some [] is = absurd (false_true (sym (nests_empty max_nesting max_nesting) ∙ is.nested))
struct_some (k ∷ ks) is = omega arith
