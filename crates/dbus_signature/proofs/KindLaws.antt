-- Types as their one level.
use Rattle.std.proofs.Common.{◌≡◌, ℕ, zero, suc, ◌+◌, ◌-◌, ◌<◌, length, eqb, Ok, Err, false, List, [], ◌∷◌, ◌++◌, refl, sym, ap, subst, ◌∙◌, take, get_or, append_assoc, arith}
use Rattle.std.proofs.lemmas.Bool.{ne_eqb}
use Rattle.std.proofs.lemmas.List.{append-nil, take_more}
use Rattle.dbus_signature.specs.declared.kind.Basic.{Basic}
use Rattle.dbus_signature.specs.declared.kind.Kind.{Kind}
use Rattle.dbus_signature.specs.declared.kind.Kind.TheOpen.{Kind-F}
use Rattle.dbus_signature.specs.declared.kind.Kind.TheVariants.{Basic as Plain, Variant, Array, Dict, Struct, rolls-Basic, rolls-Variant, rolls-Array, rolls-Dict, rolls-Struct}
use Rattle.dbus_signature.specs.declared.kind.Kind.TheViews.{out-Kind, roll-Kind, roll-out-Kind}
use Rattle.dbus_signature.specs.declared.kind.Kind.TheFolds.{fold-roll-Kind}
use Rattle.dbus_signature.specs.Types.{code, codes, codes_step, all_codes}
use Rattle.dbus_signature.specs.Signatures.{array_at, struct_at, kind_at, kind_by}

pub codes_plain : (b : Basic) → codes (Plain b) ≡ code b ∷ []
codes_plain b = ap codes (sym (rolls-Basic b)) ∙ fold-roll-Kind (List ℕ) codes_step (Kind-F.Basic b)

pub codes_variant : codes Variant ≡ 118 ∷ []
codes_variant = ap codes (sym rolls-Variant) ∙ fold-roll-Kind (List ℕ) codes_step Kind-F.Variant

pub codes_array : (e : Kind) → codes (Array e) ≡ 97 ∷ codes e
codes_array e = ap codes (sym (rolls-Array e)) ∙ fold-roll-Kind (List ℕ) codes_step (Kind-F.Array e)

pub codes_dict : (b : Basic) (e : Kind) → codes (Dict b e) ≡ 97 ∷ 123 ∷ code b ∷ codes e ++ 125 ∷ []
codes_dict b e = ap codes (sym (rolls-Dict b e)) ∙ fold-roll-Kind (List ℕ) codes_step (Kind-F.Dict b e)

pub codes_struct : (ks : List Kind) → codes (Struct ks) ≡ 40 ∷ all_codes ks ++ 41 ∷ []
codes_struct ks = ap codes (sym (rolls-Struct ks)) ∙ fold-roll-Kind (List ℕ) codes_step (Kind-F.Struct ks)

by_layer : (P : Kind → Type 0) → ((b : Basic) → P (Plain b)) → P Variant → ((e : Kind) → P (Array e)) → ((b : Basic) (e : Kind) → P (Dict b e)) → ((ks : List Kind) → P (Struct ks)) → (x : Kind-F Kind) → P (roll-Kind x)
by_layer P plain variant array dict struct (Kind-F.Basic b) = subst P (sym (rolls-Basic b)) (plain b)
by_layer P plain variant array dict struct Kind-F.Variant = subst P (sym rolls-Variant) variant
by_layer P plain variant array dict struct (Kind-F.Array e) = subst P (sym (rolls-Array e)) (array e)
by_layer P plain variant array dict struct (Kind-F.Dict b e) = subst P (sym (rolls-Dict b e)) (dict b e)
by_layer P plain variant array dict struct (Kind-F.Struct ks) = subst P (sym (rolls-Struct ks)) (struct ks)

-- a type is one of the five
pub by_kind : (P : Kind → Type 0) → ((b : Basic) → P (Plain b)) → P Variant → ((e : Kind) → P (Array e)) → ((b : Basic) (e : Kind) → P (Dict b e)) → ((ks : List Kind) → P (Struct ks)) → (k : Kind) → P k
by_kind P plain variant array dict struct k = subst P (roll-out-Kind k) (by_layer P plain variant array dict struct (out-Kind k))

-- one step of reading a type
pub kind_at_opens : (a s at : ℕ) (text : List ℕ) → kind_at a s at text ≡ kind_by a s (kind_at (a - 1) s) (kind_at a (s - 1)) at text
unfolding kind_at
kind_at_opens zero zero at [] = refl
kind_at_opens zero zero at (c ∷ text) = refl
kind_at_opens zero (suc s) at [] = refl
kind_at_opens zero (suc s) at (c ∷ text) = let e : suc s - 1 ≡ s = omega arith in rw e refl
kind_at_opens (suc a) zero at [] = refl
kind_at_opens (suc a) zero at (c ∷ text) = let e : suc a - 1 ≡ a = omega arith in rw e refl
kind_at_opens (suc a) (suc s) at [] = refl
kind_at_opens (suc a) (suc s) at (c ∷ text) = let e : suc a - 1 ≡ a = omega arith in let f : suc s - 1 ≡ s = omega arith in rw (e, f) refl

-- the step at an array, a struct and a variant, and at the end
pub opens_array : (a s at : ℕ) (text : List ℕ) (c next : ℕ) (rest : List ℕ) → text ≡ c ∷ rest → next ≡ at + 1 → c ≡ 97 → 0 < a → kind_at a s at text ≡ array_at (kind_at (a - 1) s) next rest
opens_array a s at text c next rest is moved letter some =
    let no : eqb a 0 ≡ false = ne_eqb a 0 (λ e. omega arith) in
    rw (is, moved, letter) (kind_at_opens a s at (97 ∷ rest) ∙ rw no refl)

pub opens_struct : (a s at : ℕ) (text : List ℕ) (c next : ℕ) (rest : List ℕ) → text ≡ c ∷ rest → next ≡ at + 1 → c ≡ 40 → 0 < s → kind_at a s at text ≡ struct_at (kind_at a (s - 1)) next rest
opens_struct a s at text c next rest is moved letter some =
    let no : eqb s 0 ≡ false = ne_eqb s 0 (λ e. omega arith) in
    rw (is, moved, letter) (kind_at_opens a s at (40 ∷ rest) ∙ rw no refl)

pub opens_variant : (a s at : ℕ) (text : List ℕ) (c next : ℕ) (rest : List ℕ) → text ≡ c ∷ rest → next ≡ at + 1 → c ≡ 118 → kind_at a s at text ≡ Ok (Variant, next, rest)
opens_variant a s at text c next rest is moved letter = rw (is, moved, letter) (kind_at_opens a s at (118 ∷ rest))

pub opens_end : (a s at : ℕ) → kind_at a s at [] ≡ Err at
opens_end a s at = kind_at_opens a s at []

pub ruleset spellings = (codes_plain, codes_variant, codes_array, codes_dict, codes_struct)

all_codes_append : (xs ys : List Kind) → all_codes (xs ++ ys) ≡ all_codes xs ++ all_codes ys
all_codes_append [] ys = refl
all_codes_append (x ∷ xs) ys = ap (λ (t : List ℕ). codes x ++ t) (all_codes_append xs ys) ∙ sym (append_assoc (codes x) (all_codes xs) (all_codes ys))

-- one more type
pub all_codes_more : (kinds : List Kind) (i : ℕ) (d : Kind) → i < length kinds → all_codes (take (i + 1) kinds) ≡ all_codes (take i kinds) ++ codes (get_or kinds i d)
all_codes_more kinds i d within = ap all_codes (take_more kinds i d within) ∙ all_codes_append (take i kinds) (get_or kinds i d ∷ []) ∙ ap (λ (t : List ℕ). all_codes (take i kinds) ++ t) (append-nil (codes (get_or kinds i d)))
