-- What holds of each item of a list holds of each of those that are kept and put in order.
use Rattle.std.proofs.Common.{◌≡◌, ◌∙◌, ◌<◌, ℕ, zero, suc, Bool, true, false, List, [], ◌∷◌, length, get_or, Bor, refl, sym, ap, subst, arith}
use Rattle.std.proofs.lemmas.Bool.{or_parts}
use Rattle.std.specs.Prelude.{if◌then◌else◌}
use Rattle.std.specs.List.{filter, list_any}
use Rattle.fw_order.specs.Borrowed.{lent}
use Rattle.fw_order.specs.Order.{in_order, placed}
use Rattle.fw_valid.specs.Each.{Each}

pub each_at : {A : Type 0} (P : A → Type 0) (xs : List (Bor A)) (at : ℕ) (x : Bor A) → at < length xs → x ≡ get_or xs at x → Each P (lent xs) → P x.now
each_at P [] at x below is all = absurd (omega (arith, below))
each_at P (first ∷ others) zero x below is all = subst (λ (one : Bor _). P one.now) (sym is) all.0
each_at P (first ∷ others) (suc at) x below is all = each_at P others at x (omega (arith, below)) is all.1

pub each_place : {A : Type 0} (P : A → Type 0) (xs : List A) (at : ℕ) (x : A) → at < length xs → x ≡ get_or xs at x → Each P xs → P x
each_place P [] at x below is all = absurd (omega (arith, below))
each_place P (first ∷ others) zero x below is all = subst P (sym is) all.0
each_place P (first ∷ others) (suc at) x below is all = each_place P others at x (omega (arith, below)) is all.1

if_kept : {A : Type 0} (P : A → Type 0) (kept : Bool) (x : A) (rest : List A) → P x → Each P rest → Each P (if kept then x ∷ rest else rest)
if_kept P true x rest is all = (is, all)
if_kept P false x rest is all = all

pub each_filtered : {A : Type 0} (P : A → Type 0) (keeps : A → Bool) (xs : List A) → Each P xs → Each P (filter keeps xs)
each_filtered P keeps [] all = all
each_filtered P keeps (x ∷ xs) all = if_kept P (keeps x) x (filter keeps xs) all.0 (each_filtered P keeps xs all.1)

placed_so : {A : Type 0} (P : A → Type 0) (before : Bool) (one two : List A) → Each P one → Each P two → Each P (if before then one else two)
placed_so P true one two is is' = is
placed_so P false one two is is' = is'

each_placed : {A : Type 0} (P : A → Type 0) (is_before : A → A → Bool) (x : A) (xs : List A) → P x → Each P xs → Each P (placed is_before x xs)
each_placed P is_before x [] is all = (is, all)
each_placed P is_before x (other ∷ others) is all =
    placed_so P (is_before other x) (other ∷ placed is_before x others) (x ∷ other ∷ others) (all.0, each_placed P is_before x others is all.1) (is, all)

pub each_in_order : {A : Type 0} (P : A → Type 0) (is_before : A → A → Bool) (xs : List A) → Each P xs → Each P (in_order is_before xs)
each_in_order P is_before [] all = all
each_in_order P is_before (x ∷ xs) all = each_placed P is_before x (in_order is_before xs) all.0 (each_in_order P is_before xs all.1)

-- what no item passes keeps none
pub none_kept : {A : Type 0} (test : A → Bool) (xs : List A) → list_any test xs ≡ false → filter test xs ≡ []
none_kept test [] is = refl
none_kept test (x ∷ xs) is =
    let parts = or_parts (test x) (list_any test xs) is in
    ap (λ (kept : Bool). if kept then x ∷ filter test xs else filter test xs) parts.0 ∙ none_kept test xs parts.1
