-- What stands in lists that are joined, mapped and kept from, and what holds of each item and each behind it.
use Rattle.std.proofs.Common.{◌≡◌, ◌<◌, ◌⊎◌, ℕ, zero, suc, inl, inr, List, [], ◌∷◌, ◌++◌, length, map, get_or, Bool, true, false, AllPairs, ⊎_elim, refl, sym, ap, subst, arith, ◌∙◌}
use Rattle.std.specs.Prelude.{if◌then◌else◌}
use Rattle.std.specs.List.{filter}
use Rattle.fw_zone.specs.Lists.{IsIn}

-- places in a list

pub in_place : {A : Type 0} (items : List A) (at : ℕ) (default : A) → at < length items → IsIn (get_or items at default) items
in_place [] at default within = absurd (omega (arith, within))
in_place (first ∷ others) zero default within = inl refl
in_place (first ∷ others) (suc at) default within = inr (in_place others at default (omega (arith, within)))

pub place_of : {A : Type 0} (items : List A) (item : A) → IsIn item items → (place : ℕ) × (place < length items) × (get_or items place item ≡ item)
place_of [] item there = absurd there
place_of (first ∷ others) item (inl same) = (0, omega arith, same)
place_of (first ∷ others) item (inr there) =
    let rest = place_of others item there in
    (suc rest.0, omega (arith, rest.1), rest.2)

pub in_first : {A : Type 0} (item : A) (one other : List A) → IsIn item one → IsIn item (one ++ other)
in_first item [] other there = absurd there
in_first item (first ∷ others) other (inl same) = inl same
in_first item (first ∷ others) other (inr there) = inr (in_first item others other there)

pub in_second : {A : Type 0} (item : A) (one other : List A) → IsIn item other → IsIn item (one ++ other)
in_second item [] other there = there
in_second item (first ∷ others) other there = inr (in_second item others other there)

pub in_either : {A : Type 0} (item : A) (one other : List A) → IsIn item (one ++ other) → IsIn item one ⊎ IsIn item other
in_either item [] other there = inr there
in_either item (first ∷ others) other (inl same) = inl (inl same)
in_either item (first ∷ others) other (inr there) = ⊎_elim (λ old. inl (inr old)) (λ new. inr new) (in_either item others other there)

-- what holds of each item and each behind it

module _ {T : Type 0} (R : T → T → Type 0) where
  pub pairs_none : AllPairs R []
  pairs_none = λ one other default before within. absurd (omega (arith, within))

  pub pairs_tail : (item : T) (items : List T) → AllPairs R (item ∷ items) → AllPairs R items
  pairs_tail item items all = λ one other default before within. all (suc one) (suc other) default (omega arith) (omega arith)

  pub pairs_head : (item : T) (items : List T) → AllPairs R (item ∷ items) → (other : T) → IsIn other items → R item other
  pairs_head item items all other there =
      let place = place_of items other there in
      subst (R item) place.2 (all 0 (suc place.0) other (omega arith) (omega (arith, place.1)))

  pub pairs_more : (item : T) (items : List T) → ((other : T) → IsIn other items → R item other) → AllPairs R items → AllPairs R (item ∷ items)
  pairs_more item items here rest zero zero default before within = absurd (omega (arith, before))
  pairs_more item items here rest zero (suc other) default before within = here (get_or items other default) (in_place items other default (omega (arith, within)))
  pairs_more item items here rest (suc one) zero default before within = absurd (omega (arith, before))
  pairs_more item items here rest (suc one) (suc other) default before within = rest one other default (omega (arith, before)) (omega (arith, within))

  pub pairs_joined : (one other : List T) → AllPairs R one → AllPairs R other → ((first second : T) → IsIn first one → IsIn second other → R first second) → AllPairs R (one ++ other)
  pairs_joined [] other all all_other across = all_other
  pairs_joined (item ∷ items) other all all_other across =
      pairs_more item (items ++ other)
      (λ second there. ⊎_elim (λ old. pairs_head item items all second old) (λ new. across item second (inl refl) new) (in_either second items other there))
      (pairs_joined items other (pairs_tail item items all) all_other (λ first second old new. across first second (inr old) new))

pub in_map : {A B : Type 0} (f : A → B) (item : A) (items : List A) → IsIn item items → IsIn (f item) (map f items)
in_map f item [] there = absurd there
in_map f item (first ∷ others) (inl same) = inl (ap f same)
in_map f item (first ∷ others) (inr there) = inr (in_map f item others there)

pub from_map : {A B : Type 0} (f : A → B) (other : B) (items : List A) → IsIn other (map f items) → (item : A) × IsIn item items × (f item ≡ other)
from_map f other [] there = absurd there
from_map f other (first ∷ others) (inl same) = (first, inl refl, same)
from_map f other (first ∷ others) (inr there) =
    let rest = from_map f other others there in
    (rest.0, inr rest.1, rest.2)

-- what passes is kept, and what is kept was there
pub kept_in : {A : Type 0} (passes : A → Bool) (item : A) (items : List A) → IsIn item items → passes item ≡ true → IsIn item (filter passes items)
kept_in passes item [] there is = absurd there
kept_in passes item (first ∷ others) there is = by (passes first) refl there (λ behind. kept_in passes item others behind is)
  where
    by : (b : Bool) → passes first ≡ b → IsIn item (first ∷ others) → (IsIn item others → IsIn item (filter passes others))
        → IsIn item (if b then first ∷ filter passes others else filter passes others)
    by true does (inl same) rest = inl same
    by true does (inr there) rest = inr (rest there)
    by false does (inl same) rest = let never : true ≡ false = sym is ∙ ap passes (sym same) ∙ does in cc
    by false does (inr there) rest = rest there

pub was_in : {A : Type 0} (passes : A → Bool) (item : A) (items : List A) → IsIn item (filter passes items) → IsIn item items
was_in passes item [] there = absurd there
was_in passes item (first ∷ others) there = by (passes first) there (was_in passes item others)
  where
    by : (b : Bool) → IsIn item (if b then first ∷ filter passes others else filter passes others) → (IsIn item (filter passes others) → IsIn item others)
        → IsIn item (first ∷ others)
    by true (inl same) rest = inl same
    by true (inr there) rest = inr (rest there)
    by false there rest = inr (rest there)

-- of joined lists

module _ {A : Type 0} (R : A → A → Type 0) where
  pub pairs_front : (one other : List A) → AllPairs R (one ++ other) → AllPairs R one
  pairs_front [] other all = pairs_none R
  pairs_front (item ∷ items) other all =
      pairs_more R item items (λ second there. pairs_head R item (items ++ other) all second (in_first second items other there))
      (pairs_front items other (pairs_tail R item (items ++ other) all))

  pub pairs_across : (one other : List A) → AllPairs R (one ++ other) → (first second : A) → IsIn first one → IsIn second other → R first second
  pairs_across [] other all first second there within = absurd there
  pairs_across (item ∷ items) other all first second (inl same) within =
      subst (λ (it : A). R it second) same (pairs_head R item (items ++ other) all second (in_second second items other within))
  pairs_across (item ∷ items) other all first second (inr there) within =
      pairs_across items other (pairs_tail R item (items ++ other) all) first second there within

-- by what is told of each
pub pairs_map : {A B : Type 0} (R : B → B → Type 0) (f : A → B) (items : List A) → AllPairs (λ one other. R (f one) (f other)) items → AllPairs R (map f items)
pairs_map R f [] all = pairs_none R
pairs_map {A = A} {B = B} R f (item ∷ items) all =
    pairs_more R (f item) (map f items) each (pairs_map R f items (pairs_tail (λ (one other : A). R (f one) (f other)) item items all))
  where
    each : (other : B) → IsIn other (map f items) → R (f item) other
    each other there =
        let of = from_map f other items there in
        subst (R (f item)) of.2 (pairs_head (λ (one other : A). R (f one) (f other)) item items all of.0 of.1)
