-- What holds of each item of a list, by places.
use Rattle.std.proofs.Common.{◌≡◌, ◌∙◌, ℕ, zero, suc, ◌+◌, inl, inr, Bool, true, false, List, [], ◌∷◌, length, map, Some, slice_get, take, drop, refl, sym, ap, subst, add-one}
use Rattle.std.specs.Bool.{Decides}
use Rattle.std.specs.List.{list_all, list_any}
use Rattle.std.specs.Str.{bytes_eq}
use Rattle.std.proofs.lemmas.Bool.{false≢true}
use Rattle.std.proofs.lemmas.Bool.Decides.{Decides-and, Decides-or}
use Rattle.std.proofs.lemmas.Slice.Eq.{bytes_eq-Decides}
use Rattle.fw_valid.specs.Each.{Each, IsWithoutRepeats}
use Rattle.fw_zone.specs.Lists.{IsIn}

module _ {A : Type 0} (P : A → Type 0) where
  -- what holds of each holds of the one at a place
  pub each_at : (items : List A) (place : ℕ) (item : A) → Each P items → slice_get items place ≡ Some item → P item
  each_at [] place item each is = cc
  each_at (first ∷ others) zero item each is = let same : first ≡ item = cc in subst P same each.0
  each_at (first ∷ others) (suc place) item each is = each_at others place item each.1 is

  -- and of each of its list
  pub each_in : (items : List A) (item : A) → Each P items → IsIn item items → P item
  each_in [] item each found = absurd found
  each_in (first ∷ others) item each (inl here) = subst P here each.0
  each_in (first ∷ others) item each (inr there) = each_in others item each.1 there

  pub all_each : (items : List A) → ((item : A) → IsIn item items → P item) → Each P items
  all_each [] all = tt
  all_each (first ∷ others) all = (all first (inl refl), all_each others (λ item there. all item (inr there)))

  front_more : (items : List A) (place : ℕ) (item : A) → Each P (take place items) → slice_get items place ≡ Some item → P item → Each P (take (suc place) items)
  front_more [] place item each is so = tt
  front_more (first ∷ others) zero item each is so = let same : item ≡ first = cc in (subst P same so, tt)
  front_more (first ∷ others) (suc place) item each is so = (each.0, front_more others place item each.1 is so)

  -- one item more
  pub each_more : (items : List A) (place : ℕ) (item : A) → Each P (take place items) → slice_get items place ≡ Some item → P item → Each P (take (place + 1) items)
  each_more items place item each is so = subst (λ upto. Each P (take upto items)) (sym (add-one place)) (front_more items place item each is so)

  pub each_whole : (items : List A) → Each P (take (length items) items) → Each P items
  each_whole [] each = tt
  each_whole (first ∷ others) each = (each.0, each_whole others each.1)

  -- a test of each
  pub tested : (test : A → Bool) → ((item : A) → Decides (test item) (P item)) → (items : List A) → Decides (list_all test items) (Each P items)
  tested test decides [] = (λ is. tt, λ each. refl)
  tested test decides (item ∷ items) = Decides-and _ _ (decides item) (tested test decides items)

-- The same of what a function gives for each.
module _ {A B : Type 0} (of : A → B) where
  pub map_take : (place : ℕ) (items : List A) → map of (take place items) ≡ take place (map of items)
  map_take zero items = refl
  map_take (suc place) [] = refl
  map_take (suc place) (item ∷ items) = ap (λ rest. of item ∷ rest) (map_take place items)

  pub map_get : (items : List A) (place : ℕ) (item : A) → slice_get items place ≡ Some item → slice_get (map of items) place ≡ Some (of item)
  map_get [] place item is = cc
  map_get (first ∷ others) zero item is = cc
  map_get (first ∷ others) (suc place) item is = map_get others place item is

  pub map_length : (items : List A) → length (map of items) ≡ length items
  map_length [] = refl
  map_length (item ∷ items) = ap suc (map_length items)

-- a name is among those of some items
pub name_among : {A : Type 0} (name_of : A → List ℕ) (items : List A) (name : List ℕ) → Decides (list_any (λ item. bytes_eq (name_of item) name) items) (IsIn name (map name_of items))
name_among name_of [] name = (λ is. absurd (false≢true is), λ found. absurd found)
name_among name_of (item ∷ items) name = Decides-or _ _ (bytes_eq-Decides (name_of item) name) (name_among name_of items name)

-- Lists without repeats, from behind.
module _ {A : Type 0} where
  drop_at : (items : List A) (place : ℕ) (item : A) → slice_get items place ≡ Some item → drop place items ≡ item ∷ drop (suc place) items
  drop_at [] place item is = cc
  drop_at (first ∷ others) zero item is = cc
  drop_at (first ∷ others) (suc place) item is = drop_at others place item is

  -- the item at a place doesn't stand behind it
  pub not_behind : (items : List A) (place : ℕ) (item : A) → IsWithoutRepeats items → slice_get items place ≡ Some item → ¬ (IsIn item (drop (place + 1) items))
  not_behind items place item once is = subst (λ from. ¬ (IsIn item (drop from items))) (sym (add-one place)) (by items place item once is)
    where
      by : (items : List A) (place : ℕ) (item : A) → IsWithoutRepeats items → slice_get items place ≡ Some item → ¬ (IsIn item (drop (suc place) items))
      by [] place item once is = cc
      by (first ∷ others) zero item once is = let same : first ≡ item = cc in subst (λ one. ¬ (IsIn one others)) same once.0
      by (first ∷ others) (suc place) item once is = by others place item once.1 is

  -- the rest from a place on has no repeats where that from behind it has none and the item at the place isn't there
  pub once_more : (items : List A) (place : ℕ) (item : A) → slice_get items place ≡ Some item → (IsWithoutRepeats (drop place items) → IsWithoutRepeats items)
      → ¬ (IsIn item (drop (place + 1) items)) → IsWithoutRepeats (drop (place + 1) items) → IsWithoutRepeats items
  once_more items place item is so absent rest =
      so (subst IsWithoutRepeats (sym (drop_at items place item is)) (
        subst (λ from. ¬ (IsIn item (drop from items))) (add-one place) absent,
        subst (λ from. IsWithoutRepeats (drop from items)) (add-one place) rest,
      ))

  pub none_left : (items : List A) → IsWithoutRepeats (drop (length items) items)
  none_left [] = tt
  none_left (item ∷ items) = none_left items

pub map_drop : {A B : Type 0} (of : A → B) (place : ℕ) (items : List A) → map of (drop place items) ≡ drop place (map of items)
map_drop of zero items = refl
map_drop of (suc place) [] = refl
map_drop of (suc place) (item ∷ items) = map_drop of place items

-- Two tests one behind the other.
module _ {P Q : Type 0} (one other : Bool) where
  pub so_behind : Decides one P → one ≡ true → Decides other Q → Decides other (P × Q)
  so_behind first is second = (λ so. (first.0 is, second.0 so), λ both. second.1 both.1)

  pub not_so : Decides one P → one ≡ false → Decides one (P × Q)
  not_so first is = (λ so. absurd (false≢true (sym is ∙ so)), λ both. first.1 both.0)

-- a test of names in another list that is the same
pub among_same : {A : Type 0} (name_of : A → List ℕ) (result : Bool) (items others : List A) (name other : List ℕ) → items ≡ others → name ≡ other
    → Decides result (IsIn name (map name_of items)) → Decides result (IsIn other (map name_of others))
among_same name_of result items others name other same same' decides =
    subst (λ one. Decides result (IsIn one (map name_of others))) same' (subst (λ list. Decides result (IsIn name (map name_of list))) same decides)
