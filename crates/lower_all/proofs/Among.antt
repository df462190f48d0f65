-- What stands in lists.
use Rattle.std.proofs.Common.{◌≡◌, ◌∙◌, inl, inr, Bool, true, false, ◌&&◌, List, [], ◌∷◌, ◌++◌, map, filter, refl, sym, ap, subst}
use Rattle.std.specs.List.{flat_map, list_all}
use Rattle.std.specs.Prelude.{if◌then◌else◌}
use Rattle.fw_zone.specs.Lists.{IsIn}

pub both : (one other : Bool) → one ≡ true → other ≡ true → (one && other) ≡ true
both one other first second = rw (first, second) refl

pub left : (one other : Bool) → (one && other) ≡ true → one ≡ true
left true other is = refl
left false other is = cc

pub right : (one other : Bool) → (one && other) ≡ true → other ≡ true
right true other is = is
right false other is = cc

-- what holds of the items of two lists holds of those of both
pub in_both : {A : Type 0} (P : A → Type 0) (one other : List A)
    → ((item : A) → IsIn item one → P item) → ((item : A) → IsIn item other → P item)
    → (item : A) → IsIn item (one ++ other) → P item
in_both P [] other first second item there = second item there
in_both P (x ∷ one) other first second item (inl same) = first item (inl same)
in_both P (x ∷ one) other first second item (inr there) = in_both P one other (λ it is. first it (inr is)) second item there

-- an item that is tested for is in what is left
pub in_filter : {A : Type 0} (asked : A → Bool) (item : A) (items : List A) → asked item ≡ true → IsIn item items → IsIn item (filter asked items)
in_filter asked item [] holds there = absurd there
in_filter {A = A} asked item (first ∷ others) holds (inl same) =
    subst (λ (hit : Bool). IsIn item (if hit then first ∷ filter asked others else filter asked others)) (sym (ap asked same ∙ holds)) (inl same)
in_filter {A = A} asked item (first ∷ others) holds (inr there) = either (asked first) (in_filter asked item others holds there)
  where
    either : (hit : Bool) → IsIn item (filter asked others) → IsIn item (if hit then first ∷ filter asked others else filter asked others)
    either true is = inr is
    either false is = is

-- what is left was in the list, and was tested for
pub of_filter : {A : Type 0} (P : A → Type 0) (asked : A → Bool) (items : List A)
    → ((item : A) → IsIn item items → asked item ≡ true → P item)
    → (item : A) → IsIn item (filter asked items) → P item
of_filter P asked [] holds item there = absurd there
of_filter {A = A} P asked (first ∷ others) holds item there =
    either (asked first) refl there (of_filter P asked others (λ it among. holds it (inr among)) item)
  where
    either : (hit : Bool) → asked first ≡ hit → IsIn item (if hit then first ∷ filter asked others else filter asked others)
        → (IsIn item (filter asked others) → P item) → P item
    either true is (inl same) rest = holds item (inl same) (sym (ap asked same) ∙ is)
    either true is (inr there) rest = rest there
    either false is there rest = rest there

pub all_of_each : {A : Type 0} (asked : A → Bool) (items : List A) → ((item : A) → IsIn item items → asked item ≡ true) → list_all asked items ≡ true
all_of_each asked [] each = refl
all_of_each asked (first ∷ others) each =
    both (asked first) (list_all asked others) (each first (inl refl)) (all_of_each asked others (λ item there. each item (inr there)))

pub each_of_all : {A : Type 0} (asked : A → Bool) (items : List A) → list_all asked items ≡ true → (item : A) → IsIn item items → asked item ≡ true
each_of_all asked [] all item there = absurd there
each_of_all asked (first ∷ others) all item (inl same) = sym (ap asked same) ∙ left (asked first) (list_all asked others) all
each_of_all asked (first ∷ others) all item (inr there) = each_of_all asked others (right (asked first) (list_all asked others) all) item there

pub of_map : {A B : Type 0} (P : B → Type 0) (f : A → B) (items : List A) → ((item : A) → IsIn item items → P (f item))
    → (made : B) → IsIn made (map f items) → P made
of_map P f [] each made there = absurd there
of_map P f (first ∷ others) each made (inl same) = subst P same (each first (inl refl))
of_map P f (first ∷ others) each made (inr there) = of_map P f others (λ item is. each item (inr is)) made there

pub of_flat_map : {A B : Type 0} (P : B → Type 0) (f : A → List B) (items : List A)
    → ((item : A) → IsIn item items → (made : B) → IsIn made (f item) → P made)
    → (made : B) → IsIn made (flat_map f items) → P made
of_flat_map P f [] each made there = absurd there
of_flat_map P f (first ∷ others) each made there =
    in_both P (f first) (flat_map f others) (each first (inl refl)) (of_flat_map P f others (λ item is. each item (inr is))) made there
