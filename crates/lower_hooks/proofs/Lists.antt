-- Lists of what is lent, one item after another.
use Rattle.std.proofs.Common.{◌≡◌, ◌∙◌, ◌⊎◌, inl, inr, ℕ, ◌+◌, ◌<◌, List, [], ◌∷◌, ◌++◌, length, map, take, get_or, sym, ap, Bor}
use Rattle.std.proofs.lemmas.List.{flat_map_more, map-append, take_more}
use Rattle.std.specs.List.{flat_map}
use Rattle.fw_order.specs.Borrowed.{lent}
use Rattle.fw_zone.specs.Lists.{IsIn}

pub lent_more : {A : Type 0} (xs : List (Bor A)) (at : ℕ) (x : Bor A) → at < length xs → x ≡ get_or xs at x
    → lent (take (at + 1) xs) ≡ lent (take at xs) ++ x.now ∷ []
lent_more {A = A} xs at x below is =
    let value = λ (one : Bor A). one.now in
    ap (map value) (take_more xs at x below)
    ∙ map-append value (take at xs) (get_or xs at x ∷ [])
    ∙ ap (λ (one : Bor A). map value (take at xs) ++ one.now ∷ []) (sym is)

-- what was added for each item so far, and for one more
pub added_more : {A B : Type 0} (f : A → List B) (xs : List (Bor A)) (at : ℕ) (x : Bor A) (first before behind : List B)
    → at < length xs → x ≡ get_or xs at x
    → before ≡ first ++ flat_map f (lent (take at xs))
    → behind ≡ before ++ f x.now
    → behind ≡ first ++ flat_map f (lent (take (at + 1) xs))
added_more f xs at x first before behind below is so_far this =
    this
    ∙ ap (λ list. list ++ f x.now) so_far
    ∙ flat_map_more f first (lent (take at xs)) x.now
    ∙ ap (λ list. first ++ flat_map f list) (sym (lent_more xs at x below is))

-- what stands in a list and one item more
pub in_either : {A : Type 0} (item last : A) (list : List A) → IsIn item (list ++ last ∷ []) → IsIn item list ⊎ (last ≡ item)
in_either item last [] (inl same) = inr same
in_either item last [] (inr there) = absurd there
in_either item last (first ∷ others) (inl same) = inl (inl same)
in_either item last (first ∷ others) (inr there) = behind (in_either item last others there)
  where
    behind : IsIn item others ⊎ (last ≡ item) → IsIn item (first ∷ others) ⊎ (last ≡ item)
    behind (inl there) = inl (inr there)
    behind (inr same) = inr same
