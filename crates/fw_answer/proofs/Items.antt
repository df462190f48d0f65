-- Lists as tests see them and as relations do.
use Rattle.std.proofs.Common.{◌≡◌, ℕ, ◌⊎◌, inl, inr, Bool, true, false, List, [], ◌∷◌, ◌++◌, refl, sym, ap, ◌∙◌}
use Rattle.std.specs.Bool.{Decides}
use Rattle.std.proofs.lemmas.Bool.{false_from_ne_true}
use Rattle.std.proofs.lemmas.Bool.Decides.{Decides-or}
use Rattle.fw_zone.specs.Lists.{IsIn, IsRemoved}
use Rattle.fw_answer.specs.Lists.{is_in, without}

-- a test that says of two values whether they are one
pub record IsEquality {A : Type 0} (same : A → A → Bool) : Type 0 where
  pub decides : (one other : A) → Decides (same one other) (one ≡ other)

nothing_in : {A : Type 0} (item : A) → Decides false (IsIn item [])
nothing_in item = (λ (is : false ≡ true). cc, λ (found : IsIn item []). absurd found)

pub is_in_decides : {A : Type 0} (same : A → A → Bool) → IsEquality same → (item : A) (items : List A) → Decides (is_in same item items) (IsIn item items)
is_in_decides same equality item [] = nothing_in item
is_in_decides same equality item (first ∷ others) =
    Decides-or (same first item) (is_in same item others) (equality.decides first item) (is_in_decides same equality item others)

-- the item before which it isn't
without_between : {A : Type 0} (same : A → A → Bool) → IsEquality same → (item : A) (before behind : List A) → ¬ (IsIn item before) → without same item (before ++ item ∷ behind) ≡ before ++ behind
without_between same equality item [] behind absent =
    let is_same : same item item ≡ true = (equality.decides item item).1 refl in rw is_same
without_between same equality item (first ∷ before) behind absent =
    let differs : same first item ≡ false = false_from_ne_true (same first item) (λ is. absent (inl ((equality.decides first item).0 is))) in
    rw differs (ap (λ rest. first ∷ rest) (without_between same equality item before behind (λ found. absent (inr found))))

pub removed_is_without : {A : Type 0} (same : A → A → Bool) → IsEquality same → (item : A) (old new : List A) → IsRemoved item old new → new ≡ without same item old
removed_is_without same equality item old new gone =
    gone.is ∙ sym (without_between same equality item gone.before gone.behind gone.first) ∙ sym (ap (λ items. without same item items) gone.was)
