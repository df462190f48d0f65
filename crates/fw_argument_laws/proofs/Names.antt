-- Names among those of some items, and lists of names of which each is kept once.
use Rattle.std.proofs.Common.{◌≡◌, ◌∙◌, ℕ, Bool, false, List, [], ◌∷◌, map, sym}
use Rattle.std.specs.Bool.{Decides}
use Rattle.std.specs.List.{list_any}
use Rattle.std.specs.Str.{bytes_eq}
use Rattle.std.proofs.lemmas.Bool.Decides.{Decides-or}
use Rattle.std.proofs.lemmas.Slice.Eq.{bytes_eq-Decides}
use Rattle.fw_answer.proofs.Items.{IsEquality, is_in_decides}
use Rattle.fw_answer.specs.Lists.{is_in}
use Rattle.fw_zone.specs.Lists.{IsIn}

nothing_in : {A : Type 0} (name_of : A → List ℕ) (name : List ℕ) → Decides false (IsIn name (map name_of []))
nothing_in name_of name = (λ is. cc, λ found. absurd found)

-- some item has a name exactly where the name is among those of the items
pub name_among : {A : Type 0} (name_of : A → List ℕ) (items : List A) (name : List ℕ) → Decides (list_any (λ item. bytes_eq (name_of item) name) items) (IsIn name (map name_of items))
name_among name_of [] name = nothing_in name_of name
name_among name_of (item ∷ items) name = Decides-or _ _ (bytes_eq-Decides (name_of item) name) (name_among name_of items name)

-- a test of a list that fails
pub absent : {A : Type 0} (same : A → A → Bool) → IsEquality same → (item : A) (items : List A) → is_in same item items ≡ false → ¬ (IsIn item items)
absent same equal item items none there = let impossible = sym none ∙ (is_in_decides same equal item items).1 there in cc
