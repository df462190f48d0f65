-- The order in which things act that are listed in another.
use Rattle.std.specs.Prelude.{List, [], ◌∷◌, Bool, if◌then◌else◌}
use Rattle.std.specs.Ordering.{int_cmp, is_lt}
use Rattle.fw_model.specs.declared.rich.Rich.{Rich}

-- An item among others that are in order: before the first that doesn't come strictly before it.
abbrev pub placed : {A : Type 0} → (A → A → Bool) → A → List A → List A
placed is_before item [] = item ∷ []
placed is_before item (other ∷ others) =
    if is_before other item then other ∷ placed is_before item others else item ∷ other ∷ others

-- A list in order; those that are alike stay as they are listed.
abbrev pub in_order : {A : Type 0} → (A → A → Bool) → List A → List A
in_order is_before [] = []
in_order is_before (item ∷ items) = placed is_before item (in_order is_before items)

-- Of two rich rules the one of the lower priority comes first (firewalld.richlanguage(5), "priority").
abbrev pub has_lower_priority : Rich → Rich → Bool
has_lower_priority one other = is_lt (int_cmp one.priority other.priority)

-- rich rules by their priorities, and of one priority as they are listed
abbrev pub by_priority : List Rich → List Rich
by_priority rules = in_order has_lower_priority rules
