-- Lists of changes, one behind another.
use Rattle.std.proofs.Common.{◌≡◌, ◌∙◌, ℕ, ◌+◌, ◌<◌, ◌≤◌, List, [], ◌∷◌, ◌++◌, length, drop, get_or, Bool, true, false, sym, refl, ap, Bor}
use Rattle.std.specs.Prelude.{if◌then◌else◌}
use Rattle.std.specs.List.{flat_map}
use Rattle.std.proofs.lemmas.List.{at_drop_all, at_drop_more}
use Rattle.fw_order.specs.Borrowed.{lent}
use Rattle.fw_verdict.specs.Changes.{ChangeItem, Passing, Reached, and_on, going_on, reached_by, through}

joined : (items other : List ChangeItem) (over : Bool) (next : Passing)
    → ((now : Passing) → through (items ++ other) now ≡ and_on (through items now) (through other))
    → and_on (record { now = next; over = over }) (through (items ++ other)) ≡ and_on (and_on (record { now = next; over = over }) (through items)) (through other)
joined items other true next behind = refl
joined items other false next behind = behind next

-- two lists, one behind the other
pub through_append : (one other : List ChangeItem) (now : Passing) → through (one ++ other) now ≡ and_on (through one now) (through other)
through_append [] other now = refl
through_append (item ∷ items) other now = joined items other (reached_by item now).over (reached_by item now).now (through_append items other)

ends_at : (reached : Reached) (others : Passing → Reached) → reached.over ≡ true → and_on reached others ≡ reached
ends_at reached others over = ap (λ (is : Bool). if is then reached else others reached.now) over

goes_at : (reached : Reached) (others : Passing → Reached) → reached.over ≡ false → and_on reached others ≡ others reached.now
goes_at reached others over = ap (λ (is : Bool). if is then reached else others reached.now) over

-- what ends the walk
pub ends_there : (one other : List ChangeItem) (now : Passing) (reached : Reached)
    → reached.over ≡ true
    → through one now ≡ reached
    → through (one ++ other) now ≡ reached
ends_there one other now reached over is =
    through_append one other now ∙ ap (λ (at : Reached). and_on at (through other)) is ∙ ends_at reached (through other) over

-- what goes on
pub goes_there : (one other : List ChangeItem) (now : Passing) (reached : Reached)
    → reached.over ≡ false
    → through one now ≡ reached
    → through (one ++ other) now ≡ through other reached.now
goes_there one other now reached over is =
    through_append one other now ∙ ap (λ (at : Reached). and_on at (through other)) is ∙ goes_at reached (through other) over

-- what some give, one after another
module _ {A : Type 0} (of : A → List ChangeItem) where
  abbrev pub each : List (Bor A) → Passing → Reached
  each givers now = through (flat_map of (lent givers)) now

  from_here : (givers : List (Bor A)) (at : ℕ) (giver : Bor A) (now : Passing) → at < length givers → giver ≡ get_or givers at giver
      → each (drop at givers) now ≡ each (giver ∷ drop (at + 1) givers) now
  from_here givers at giver now below is =
      at_drop_more (λ some. each some now) givers at giver below ∙ ap (λ (one : Bor A). each (one ∷ drop (at + 1) givers) now) (sym is)

  pub ends_here : (givers : List (Bor A)) (at : ℕ) (giver : Bor A) (now : Passing) (reached : Reached)
      → at < length givers → giver ≡ get_or givers at giver
      → reached.over ≡ true
      → through (of giver.now) now ≡ reached
      → each (drop at givers) now ≡ reached
  ends_here givers at giver now reached below is over done =
      from_here givers at giver now below is ∙ ends_there (of giver.now) (flat_map of (lent (drop (at + 1) givers))) now reached over done

  pub goes_here : (givers : List (Bor A)) (at : ℕ) (giver : Bor A) (now : Passing) (reached : Reached)
      → at < length givers → giver ≡ get_or givers at giver
      → reached.over ≡ false
      → through (of giver.now) now ≡ reached
      → each (drop at givers) now ≡ each (drop (at + 1) givers) reached.now
  goes_here givers at giver now reached below is over done =
      from_here givers at giver now below is ∙ goes_there (of giver.now) (flat_map of (lent (drop (at + 1) givers))) now reached over done

  pub none_left : (givers : List (Bor A)) (at : ℕ) (now : Passing) → length givers ≤ at → each (drop at givers) now ≡ going_on now
  none_left givers at now over = at_drop_all (λ some. each some now) givers at over
