-- What a pass is known to be after a join, a split and a commit.
use Rattle.std.proofs.Common.{⊎_elim, ◌≡◌, ℕ, ◌⊎◌, List, [], ◌∷◌, ◌++◌, sym, refl, subst}
use Rattle.turn_core.specs.Places.{IsFront, Has, Ascending, merged, longer, shorter}
use Rattle.turn_core.specs.Passes.{HasJoined}
use Rattle.turn_core.specs.declared.view.Knowledge.{Knowledge}
use Rattle.turn_core.specs.Knowledge.{looked, joined}
use Rattle.turn_core.proofs.Places.{has_snoc, snoc_old, snoc_new, begins_left, begins_right, apart_merged, has_merged, merged_left, merged_right}

module _ {B E : Type 0} where
  -- what a join tells, from what a look after it tells
  pub joins_tell : (k other : Knowledge B E) (word : ℕ) → IsFront (shorter k.seen other.seen) (longer k.seen other.seen) → Ascending (merged k.mine other.mine) → HasJoined k other (looked (joined k other) word)
  joins_tell k other word front ascending = record {
    now = (word, refl);
    front = begins_left k.seen other.seen front;
    other_front = begins_right k.seen other.seen front;
    apart = apart_merged k.mine other.mine ascending;
    places = λ place. (has_merged k.mine other.mine place, λ h. ⊎_elim (merged_left k.mine other.mine place) (merged_right k.mine other.mine place) h);
  }

-- the places of a pass that commits
pub gains : (mine : List ℕ) (n place : ℕ) → (Has (mine ++ n ∷ []) place → Has mine place ⊎ (place ≡ n)) × ((Has mine place ⊎ (place ≡ n)) → Has (mine ++ n ∷ []) place)
gains mine n place = (has_snoc mine n place, λ h. ⊎_elim (snoc_old mine n place) (λ e. subst (λ p. Has (mine ++ n ∷ []) p) (sym e) (snoc_new mine n)) h)
