-- How a pass lies over a seat of the table.
use Rattle.std.specs.Prelude.{◌≡◌, ℕ, [], ◌∷◌, true, false, Option, None}
use Rattle.atomic_table.specs.Table.{Me}
use Rattle.turn_core.specs.Passes.{IsSound}
use Rattle.turn_core.specs.declared.view.View.{View}

-- the seat has the slot, empty, while it holds the turn, and else no slot
pub record IsSeated {S B E : Type 0} (session : E → ℕ) (m : Me (Option S) (View B E)) : Type 0 where
  pub sound : IsSound session m.0.knows
  pub full : m.0.vacant ≡ false
  pub holding : m.0.knows.holds ≡ true → m.1 ≡ (0, None) ∷ []
  pub free : m.0.knows.holds ≡ false → m.1 ≡ []
