-- How the walk over includes goes: it marks the places of services, and those whose includes it has yet to follow wait.
use Rattle.std.specs.Prelude.{◌≡◌, ◌↔◌, ◌⊎◌, ℕ, ◌+◌, ◌≤◌, ◌<◌, suc, Bool, true, false, List, [], ◌∷◌, length, Some, slice_get}
use Rattle.std.specs.List.Sorted.{IsStrictlyIncreasing}
use Rattle.fw_model.specs.declared.service.Service.{Service}
use Rattle.fw_zone.specs.Lists.{IsIn}

abbrev pub IsMarked : List Bool → ℕ → Type 0
IsMarked marks place = slice_get marks place ≡ Some true

-- the service at a place has one of the names
pub record IsNamed (services : List Service) (names : List (List ℕ)) (place : ℕ) : Type 0 where
  pub service : Service
  pub at : slice_get services place ≡ Some service
  pub named : IsIn service.name names

-- how many are not marked
abbrev pub unmarked : List Bool → ℕ
unmarked [] = 0
unmarked (true ∷ marks) = unmarked marks
unmarked (false ∷ marks) = suc (unmarked marks)

-- Of the first services those of the names were marked, and what was marked here waits. The work that is left doesn't grow.
pub record HasMarked (services : List Service) (names : List (List ℕ)) (upto : ℕ) (old new : List Bool) (was now : List ℕ) : Type 0 where
  pub keeps : (place : ℕ) → IsMarked old place → IsMarked new place
  pub marks : (place : ℕ) → place < upto → IsNamed services names place → IsMarked new place
  pub only : (place : ℕ) → IsMarked new place → IsMarked old place ⊎ (IsNamed services names place × IsIn place now)
  pub waits : (place : ℕ) → IsIn place now → IsIn place was ⊎ IsMarked new place
  pub stays : (place : ℕ) → IsIn place was → IsIn place now
  pub work : unmarked new + length now ≤ unmarked old + length was

-- the places of all marks, in their order
pub record ArePlaces (marks : List Bool) (places : List ℕ) : Type 0 where
  pub exactly : (place : ℕ) → IsIn place places ↔ IsMarked marks place
  pub ascending : IsStrictlyIncreasing places
