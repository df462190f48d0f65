-- A zone that is inserted at the first place behind it.
use Rattle.std.proofs.Common.{◌≡◌, ℕ, zero, suc, ◌≤◌, ◌<◌, ◌+◌, ◌⊎◌, inl, inr, true, false, List, [], ◌∷◌, ◌++◌, length, take, drop, insert, fold, refl, ap, arith}
use Rattle.fw_told.specs.declared.told.Active.{Active}
use Rattle.fw_zone_calls.specs.Active.{inserted, is_behind}

pub inserted_at : (zone : Active) (zones : List Active) (place : ℕ) → place ≤ length zones → ((before : ℕ) → before < place → is_behind zones before zone.name ≡ false) → (place ≡ length zones) ⊎ (is_behind zones place zone.name ≡ true) → inserted zone zones ≡ insert zones place zone
inserted_at zone [] zero within behind at = refl
inserted_at zone [] (suc place) within behind at = absurd (omega arith)
inserted_at zone (first ∷ others) zero within behind (inl at) = absurd (omega arith)
inserted_at zone (first ∷ others) zero within behind (inr at) = rw at
inserted_at zone (first ∷ others) (suc place) within behind (inl at) =
    let first_stays = behind 0 (omega arith) in
    let bound : place ≤ length others = omega arith in
    let ends : place ≡ length others = omega arith in
    rw first_stays (ap (λ (rest : List Active). first ∷ rest) (inserted_at zone others place bound (λ before below. behind (suc before) (omega arith)) (inl ends)))
inserted_at zone (first ∷ others) (suc place) within behind (inr at) =
    let first_stays = behind 0 (omega arith) in
    let bound : place ≤ length others = omega arith in
    rw first_stays (ap (λ (rest : List Active). first ∷ rest) (inserted_at zone others place bound (λ before below. behind (suc before) (omega arith)) (inr at)))
