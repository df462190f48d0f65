-- Sums of sizes that are cut off.
use Rattle.std.proofs.Common.{◌≡◌, ℕ, ◌+◌, ◌-◌, ◌^◌, ◌<◌, List, length, take, get_or, arith, min}
use Rattle.std.specs.List.{sum_by}
use Rattle.std.proofs.lemmas.List.Sums.{sum_by_more}
use Rattle.fw_calls.specs.Weight.{capped}

pub capped_sum : (a b : ℕ) → capped (capped a + capped b) ≡ capped (a + b)
capped_sum a b = omega arith

pub capped_behind : (a b : ℕ) → capped (a + capped b) ≡ capped (a + b)
capped_behind a b = omega arith

pub capped_more : {A : Type 0} (f : A → ℕ) (items : List A) (place : ℕ) (item : A) → place < length items
    → capped (capped (sum_by f (take place items)) + capped (f (get_or items place item))) ≡ capped (sum_by f (take (place + 1) items))
capped_more f items place item within =
    let more = sum_by_more f items place item within in
    rw more (capped_sum (sum_by f (take place items)) (f (get_or items place item)))
