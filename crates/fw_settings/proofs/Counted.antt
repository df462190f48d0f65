-- The numbers with which the daemon starts.
use Rattle.std.proofs.Common.{◌≡◌, ℕ, zero, suc, ◌+◌, ◌<◌, ◌≤◌, ◌⊎◌, inl, Some, [], ◌∷◌, slice_get, ◌++◌, sym, ap, ◌∙◌, arith}
use Rattle.std.specs.List.{range_with_len}
use Rattle.std.proofs.lemmas.List.FromFn.{length-range_with_len}
use Rattle.std.proofs.lemmas.Option.{same_Some}
use Rattle.fw_settings.specs.Valid.{AreNumbers, last_number}
use Rattle.fw_valid.specs.Each.{Each}

-- the number at a place
at_place : (from count place number : ℕ) → slice_get (range_with_len from count) place ≡ Some number → number ≡ from + place
at_place from zero place number is = cc
at_place from (suc count) zero number is = let same : from ≡ number = same_Some from number is in omega arith
at_place from (suc count) (suc place) number is = let there = at_place (from + 1) count place number is in omega arith

each_below : (from count next : ℕ) → from + count ≤ next → Each (λ number. (number < next) ⊎ ((number ≡ last_number) × (next ≡ last_number))) (range_with_len from count)
each_below from zero next within = tt
each_below from (suc count) next within =
    let here : from < next = omega arith in
    let rest : (from + 1) + count ≤ next = omega arith in
    (inl here, each_below (from + 1) count next rest)

differ : (count one other number : ℕ) → slice_get (range_with_len 0 count) one ≡ Some number → slice_get (range_with_len 0 count) other ≡ Some number → one ≡ other
differ count one other number at_one at_other =
    let first : number ≡ 0 + one = at_place 0 count one number at_one in
    let second : number ≡ 0 + other = at_place 0 count other number at_other in
    omega arith

pub first_are_numbers : (count : ℕ) → AreNumbers count (range_with_len 0 count) count
first_are_numbers count =
    let all : 0 + count ≤ count = omega arith in
    record {
      each = length-range_with_len 0 count;
      below = each_below 0 count count all;
      differ = λ one other number at_one at_other below. differ count one other number at_one at_other;
    }

-- a number more
one_more : (from count : ℕ) → range_with_len from (suc count) ≡ range_with_len from count ++ (from + count) ∷ []
one_more from zero = let here : from ≡ from + 0 = omega arith in ap (λ number. number ∷ []) here
one_more from (suc count) =
    let here : (from + 1) + count ≡ from + suc count = omega arith in
    ap (λ rest. from ∷ rest) (one_more (from + 1) count ∙ ap (λ number. range_with_len (from + 1) count ++ number ∷ []) here)

pub counted_more : (count : ℕ) → range_with_len 0 count ++ count ∷ [] ≡ range_with_len 0 (count + 1)
counted_more count =
    let first : count ≡ 0 + count = omega arith in
    let next : suc count ≡ count + 1 = omega arith in
    ap (λ number. range_with_len 0 count ++ number ∷ []) first ∙ sym (one_more 0 count) ∙ ap (λ number. range_with_len 0 number) next
