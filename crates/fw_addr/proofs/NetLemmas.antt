-- Masks, cleared bits and leading bits of numbers.
use Rattle.std.proofs.Common.{◌≡◌, ℕ, ◌+◌, ◌-◌, ◌*◌, ◌/◌, ◌%◌, ◌^◌, ◌<◌, ◌≤◌, true, eqb, Option, Some, None, sym, ap, ◌∙◌, arith, subst}
use Rattle.std.specs.Int.{bit_at}
use Rattle.std.specs.Option.{SomeIff, unwrap_or}
use Rattle.std.proofs.lemmas.Bool.{eq-eqb, eqb-true}
use Rattle.std.proofs.lemmas.Bool.Decides.{Decides-eqb, same_from_decides}
use Rattle.std.proofs.lemmas.Nat.{shr-shr, shr_split, shr_below, shl-shr}
use Rattle.std.proofs.lemmas.Nat.Bits.{ones_shl, same_from_bits_below}
use Rattle.std.proofs.Math.Nat.{mul-mod_left}
use Rattle.fw_addr.specs.Subnets.{cleared, leading, SharesBits}

-- `MAX << low`, or 0 where all bits are shifted out
pub mask_is : (w low : ℕ) (shifted : Option ℕ) → low ≤ w → SomeIff shifted (low < w) (((2 ^ w - 1) * 2 ^ low) % 2 ^ w) → unwrap_or shifted 0 ≡ 2 ^ w - 2 ^ low
mask_is w low (Some mask) within is = is.1 ∙ ones_shl w low within
mask_is w low None within is =
    let same : low ≡ w = omega (arith, is) in
    let whole : 2 ^ low ≡ 2 ^ w = ap (λ k. 2 ^ k) same in
    omega (arith, whole)

pub cleared_low : (n low : ℕ) → cleared n low % 2 ^ low ≡ 0
cleared_low n low = mul-mod_left (n / 2 ^ low) (2 ^ low)

-- a number whose lowest bits are 0 is what clearing them leaves
pub cleared_self : (n low : ℕ) → n % 2 ^ low ≡ 0 → cleared n low ≡ n
cleared_self n low zero = omega (arith, shr_split n low)

-- cleared numbers are equal where the bits before are
pub cleared_tells : (n first low : ℕ) → first % 2 ^ low ≡ 0 → eqb (cleared n low) first ≡ eqb (first / 2 ^ low) (n / 2 ^ low)
cleared_tells n first low zero =
    same_from_decides (eqb (cleared n low) first) (eqb (first / 2 ^ low) (n / 2 ^ low)) (
      λ is. sym (sym (shl-shr (n / 2 ^ low) low) ∙ ap (λ m. m / 2 ^ low) (eqb-true _ _ is)),
      λ same. eq-eqb _ _ (sym (ap (λ m. m * 2 ^ low) same) ∙ cleared_self first low zero),
    ) (Decides-eqb (first / 2 ^ low) (n / 2 ^ low))

-- equal leading bits, as a number and one by one
pub leading_tells : (w count m n : ℕ) → count ≤ w → m < 2 ^ w → n < 2 ^ w → (eqb (leading w count m) (leading w count n) ≡ true → SharesBits w count m n) × (SharesBits w count m n → eqb (leading w count m) (leading w count n) ≡ true)
leading_tells w count m n within small_m small_n = (
  λ is k below.
      let same : leading w count m ≡ leading w count n = eqb-true _ _ is in
      let place : (w - count) + (count - 1 - k) ≡ w - 1 - k = omega arith in
      let bit = λ (x : ℕ). ap (λ y. y % 2) (shr-shr x (w - count) (count - 1 - k)) ∙ ap (λ i. x / 2 ^ i % 2) place in
      sym (bit m) ∙ ap (λ x. bit_at x (count - 1 - k)) same ∙ bit n,
  λ shares. eq-eqb _ _ (same_from_bits_below count (leading w count m) (leading w count n) (fits m small_m) (fits n small_n) (λ i below.
      let place : (w - count) + i ≡ w - 1 - (count - 1 - i) = omega arith in
      let bit = λ (x : ℕ). ap (λ y. y % 2) (shr-shr x (w - count) i) ∙ ap (λ j. x / 2 ^ j % 2) place in
      bit m ∙ shares (count - 1 - i) (omega arith) ∙ sym (bit n))),
)
  where
    fits : (x : ℕ) → x < 2 ^ w → leading w count x < 2 ^ count
    fits x small = shr_below x count (w - count) (subst (λ k. x < 2 ^ k) (let whole : w ≡ count + (w - count) = omega arith in whole) small)
