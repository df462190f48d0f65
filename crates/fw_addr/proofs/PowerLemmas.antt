-- Numbers that grow by a digit.
use Rattle.std.proofs.Common.{◌≡◌, ℕ, ◌+◌, ◌*◌, ◌^◌, ◌<◌, ◌≤◌, arith, add-one}
use Rattle.std.proofs.Math.Nat.{pow-suc, pow-le-pow_right, mul-le-mul_right}

-- one digit more, and room for it where there are to be at most `count` digits
pub digit_fits : (base count i n digit : ℕ) → 0 < base → i < count → n < base ^ i → digit < base → (n * base + digit < base ^ (i + 1)) × (n * base + digit < base ^ count)
digit_fits base count i n digit some below small is_digit =
    let room : (n + 1) * base ≤ base ^ i * base = mul-le-mul_right base (omega arith) in
    let power : base ^ (i + 1) ≡ base ^ i * base = rw add-one (pow-suc base i) in
    let most : base ^ (i + 1) ≤ base ^ count = pow-le-pow_right some (omega arith) in
    (omega (arith, room, power), omega (arith, room, power, most))
