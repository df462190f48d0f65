-- Hexadecimal digits, one on.
use Rattle.std.proofs.Common.{◌≡◌, ℕ, ◌+◌, ◌*◌, ◌^◌, ◌<◌, ◌≤◌, List, ◌∷◌, refl, arith, add-one}
use Rattle.std.proofs.Math.Nat.{pow-suc, pow-le-pow_right, mul-le-mul_right}
use Rattle.std.proofs.lemmas.Bool.{lt-ltb}
use Rattle.std.specs.Char.{digit_value}
use Rattle.fw_rich.specs.Numbers.{hex_to}

-- one digit on
pub hex_to_more : (before byte digit : ℕ) (text : List ℕ) → digit_value byte < 16 → digit ≡ digit_value byte → hex_to (before * 16 + digit) text ≡ hex_to before (byte ∷ text)
hex_to_more before byte digit text is_digit is = rw (is, lt-ltb (digit_value byte) 16 is_digit) refl

pub digit_fits : (base count i n digit : ℕ) → 0 < base → i < count → n < base ^ i → digit < base → (n * base + digit < base ^ (i + 1)) × (n * base + digit < base ^ count)
digit_fits base count i n digit some below small is_digit =
    let room : (n + 1) * base ≤ base ^ i * base = mul-le-mul_right base (omega arith) in
    let power : base ^ (i + 1) ≡ base ^ i * base = rw add-one (pow-suc base i) in
    let most : base ^ (i + 1) ≤ base ^ count = pow-le-pow_right some (omega arith) in
    (omega (arith, room, power), omega (arith, room, power, most))
