-- Hexadecimal digits, one on.
use Rattle.std.proofs.Common.{◌≡◌, ℕ, ◌+◌, ◌*◌, ◌<◌, List, ◌∷◌, refl}
use Rattle.std.proofs.lemmas.Bool.{lt-ltb}
use Rattle.std.specs.Char.{digit_value}
use Rattle.fw_addr.specs.Hexadecimal.{hex_to}

-- one digit on
pub hex_to_more : (before byte digit : ℕ) (text : List ℕ) → digit_value byte < 16 → digit ≡ digit_value byte → hex_to (before * 16 + digit) text ≡ hex_to before (byte ∷ text)
hex_to_more before byte digit text is_digit is = rw (is, lt-ltb (digit_value byte) 16 is_digit) refl
