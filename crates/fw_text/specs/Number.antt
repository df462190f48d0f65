-- Decimal numbers without a sign and without a leading zero.
use Rattle.std.specs.Prelude.{ℕ, ◌==◌, nat_le, Bool, false, not, ◌&&◌, if◌then◌else◌, List, [], ◌∷◌, Option, None, Some}
use Rattle.std.specs.Char.{is_ascii_digit}
use Rattle.std.specs.Str.{all_ascii_digits}
use Rattle.std.specs.Str.Parse.{digits_value, digits_value_after}
use Rattle.fw_text.specs.Steps.{◌>>=◌}

-- whether a text is one digit, or digits of which the first isn't `0`
abbrev pub is_decimal : List ℕ → Bool
is_decimal [] = false
is_decimal (first ∷ []) = is_ascii_digit first
is_decimal (first ∷ second ∷ text) = not (first == 48) && all_ascii_digits (first ∷ second ∷ text)

-- the number that such a text spells
abbrev pub number : List ℕ → Option ℕ
number text = if is_decimal text then Some (digits_value 10 text) else None

-- a number that is at most a bound
abbrev pub at_most : ℕ → ℕ → Option ℕ
at_most most n = if nat_le n most then Some n else None

-- the number that a text spells, where it is at most a bound
abbrev pub number_to : ℕ → List ℕ → Option ℕ
number_to most text = number text >>= at_most most

-- the number that digits spell behind the digits of `before`, leading zeros allowed, where it is at most a bound
abbrev pub digits_to : ℕ → ℕ → List ℕ → Option ℕ
digits_to most before text =
    if all_ascii_digits text then at_most most (digits_value_after 10 before text) else None
