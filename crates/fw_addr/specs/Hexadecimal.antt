-- Hexadecimal digits.
use Rattle.std.specs.Prelude.{ℕ, ◌/◌, ◌%◌, Bool, false, if◌then◌else◌, List, [], ◌∷◌, Option, None, Some}
use Rattle.std.specs.Char.{is_digit}
use Rattle.std.specs.List.{list_all}
use Rattle.std.specs.Str.Parse.{digits_value_after}
use Rattle.std.specs.Fmt.{digit_glyph}

-- a hexadecimal digit of either case
abbrev pub is_hex : ℕ → Bool
is_hex byte = is_digit byte 16

-- an octet in two digits, in lower case
abbrev pub hex_byte : ℕ → List ℕ
hex_byte n = digit_glyph false (n / 16) ∷ digit_glyph false (n % 16) ∷ []

-- the number that digits spell behind those of `before`, where all are digits
abbrev pub hex_to : ℕ → List ℕ → Option ℕ
hex_to before text = if list_all is_hex text then Some (digits_value_after 16 before text) else None
