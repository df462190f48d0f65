-- The identity that a client gives: its user's number in decimal digits, spelled in hexadecimal
-- (D-Bus Specification, "Authentication Protocol", whose example is `31303030` for the user 1000).
use Rattle.std.specs.Prelude.{ℕ, Bool, true, false, ◌&&◌, ◌==◌, nat_eq, nat_le, List, [], ◌∷◌, length, drop}
use Rattle.std.specs.Char.{is_ascii_digit}
use Rattle.std.specs.List.{starts_with}

-- The hexadecimal spelling of decimal digits: for each of them the byte `3` and the digit, since the
-- digits' codes are 30 to 39 in hexadecimal.
abbrev pub spells_digits : List ℕ → Bool
spells_digits [] = true
spells_digits (three ∷ []) = false
spells_digits (three ∷ digit ∷ more) = (three == 51) && (is_ascii_digit digit && spells_digits more)

-- An identity spells 1 to 10 digits.
abbrev pub is_identity : List ℕ → Bool
is_identity text = nat_le 2 (length text) && (nat_le (length text) 20 && spells_digits text)

-- A line that begins with this and goes on with an identity alone.
abbrev pub gives_identity : (beginning line : List ℕ) → Bool
gives_identity beginning line = starts_with nat_eq line beginning && is_identity (drop (length beginning) line)
