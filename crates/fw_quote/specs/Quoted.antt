-- Texts in quotes, as scripts and printed rules have them. The escapes are this project's own.
use Rattle.std.specs.Prelude.{ℕ, ◌==◌, ◌/◌, ◌%◌, ◌+◌, nat_lt, ◌||◌, if◌then◌else◌, List, [], ◌∷◌, ◌++◌}
use Rattle.std.specs.List.{flat_map}

-- a digit of base 16, in lower case
abbrev pub hex_digit : ℕ → ℕ
hex_digit n = if nat_lt n 10 then 48 + n else 87 + n

-- a byte inside quotes: `\` before `"` and `\`, and `\x` and two digits for a control byte
abbrev pub quoted_byte : ℕ → List ℕ
quoted_byte byte =
    if byte == 34 || byte == 92 then 92 ∷ byte ∷ []
    else (if nat_lt byte 32 || byte == 127 then 92 ∷ 120 ∷ hex_digit (byte / 16) ∷ hex_digit (byte % 16) ∷ [] else byte ∷ [])

-- a text in quotes
abbrev pub quoted : List ℕ → List ℕ
quoted text = 34 ∷ flat_map quoted_byte text ++ 34 ∷ []
