-- What a refusal of a rule's part names.
use Rattle.std.specs.Prelude.{ℕ, Bool, true, if◌then◌else◌, List, [], ◌∷◌, drop, Option, None, Some}
use Rattle.std.specs.Fmt.{is_char_start}
use Rattle.fw_rich.specs.Tokens.{value_front}

-- whether a character begins at the front of this, or nothing is left
abbrev pub at_character : List ℕ → Bool
at_character [] = true
at_character (byte ∷ text) = is_char_start byte

-- a value without its quotes
abbrev pub plain_value : Option (List ℕ × List ℕ) → List ℕ
plain_value None = []
plain_value (Some (value, text)) = value

-- the value that begins at this byte of a text, without its quotes; nothing where no character begins there
abbrev pub refused_value : (text : List ℕ) → (place : ℕ) → List ℕ
refused_value text place = if at_character (drop place text) then plain_value (value_front (drop place text)) else []
