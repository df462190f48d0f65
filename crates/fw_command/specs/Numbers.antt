-- Numbers and lists of places among the words of the command line (this project's own).
use Rattle.std.specs.Prelude.{ℕ, nat_le, nat_lt, Bool, false, if◌then◌else◌, List, [], ◌∷◌, Option, None, Some}
use Rattle.std.specs.Option.{option_map_or}
use Rattle.fw_text.specs.Number.{number_to}
use Rattle.fw_text.specs.Pieces.{pieces}
use Rattle.fw_text.specs.Steps.{◌>>=◌}

-- whether a text is a decimal number within bounds
abbrev pub is_within : (text : List ℕ) (least most : ℕ) → Bool
is_within text least most = option_map_or (λ number. nat_le least number) (number_to most text) false

-- a number that is above another one
abbrev pub above : ℕ → ℕ → Option ℕ
above before number = if nat_lt before number then Some number else None

-- a place, up to 1,000,000,000, above the one before
unfoldable pub place_after : (before : ℕ) (text : List ℕ) → Option ℕ
place_after before text = number_to 1000000000 text >>= above before

-- places, each above the one before
abbrev pub places_after : (before : ℕ) (texts : List (List ℕ)) → Option (List ℕ)
places_after before [] = Some []
places_after before (text ∷ texts) = do
  place ← place_after before text
  others ← places_after place texts
  Some (place ∷ others)

-- the places of a list, which are joined by commas
abbrev pub places : List ℕ → Option (List ℕ)
places text = places_after 0 (pieces 44 text)

-- the places of a list that may be left out
abbrev pub places_given : Option (List ℕ) → Option (List ℕ)
places_given None = Some []
places_given (Some text) = places text

-- a number that may not be left out
abbrev pub number_given : (most : ℕ) → Option (List ℕ) → Option ℕ
number_given most value = value >>= number_to most
