-- Ranges of ports, by the texts of firewalld's port options and of nft(8): one number, or two joined by `-`.
use Rattle.std.specs.Prelude.{ℕ, ◌==◌, nat_le, Bool, ◌&&◌, if◌then◌else◌, List, [], ◌∷◌, ◌++◌, Option, None, Some, decimal}
use Rattle.fw_text.specs.Number.{number_to}
use Rattle.fw_text.specs.Pieces.{pieces}
use Rattle.fw_text.specs.Steps.{◌>>=◌}

-- from one port to another, both among them
pub record Range : Type 0 where
  pub first : ℕ
  pub last : ℕ

-- a port's number in decimal
abbrev pub port : List ℕ → Option ℕ
port text = number_to 65535 text

-- the range between two ports, where the first isn't above the last
abbrev pub range_to : ℕ → ℕ → Option Range
range_to first last = if nat_le first last then Some (record { first = first; last = last }) else None

-- what one piece, or two, say
abbrev pub range_of : List (List ℕ) → Option Range
range_of [] = None
range_of (one ∷ []) = do
  n ← port one
  range_to n n
range_of (first ∷ second ∷ []) = do
  m ← port first
  n ← port second
  range_to m n
range_of (first ∷ second ∷ third ∷ rest) = None

-- a port, or two joined by `-` (45) of which the first isn't above the last
abbrev pub port_range : List ℕ → Option Range
port_range text = range_of (pieces 45 text)

-- the canonical text: one number where both ends are one
abbrev pub ports_text : Range → List ℕ
ports_text range =
    if range.first == range.last then decimal range.first else decimal range.first ++ 45 ∷ decimal range.last

-- whether a range has a port
abbrev pub in_range : Range → ℕ → Bool
in_range range n = nat_le range.first n && nat_le n range.last
