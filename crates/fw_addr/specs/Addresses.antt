-- The texts of IP addresses: RFC 4291, section 2.2, and for IPv4 the dotted decimal form that it names.
use Rattle.std.specs.Prelude.{ℕ, ◌+◌, ◌-◌, ◌*◌, ◌/◌, ◌%◌, ◌==◌, nat_lt, nat_le, Bool, true, false, not, ◌&&◌, if◌then◌else◌, List, [], ◌∷◌, ◌++◌, length, replicate, Option, None, Some}
use Rattle.std.specs.Int.Digits.{number_from_digits}
use Rattle.std.specs.List.{list_all}
use Rattle.std.specs.Option.{option_map, option_or}
use Rattle.std.specs.Str.Parse.{digits_value}
use Rattle.fw_text.specs.Number.{number_to}
use Rattle.fw_text.specs.Pieces.{pieces}
use Rattle.fw_text.specs.Steps.{◌>>=◌}
use Rattle.fw_addr.specs.Hexadecimal.{is_hex}
use Rattle.fw_addr.specs.declared.addr.Addr.{Addr}
use Rattle.fw_addr.specs.declared.addr.Addr.TheVariants.{V4, V6}

-- four decimal numbers up to 255, the first the most significant
abbrev pub octets : List (List ℕ) → Option ℕ
octets [] = None
octets (a ∷ []) = None
octets (a ∷ b ∷ []) = None
octets (a ∷ b ∷ c ∷ []) = None
octets (a ∷ b ∷ c ∷ d ∷ []) = do
  first ← number_to 255 a
  second ← number_to 255 b
  third ← number_to 255 c
  fourth ← number_to 255 d
  Some (((first * 256 + second) * 256 + third) * 256 + fourth)
octets (a ∷ b ∷ c ∷ d ∷ e ∷ rest) = None

-- such numbers joined by `.` (46)
abbrev pub ipv4 : List ℕ → Option ℕ
ipv4 text = octets (pieces 46 text)

-- a group of 16 bits: one to four hexadecimal digits
abbrev pub group : List ℕ → Option ℕ
group text =
    if not (length text == 0) && nat_le (length text) 4 && list_all is_hex text then Some (digits_value 16 text) else None

-- a last piece may be one group
abbrev pub one_group : List ℕ → Option (List ℕ)
one_group text = option_map (λ value. value ∷ []) (group text)

-- or an IPv4 text, which is two groups
abbrev pub two_groups : List ℕ → Option (List ℕ)
two_groups text = option_map (λ value. value / 65536 ∷ value % 65536 ∷ []) (ipv4 text)

-- the groups of a last piece, where it may be an IPv4 text
abbrev pub last_groups : Bool → List ℕ → Option (List ℕ)
last_groups false text = one_group text
last_groups true text = option_or (one_group text) (two_groups text)

-- the groups of pieces, with what the last may be
abbrev pub groups : (List ℕ → Option (List ℕ)) → List (List ℕ) → Option (List ℕ)
groups last [] = Some []
groups last (piece ∷ []) = last piece
groups last (piece ∷ next ∷ rest) = do
  first ← group piece
  others ← groups last (next ∷ rest)
  Some (first ∷ others)

-- the groups of a text joined by `:` (58); the empty text has none
abbrev pub side : (List ℕ → Option (List ℕ)) → List ℕ → Option (List ℕ)
side last [] = Some []
side last (byte ∷ text) = groups last (pieces 58 (byte ∷ text))

-- what stands before and behind the first `::`
abbrev pub around_gap : List ℕ → Option (List ℕ × List ℕ)
around_gap [] = None
around_gap (byte ∷ []) = None
around_gap (byte ∷ next ∷ text) =
    if byte == 58 && next == 58 then Some ([], text)
    else option_map (λ sides. (byte ∷ sides.0, sides.1)) (around_gap (next ∷ text))

-- eight groups
abbrev pub eight : List ℕ → Option (List ℕ)
eight values = if length values == 8 then Some values else None

-- eight groups, of which a gap stands for at least one, all zero
abbrev pub filled : List ℕ → List ℕ → Option (List ℕ)
filled before behind =
    if nat_lt (length before + length behind) 8
    then Some (before ++ replicate (8 - (length before + length behind)) 0 ++ behind)
    else None

-- the groups of a text, without a gap or around one
abbrev pub groups_around : List ℕ → Option (List ℕ × List ℕ) → Option (List ℕ)
groups_around text None = side (last_groups true) text >>= eight
groups_around text (Some sides) = do
  before ← side (last_groups false) sides.0
  behind ← side (last_groups true) sides.1
  filled before behind

-- the eight groups that a text spells
abbrev pub ipv6_groups : List ℕ → Option (List ℕ)
ipv6_groups text = groups_around text (around_gap text)

-- as a number, the first the most significant
abbrev pub ipv6 : List ℕ → Option ℕ
ipv6 text = option_map (number_from_digits 65536) (ipv6_groups text)

-- an address is an IPv4 text, or else an IPv6 text
abbrev pub address : List ℕ → Option Addr
address text = option_or (option_map V4 (ipv4 text)) (option_map V6 (ipv6 text))
