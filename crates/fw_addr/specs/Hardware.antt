-- The texts of hardware addresses: six octets in hexadecimal joined by `:`, as in firewalld.zone(5) and nft(8).
use Rattle.std.specs.Prelude.{ℕ, ◌+◌, ◌*◌, ◌/◌, ◌%◌, ◌^◌, ◌==◌, ◌&&◌, if◌then◌else◌, List, [], ◌∷◌, length, Option, None, Some}
use Rattle.std.specs.List.{list_all, join_with_byte}
use Rattle.std.specs.Str.Parse.{digits_value}
use Rattle.fw_text.specs.Pieces.{pieces}
use Rattle.fw_text.specs.Steps.{◌>>=◌}
use Rattle.fw_addr.specs.Hexadecimal.{is_hex, hex_byte}

-- two digits of either case
abbrev pub hex_octet : List ℕ → Option ℕ
hex_octet text = if length text == 2 && list_all is_hex text then Some (digits_value 16 text) else None

-- six of them, the first the most significant
abbrev pub hex_octets : List (List ℕ) → Option ℕ
hex_octets [] = None
hex_octets (a ∷ []) = None
hex_octets (a ∷ b ∷ []) = None
hex_octets (a ∷ b ∷ c ∷ []) = None
hex_octets (a ∷ b ∷ c ∷ d ∷ []) = None
hex_octets (a ∷ b ∷ c ∷ d ∷ e ∷ []) = None
hex_octets (a ∷ b ∷ c ∷ d ∷ e ∷ f ∷ []) = do
  first ← hex_octet a
  second ← hex_octet b
  third ← hex_octet c
  fourth ← hex_octet d
  fifth ← hex_octet e
  sixth ← hex_octet f
  Some (((((first * 256 + second) * 256 + third) * 256 + fourth) * 256 + fifth) * 256 + sixth)
hex_octets (a ∷ b ∷ c ∷ d ∷ e ∷ f ∷ g ∷ rest) = None

-- the address that a text spells, joined by `:` (58)
abbrev pub mac : List ℕ → Option ℕ
mac text = hex_octets (pieces 58 text)

-- the canonical text: lower case
abbrev pub mac_text : ℕ → List ℕ
mac_text n =
    join_with_byte 58 (hex_byte (n / 2 ^ 40) ∷ hex_byte (n / 2 ^ 32 % 256) ∷ hex_byte (n / 2 ^ 24 % 256)
    ∷ hex_byte (n / 2 ^ 16 % 256) ∷ hex_byte (n / 2 ^ 8 % 256) ∷ hex_byte (n % 256) ∷ [])
