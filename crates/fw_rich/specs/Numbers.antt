-- Numbers in rich rules: priorities (firewalld.richlanguage(5), "Rule") and marks ("Mark").
use Rattle.std.specs.Prelude.{ℕ, ◌-◌, ◌^◌, ◌==◌, nat_le, Bool, not, ◌&&◌, if◌then◌else◌, List, [], ◌∷◌, length, Option, None, Some, ℤ, pos, neg_ℤ}
use Rattle.std.specs.Char.{is_digit}
use Rattle.std.specs.List.{list_all}
use Rattle.std.specs.Option.{option_map}
use Rattle.std.specs.Str.Parse.{digits_value_after}
use Rattle.fw_text.specs.Number.{number_to}
use Rattle.fw_text.specs.Steps.{◌>>=◌}
use Rattle.fw_rich.specs.Tokens.{cut_at}

abbrev pub above_zero : ℕ → Option ℕ
above_zero n = if n == 0 then None else Some n

-- -32768 to 32767: `-` (45) and a number above 0, or a number
unfoldable pub priority : List ℕ → Option ℤ
priority [] = None
priority (byte ∷ text) =
    if byte == 45 then option_map (λ n. neg_ℤ (pos n)) (number_to 32768 text >>= above_zero)
    else option_map pos (number_to 32767 (byte ∷ text))

abbrev pub all_ones : ℕ
all_ones = 2 ^ 32 - 1

-- the number that hexadecimal digits of either case spell behind the digits of `before`
abbrev pub hex_to : ℕ → List ℕ → Option ℕ
hex_to before text = if list_all (λ byte. is_digit byte 16) text then Some (digits_value_after 16 before text) else None

-- one to eight of them
abbrev pub hex : List ℕ → Option ℕ
hex text = if not (length text == 0) && nat_le (length text) 8 then hex_to 0 text else None

-- 32 bits, in hexadecimal behind `0x` (48 and 120) or in decimal
unfoldable pub bits : List ℕ → Option ℕ
bits [] = None
bits (first ∷ []) = number_to all_ones (first ∷ [])
bits (first ∷ second ∷ text) = if first == 48 && second == 120 then hex text else number_to all_ones (first ∷ second ∷ text)

-- a value and a mask, which is all ones where none is given
abbrev pub mark_of : (whole : List ℕ) → Option (List ℕ × List ℕ) → Option (ℕ × ℕ)
mark_of whole None = do
  value ← bits whole
  Some (value, all_ones)
mark_of whole (Some (value, mask)) = do
  value ← bits value
  mask ← bits mask
  Some (value, mask)

-- mark[/mask]
unfoldable pub mark : List ℕ → Option (ℕ × ℕ)
mark text = mark_of text (cut_at 47 text)
