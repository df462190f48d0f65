-- Names of network interfaces as Linux takes them, and entries with a `+` at the end, which stand for all names
-- with a prefix, as in iptables(8).
use Rattle.std.specs.Prelude.{ℕ, ◌==◌, ◌-◌, nat_eq, nat_le, Bool, not, ◌&&◌, ◌||◌, if◌then◌else◌, List, [], ◌∷◌, length, take, Option, None, Some, unwrap_or}
use Rattle.std.specs.Char.{is_ascii_alphanumeric}
use Rattle.std.specs.List.{list_all, starts_with, ends_with}
use Rattle.std.specs.Str.{bytes_eq}

-- a letter, a digit, or one of `-` `.` `:` `@` `_`
abbrev pub is_interface_byte : ℕ → Bool
is_interface_byte byte =
    is_ascii_alphanumeric byte || byte == 45 || byte == 46 || byte == 58 || byte == 64 || byte == 95

-- what stands before a `+` (43) that ends a text
abbrev pub before_plus : List ℕ → Option (List ℕ)
before_plus text = if ends_with nat_eq text (43 ∷ []) then Some (take (length text - 1) text) else None

-- at least one byte, all of them a name's
abbrev pub is_interface_name : List ℕ → Bool
is_interface_name text = not (length text == 0) && list_all is_interface_byte text

-- at most 15 bytes, a name or a name and `+`
abbrev pub is_interface : List ℕ → Bool
is_interface text = nat_le (length text) 15 && is_interface_name (unwrap_or (before_plus text) text)

-- the entry that a text spells: its bytes
abbrev pub interface : List ℕ → Option (List ℕ)
interface text = if is_interface text then Some text else None

-- whether an entry with this front before its `+`, or without one, stands for a name
abbrev pub matches_front : Option (List ℕ) → List ℕ → List ℕ → Bool
matches_front None entry name = bytes_eq name entry
matches_front (Some front) entry name = starts_with nat_eq name front

-- whether an entry stands for a name: one that ends in `+` stands for each name that begins with what is before it
abbrev pub matches : List ℕ → List ℕ → Bool
matches entry name = matches_front (before_plus entry) entry name
