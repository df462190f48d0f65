-- Names of zones, policies, services and ipsets, as firewalld.zone(5) and its kin take them.
use Rattle.std.specs.Prelude.{ℕ, ◌==◌, nat_le, Bool, not, ◌&&◌, ◌||◌, List, length}
use Rattle.std.specs.Char.{is_ascii_alphanumeric}
use Rattle.std.specs.List.{list_all}

-- a letter, a digit, or one of `-` `.` `_`
abbrev pub is_name_byte : ℕ → Bool
is_name_byte byte = is_ascii_alphanumeric byte || byte == 45 || byte == 46 || byte == 95

-- 1 to 64 such bytes
abbrev pub is_name : List ℕ → Bool
is_name text = not (length text == 0) && nat_le (length text) 64 && list_all is_name_byte text
