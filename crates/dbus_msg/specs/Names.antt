-- Names in messages (D-Bus Specification, "Valid Names").
use Rattle.std.specs.Prelude.{ℕ, Bool, true, false, ◌&&◌, ◌||◌, ◌==◌, nat_le, List, [], ◌∷◌, length, if◌then◌else◌}
use Rattle.std.specs.List.{list_all, list_any, slice_split}
use Rattle.dbus_msg.specs.declared.names.Part.{Part}
use Rattle.dbus_msg.specs.declared.names.Part.TheVariants as parts

-- how long a name may be
abbrev pub max_name : ℕ
max_name = 255

-- A to Z, a to z or an underscore
abbrev pub is_letter : ℕ → Bool
is_letter c = (nat_le 65 c && nat_le c 90) || (nat_le 97 c && nat_le c 122) || (c == 95)

abbrev pub is_digit : ℕ → Bool
is_digit c = nat_le 48 c && nat_le c 57

abbrev pub is_dot : ℕ → Bool
is_dot c = c == 46

-- An element of a name: a letter, and then letters and digits.
abbrev pub is_element : List ℕ → Bool
is_element [] = false
is_element (c ∷ others) = is_letter c && list_all (λ d. is_letter d || is_digit d) others

-- An element of a bus name, which may have hyphens and, in a unique name, begin with a digit.
abbrev pub is_bus_element : Bool → List ℕ → Bool
is_bus_element unique [] = false
is_bus_element unique (c ∷ others) = (is_letter c || (c == 45) || (unique && is_digit c)) && list_all (λ d. is_letter d || is_digit d || (d == 45)) others

-- Two elements or more, joined by dots.
abbrev pub are_joined : (List ℕ → Bool) → List ℕ → Bool
are_joined is_part text = list_any is_dot text && list_all is_part (slice_split is_dot text)

abbrev pub is_part : Part → List ℕ → Bool
is_part parts.Element text = is_element text
is_part (parts.Bus unique) text = is_bus_element unique text

-- "Interface names" and "Error names", which are alike
abbrev pub is_interface : List ℕ → Bool
is_interface text = nat_le (length text) max_name && are_joined (is_part parts.Element) text

-- "Member names"
abbrev pub is_member : List ℕ → Bool
is_member text = nat_le (length text) max_name && is_element text

-- "Bus names": a unique one stands behind a colon
abbrev pub is_bus_part : List ℕ → Bool
is_bus_part [] = false
is_bus_part (c ∷ others) = if c == 58 then are_joined (is_part (parts.Bus true)) others else are_joined (is_part (parts.Bus false)) (c ∷ others)

abbrev pub is_bus_name : List ℕ → Bool
is_bus_name text = nat_le (length text) max_name && is_bus_part text
