-- Which bytes are texts and object paths (D-Bus Specification, "Basic types").
use Rattle.std.specs.Prelude.{ℕ, Bool, true, false, not, ◌&&◌, ◌||◌, ◌==◌, nat_le, List, [], ◌∷◌, if◌then◌else◌}
use Rattle.std.specs.List.{list_any}
use Rattle.std.specs.Str.{is_utf8}
use Rattle.dbus_wire.specs.declared.strings.StringKind.{StringKind}
use Rattle.dbus_wire.specs.declared.strings.StringKind.TheVariants as string

-- a text is UTF-8 without a NUL
abbrev pub is_text : List ℕ → Bool
is_text bytes = is_utf8 bytes && not (list_any (λ byte. byte == 0) bytes)

-- a letter of an element: A to Z, a to z, a digit or an underscore
abbrev pub is_path_letter : ℕ → Bool
is_path_letter c = (nat_le 65 c && nat_le c 90) || (nat_le 97 c && nat_le c 122) || (nat_le 48 c && nat_le c 57) || (c == 95)

-- What follows in a path: letters, and slashes that each have a letter on both sides. The first argument says
-- whether a letter is due.
abbrev pub path_goes_on : Bool → List ℕ → Bool
path_goes_on due [] = not due
path_goes_on due (c ∷ bytes) = if c == 47 then not due && path_goes_on true bytes else is_path_letter c && path_goes_on false bytes

-- An object path is a slash alone, or elements that are not empty, each behind a slash.
abbrev pub is_path : List ℕ → Bool
is_path [] = false
is_path (c ∷ []) = c == 47
is_path (c ∷ d ∷ bytes) = (c == 47) && path_goes_on true (d ∷ bytes)

-- what a string of a kind may hold
abbrev pub is_string : StringKind → List ℕ → Bool
is_string string.Text bytes = is_text bytes
is_string string.Path bytes = is_text bytes && is_path bytes
