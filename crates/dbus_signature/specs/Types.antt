-- How types are spelt (D-Bus Specification, "Type System", its table of type codes).
use Rattle.std.specs.Prelude.{ℕ, zero, suc, Bool, true, false, ◌&&◌, List, [], ◌∷◌, ◌++◌, map}
use Rattle.std.specs.List.{list_all}
use Rattle.dbus_signature.specs.declared.kind.Basic.{Basic}
use Rattle.dbus_signature.specs.declared.kind.Basic.TheVariants.{Byte, Bool as Boolean, I16, U16, I32, U32, I64, U64, Double, Str, Path, Sig, Fd}
use Rattle.dbus_signature.specs.declared.kind.Kind.{Kind}
use Rattle.dbus_signature.specs.declared.kind.Kind.TheOpen.{Kind-F}
use Rattle.dbus_signature.specs.declared.kind.Kind.TheFolds.{fold-Kind}

-- the letter of a basic type
abbrev pub code : Basic → ℕ
code Byte = 121
code Boolean = 98
code I16 = 110
code U16 = 113
code I32 = 105
code U32 = 117
code I64 = 120
code U64 = 116
code Double = 100
code Str = 115
code Path = 111
code Sig = 103
code Fd = 104

abbrev pub joined : List (List ℕ) → List ℕ
joined [] = []
joined (x ∷ xs) = x ++ joined xs

-- A letter; `v` for a variant; `a` and the type of the elements; `a{`, a key, a value, `}` for a dict;
-- `(`, the members, `)` for a struct.
abbrev pub codes_step : Kind-F (List ℕ) → List ℕ
codes_step (Kind-F.Basic basic) = code basic ∷ []
codes_step Kind-F.Variant = 118 ∷ []
codes_step (Kind-F.Array element) = 97 ∷ element
codes_step (Kind-F.Dict key value) = 97 ∷ 123 ∷ code key ∷ value ++ 125 ∷ []
codes_step (Kind-F.Struct members) = 40 ∷ joined members ++ 41 ∷ []

-- the spelling of a type
abbrev pub codes : Kind → List ℕ
codes = fold-Kind (List ℕ) codes_step

-- the spelling of types in a row
abbrev pub all_codes : List Kind → List ℕ
all_codes kinds = joined (map codes kinds)

-- One level: below an array one array less may stand, below a struct one struct less, and a struct has a member.
abbrev pub nests_step : Kind-F (ℕ → ℕ → Bool) → ℕ → ℕ → Bool
nests_step (Kind-F.Basic basic) arrays structs = true
nests_step Kind-F.Variant arrays structs = true
nests_step (Kind-F.Array element) zero structs = false
nests_step (Kind-F.Array element) (suc arrays) structs = element arrays structs
nests_step (Kind-F.Dict key value) zero structs = false
nests_step (Kind-F.Dict key value) (suc arrays) structs = value arrays structs
nests_step (Kind-F.Struct []) arrays structs = false
nests_step (Kind-F.Struct (first ∷ others)) arrays zero = false
nests_step (Kind-F.Struct (first ∷ others)) arrays (suc structs) = first arrays structs && list_all (λ member. member arrays structs) others

-- Whether arrays nest at most this deep and structs at most that deep, and each struct has a member. A dict counts
-- as an array, and its entries don't count as structs.
abbrev pub nests : Kind → ℕ → ℕ → Bool
nests = fold-Kind (ℕ → ℕ → Bool) nests_step
