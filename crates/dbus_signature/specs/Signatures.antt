-- Signatures, and where a text is at fault that is none (D-Bus Specification, "Type System" and
-- "Valid Signatures").
use Rattle.std.specs.Prelude.{◌≡◌, ℕ, zero, suc, ◌+◌, ◌≤◌, ◌==◌, nat_lt, true, List, [], ◌∷◌, length, take, Option, Some, None, Result, Ok, Err, if◌then◌else◌}
use Rattle.std.specs.List.{list_all}
use Rattle.dbus_signature.specs.declared.kind.Basic.{Basic}
use Rattle.dbus_signature.specs.declared.kind.Basic.TheVariants as basic
use Rattle.dbus_signature.specs.declared.kind.Kind.{Kind}
use Rattle.dbus_signature.specs.declared.kind.Kind.TheVariants.{Basic as Plain, Variant, Array, Dict, Struct}
use Rattle.dbus_signature.specs.Reading.{Read, Reader, ◌>>=◌}
use Rattle.dbus_signature.specs.Types.{code, codes, all_codes, nests}

-- how deep arrays and structs may nest, and how long a signature may be
abbrev pub max_nesting : ℕ
max_nesting = 32

abbrev pub max_length : ℕ
max_length = 255

-- A signature spells types in a row, within the limits.
pub record IsSignature (text : List ℕ) : Type 0 where
  pub kinds : List Kind
  pub spelt : text ≡ all_codes kinds
  pub nested : list_all (λ kind. nests kind max_nesting max_nesting) kinds ≡ true
  pub short : length text ≤ max_length

-- The text spells this one type, within the limits.
pub record SpellsType (text : List ℕ) (kind : Kind) : Type 0 where
  pub spelt : text ≡ codes kind
  pub nested : nests kind max_nesting max_nesting ≡ true
  pub short : length text ≤ max_length

-- a type that keeps the limits
abbrev pub IsKind : Kind → Type 0
IsKind kind = SpellsType (codes kind) kind

-- A signature of one complete type.
abbrev pub IsOneType : List ℕ → Type 0
IsOneType text = (kind : Kind) × SpellsType text kind

-- ---- the place of a fault

abbrev pub with_code : ℕ → List Basic → Option Basic
with_code c [] = None
with_code c (b ∷ bs) = if code b == c then Some b else with_code c bs

abbrev pub all_basics : List Basic
all_basics = basic.Byte ∷ basic.Bool ∷ basic.I16 ∷ basic.U16 ∷ basic.I32 ∷ basic.U32 ∷ basic.I64 ∷ basic.U64 ∷ basic.Double ∷ basic.Str ∷ basic.Path ∷ basic.Sig ∷ basic.Fd ∷ []

-- the basic type of a letter
abbrev pub basic_of : ℕ → Option Basic
basic_of c = with_code c all_basics

-- A letter of a basic type; any other byte is at fault, and so is the end.
abbrev pub basic_found : ℕ → List ℕ → Option Basic → Read Basic
basic_found at rest None = Err at
basic_found at rest (Some basic) = Ok (basic, at + 1, rest)

abbrev pub basic_at : Reader Basic
basic_at at [] = Err at
basic_at at (c ∷ rest) = basic_found at rest (basic_of c)

-- A closing brace, behind an entry's value.
abbrev pub brace_at : Reader (Unit {0})
brace_at at [] = Err at
brace_at at (c ∷ rest) = if c == 125 then Ok (tt, at + 1, rest) else Err at

-- The elements of an array: a type, or an entry in braces.
unfoldable pub dict_at : Reader Kind → Reader Kind
dict_at inner at text = do
  key ← basic_at at text
  value ← inner key.1 key.2
  close ← brace_at value.1 value.2
  Ok (Dict key.0 value.0, close.1, close.2)

unfoldable pub plain_array_at : Reader Kind → Reader Kind
plain_array_at inner at text = do
  element ← inner at text
  Ok (Array element.0, element.1, element.2)

abbrev pub array_at : Reader Kind → Reader Kind
array_at inner at [] = plain_array_at inner at []
array_at inner at (c ∷ rest) = if c == 123 then dict_at inner (at + 1) rest else plain_array_at inner at (c ∷ rest)

-- the place behind a closing parenthesis, where one stands
abbrev pub closing : ℕ → List ℕ → Option (ℕ × List ℕ)
closing at [] = None
closing at (c ∷ rest) = if c == 41 then Some (at + 1, rest) else None

-- nothing more where the parenthesis is closed
abbrev pub unless_closed : Option (ℕ × List ℕ) → Read (List Kind) → Read (List Kind)
unless_closed None more = more
unless_closed (Some end) more = Ok ([], end.0, end.1)

-- The members of a struct up to the closing parenthesis. The number is at least that of the bytes left.
unfoldable pub members_at : Reader Kind → ℕ → Reader (List Kind)
members_at inner zero at text = Err at
members_at inner (suc n) at text = do
  first ← inner at text
  others ← unless_closed (closing first.1 first.2) (members_at inner n first.1 first.2)
  Ok (first.0 ∷ others.0, others.1, others.2)

unfoldable pub struct_at : Reader Kind → Reader Kind
struct_at inner at text = do
  members ← members_at inner (length text) at text
  Ok (Struct members.0, members.1, members.2)

unfoldable pub letter_at : Reader Kind
letter_at at text = do
  basic ← basic_at at text
  Ok (Plain basic.0, basic.1, basic.2)

-- One complete type where so many arrays and so many structs may still be opened, by its first letter. One that
-- may not be opened is at fault at its letter.
abbrev pub kind_by : (arrays structs : ℕ) → (in_array in_struct : Reader Kind) → Reader Kind
kind_by arrays structs in_array in_struct at [] = Err at
kind_by arrays structs in_array in_struct at (c ∷ rest) =
    if c == 97 then (if arrays == 0 then Err at else array_at in_array (at + 1) rest)
    else (if c == 40 then (if structs == 0 then Err at else struct_at in_struct (at + 1) rest)
    else (if c == 118 then Ok (Variant, at + 1, rest) else letter_at at (c ∷ rest)))

abbrev pub refused : Reader Kind
refused at text = Err at

abbrev pub by_structs : ℕ → (ℕ → Reader Kind) → ℕ → Reader Kind
by_structs arrays in_array zero = kind_by arrays 0 (in_array 0) refused
by_structs arrays in_array (suc structs) = kind_by arrays (suc structs) (in_array (suc structs)) (by_structs arrays in_array structs)

unfoldable pub kind_at : (arrays structs : ℕ) → Reader Kind
kind_at zero = by_structs 0 (λ structs. refused)
kind_at (suc arrays) = by_structs (suc arrays) (kind_at arrays)

-- Types in a row, up to the end of the text. The number is at least that of the bytes left.
unfoldable pub kinds_at : ℕ → ℕ → List ℕ → Result (List Kind) ℕ
kinds_at n at [] = Ok []
kinds_at zero at (c ∷ text) = Err at
kinds_at (suc n) at (c ∷ text) = do
  first ← kind_at max_nesting max_nesting at (c ∷ text)
  others ← kinds_at n first.1 first.2
  Ok (first.0 ∷ others)

abbrev pub all_kinds : List ℕ → Result (List Kind) ℕ
all_kinds text = kinds_at (length text) 0 text

-- The types of a signature, or the place of its fault: the first byte that no signature has there, the number of
-- bytes where a type is not complete, and 255 where the text is longer than that and no earlier byte is at fault.
unfoldable pub kinds_of : List ℕ → Result (List Kind) ℕ
kinds_of text =
    if nat_lt max_length (length text) then (all_kinds (take max_length text) >>= λ kinds. Err max_length)
    else all_kinds text

-- The text itself where it is a signature, or the place of its fault.
abbrev pub signature_of : List ℕ → Result (List ℕ) ℕ
signature_of text = kinds_of text >>= λ kinds. Ok text
