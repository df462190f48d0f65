-- Which values have a spelling as a type, and which bytes spell a value (D-Bus Specification, "Type System" for the
-- ranges, "Marshaling (Wire Format)" for the spelling, "Valid Signatures" and "Message Format" for the limits).
use Rattle.std.specs.Prelude.{◌≡◌, ℕ, zero, suc, ◌+◌, ◌^◌, ◌<◌, ◌≤◌, Bool, true, List, [], ◌∷◌, ◌++◌, length, drop}
use Rattle.std.specs.Int.{w16, w32, w64, cast_signed}
use Rattle.dbus_signature.specs.declared.kind.Basic.{Basic}
use Rattle.dbus_signature.specs.declared.kind.Basic.TheVariants as basic
use Rattle.dbus_signature.specs.declared.kind.Kind.{Kind}
use Rattle.dbus_signature.specs.declared.kind.Kind.TheViews.{out-Kind}
use Rattle.dbus_signature.specs.declared.kind.Kind.TheOpen.{Kind-F}
use Rattle.dbus_signature.specs.Types.{codes}
use Rattle.dbus_signature.specs.Signatures.{IsSignature, SpellsType}
use Rattle.dbus_wire.specs.declared.value.Endian.{Endian}
use Rattle.dbus_wire.specs.declared.value.Value.{Value}
use Rattle.dbus_wire.specs.declared.value.Value.TheVariants as value
use Rattle.dbus_wire.specs.declared.strings.StringKind.TheVariants as string
use Rattle.dbus_wire.specs.Texts.{is_string}
use Rattle.dbus_wire.specs.Values.{max_array, max_open}
use Rattle.dbus_wire.specs.Alignment.{alignment}
use Rattle.dbus_wire.specs.Packing.{array_of}
use Rattle.dbus_wire.specs.Spelling.{padding, signature_spelling, spelling, spellings}

-- a number of a type that is below a limit
abbrev pub IsNumber : (ℕ → Value) → ℕ → Value → Type 0
IsNumber make limit v = (n : ℕ) × (v ≡ make n) × (n < limit)

abbrev pub IsString : (List ℕ → Value) → (List ℕ → Bool) → Value → Type 0
IsString make is_valid v = (text : List ℕ) × (v ≡ make text) × (is_valid text ≡ true) × (length text < 2 ^ 32)

-- a value of a basic type ("Basic types"); a signed number is the one that its bits stand for
abbrev pub IsBasic : Basic → Value → Type 0
IsBasic basic.Byte v = IsNumber value.Byte (2 ^ 8) v
IsBasic basic.Bool v = (truth : Bool) × (v ≡ value.Bool truth)
IsBasic basic.I16 v = IsNumber (λ n. value.I16 (cast_signed w16 n)) (2 ^ 16) v
IsBasic basic.U16 v = IsNumber value.U16 (2 ^ 16) v
IsBasic basic.I32 v = IsNumber (λ n. value.I32 (cast_signed w32 n)) (2 ^ 32) v
IsBasic basic.U32 v = IsNumber value.U32 (2 ^ 32) v
IsBasic basic.I64 v = IsNumber (λ n. value.I64 (cast_signed w64 n)) (2 ^ 64) v
IsBasic basic.U64 v = IsNumber value.U64 (2 ^ 64) v
IsBasic basic.Double v = IsNumber value.Double (2 ^ 64) v
IsBasic basic.Str v = IsString value.Str (is_string string.Text) v
IsBasic basic.Path v = IsString value.Path (is_string string.Path) v
IsBasic basic.Sig v = (text : List ℕ) × (v ≡ value.Sig text) × IsSignature text
IsBasic basic.Fd v = IsNumber value.Fd (2 ^ 32) v

-- What is said of a value that begins at an offset.
abbrev pub Said : Type 1
Said = ℕ → Value → Type 0

-- each of values in a row, at the offset where the one before it ends
abbrev pub Each : Endian → Said → List Value → ℕ → Type 0
Each endian said [] at = Unit {0}
Each endian said (v ∷ vs) at = said at v × Each endian said vs (at + length (spelling endian v at))

-- each member of a struct, of its type ("Container types")
abbrev pub Members : Endian → (Kind → Said) → List Kind → List Value → ℕ → Type 0
Members endian said [] [] at = Unit {0}
Members endian said [] (v ∷ vs) at = ⊥
Members endian said (kind ∷ kinds) [] at = ⊥
Members endian said (kind ∷ kinds) (v ∷ vs) at = said kind at v × Members endian said kinds vs (at + length (spelling endian v at))

-- an array ("Marshalling containers", ARRAY; 2^26 bytes at most): it is made of items, each of which fits, and whose spellings have no more bytes than an array may have
abbrev pub IsArray : Endian → ℕ → Said → (List Value → Value) → ℕ → Value → Type 0
IsArray endian align said make at v =
    let length_at = at + length (padding 4 at) in
    let first = length_at + 4 + length (padding align (length_at + 4)) in
    (items : List Value) × (v ≡ make items) × Each endian said items first × (length (spellings endian items first) ≤ max_array)

-- a value of a type by its one level, where what stands in it is said so
abbrev pub IsOpen : Endian → (Kind → Said) → (Basic → Kind → Said) → Kind → Kind-F Kind → ℕ → Value → Type 0
IsOpen endian said entry kind (Kind-F.Basic basic) at v = IsBasic basic v
IsOpen endian said entry kind Kind-F.Variant at v =
    (text : List ℕ) × (inner : Kind) × (w : Value) × (v ≡ value.Variant text w) × SpellsType text inner × said inner (at + length (signature_spelling text)) w
IsOpen endian said entry kind (Kind-F.Array element) at v = IsArray endian (alignment element) (said element) (array_of element) at v
IsOpen endian said entry kind (Kind-F.Dict key inner) at v = IsArray endian 8 (entry key inner) (value.Array (codes kind)) at v
IsOpen endian said entry kind (Kind-F.Struct kinds) at v =
    (members : List Value) × (v ≡ value.Struct members) × (0 < length members) × Members endian said kinds members (at + length (padding 8 at))

-- a value where no container may be opened
abbrev pub IsClosed : Kind-F Kind → Value → Type 0
IsClosed (Kind-F.Basic basic) v = IsBasic basic v
IsClosed layer v = ⊥

-- an entry of a dict: a key and a value ("Container types", DICT_ENTRY)
abbrev pub IsPair : Endian → Basic → Said → ℕ → Value → Type 0
IsPair endian key said at v =
    (first : Value) × (second : Value) × (v ≡ value.Pair first second) × IsBasic key first
    × said (at + length (padding 8 at) + length (spelling endian first (at + length (padding 8 at)))) second

unfoldable mutual
  -- The value has a spelling as this type at this offset, where so many containers may still be opened ("Message Format",
  -- the limit of 64).
  pub Fits : Endian → ℕ → Kind → ℕ → Value → Type 0
  Fits endian zero kind at v = IsClosed (out-Kind kind) v
  Fits endian (suc room) kind at v = IsOpen endian (Fits endian room) (FitsEntry endian room) kind (out-Kind kind) at v

  pub FitsEntry : Endian → ℕ → Basic → Kind → ℕ → Value → Type 0
  FitsEntry endian zero key kind at v = ⊥
  FitsEntry endian (suc room) key kind at v = IsPair endian key (Fits endian room kind) at v

-- The value has a spelling at this offset, as some type.
pub record HasSpelling (endian : Endian) (at : ℕ) (v : Value) : Type 0 where
  pub kind : Kind
  pub fits : Fits endian max_open kind at v

-- Bytes spell a value of a type at an offset: it has a spelling there, and they are it.
pub record Spells (endian : Endian) (kind : Kind) (at : ℕ) (bytes : List ℕ) (v : Value) : Type 0 where
  pub fits : Fits endian max_open kind at v
  pub bytes_are : bytes ≡ spelling endian v at

-- A value is spelt at an offset in bytes, up to the offset that stands behind it.
pub record SpeltThere (endian : Endian) (kind : Kind) (offset : ℕ) (bytes : List ℕ) (found : Value × ℕ) : Type 0 where
  pub text : List ℕ
  pub after : List ℕ
  pub split : drop offset bytes ≡ text ++ after
  pub end : found.1 ≡ offset + length text
  pub spells : Spells endian kind offset text found.0

-- A value that was read there is written again as the same bytes, of which there is one at least.
pub record WrittenAgain (endian : Endian) (offset : ℕ) (bytes : List ℕ) (found : Value × ℕ) : Type 0 where
  pub same : drop offset bytes ≡ spelling endian found.0 offset ++ drop found.1 bytes
  pub some : offset < found.1
