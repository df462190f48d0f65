-- Each value that holds no others is read as it is spelt, whatever follows it.
use Rattle.std.proofs.Common.{◌≡◌, ℕ, ◌+◌, ◌^◌, ◌<◌, Bool, List, ◌∷◌, ◌++◌, length, refl, ap, ◌∙◌}
use Rattle.std.specs.Prelude.{ℤ}
use Rattle.std.specs.Int.{Width, w16, w32, w64, cast_signed, cast_unsigned}
use Rattle.std.proofs.lemmas.Int.{of_z-to_z}
use Rattle.dbus_signature.specs.declared.kind.Basic.{Basic}
use Rattle.dbus_signature.specs.declared.kind.Basic.TheVariants as basic
use Rattle.dbus_signature.specs.Reading.{Reader}
use Rattle.dbus_wire.specs.declared.value.Endian.{Endian}
use Rattle.dbus_wire.specs.declared.value.Value.{Value}
use Rattle.dbus_wire.specs.declared.value.Value.TheVariants as value
use Rattle.dbus_wire.specs.declared.strings.StringKind.TheVariants as string
use Rattle.dbus_wire.specs.Texts.{is_string}
use Rattle.dbus_wire.specs.Fields.{aligned_at, byte_at, text_at}
use Rattle.dbus_wire.specs.Values.{as_value, basic_value_at}
use Rattle.dbus_wire.specs.Spelling.{spelling, aligned, text_spelling}
use Rattle.dbus_wire.specs.Fits.{IsBasic, IsNumber, IsString}
use Rattle.dbus_wire.proofs.Again.{found, IsWide, wide16, wide32, wide64, aligned_again, bool_again, text_again, signature_again}
use Rattle.dbus_wire.proofs.SpellingLaws.{spelt_byte, spelt_bool, spelt_i16, spelt_u16, spelt_i32, spelt_u32, spelt_i64, spelt_u64, spelt_double, spelt_fd, spelt_str, spelt_path, spelt_sig}

-- A reader reads a value as it is spelt at an offset, whatever follows.
abbrev pub Again : Reader Value → Endian → ℕ → Value → Type 0
Again reader e at v = (rest : List ℕ) → reader at (spelling e v at ++ rest) ≡ found v (at + length (spelling e v at)) rest

-- from a field's reading to the value's
made : {A : Type 0} (make : A → Value) (x : A) (reader : Reader A) (e : Endian) (at : ℕ) (text : List ℕ) → spelling e (make x) at ≡ text
    → ((rest : List ℕ) → reader at (text ++ rest) ≡ found x (at + length text) rest) → Again (λ at text. as_value make (reader at text)) e at (make x)
made make x reader e at text spelt again rest = rw (spelt, again rest) refl

byte_again : (n at : ℕ) (rest : List ℕ) → byte_at at (n ∷ rest) ≡ found n (at + 1) rest
unfolding byte_at
byte_again n at rest = refl

number : (make : ℕ → Value) (w : Width) (limit : ℕ) (e : Endian) → IsWide e w limit → ((n at : ℕ) → spelling e (make n) at ≡ aligned e w n at) → (at : ℕ) (v : Value) → IsNumber make limit v → Again (λ at text. as_value make (aligned_at e w at text)) e at v
number make w limit e wide spelt at v is rest =
    rw (is.1) (made make is.0 (aligned_at e w) e at (aligned e w is.0 at) (spelt is.0 at) (λ r. aligned_again e w limit wide is.0 at r is.2) rest)

-- a signed number is read from its bits
signed : (make : ℤ → Value) (w : Width) (limit : ℕ) (e : Endian) → IsWide e w limit → ((n : ℤ) (at : ℕ) → spelling e (make n) at ≡ aligned e w (cast_unsigned w n) at)
    → ((n : ℕ) → n < limit → cast_unsigned w (cast_signed w n) ≡ n)
    → (at : ℕ) (v : Value) → IsNumber (λ n. make (cast_signed w n)) limit v → Again (λ at text. as_value (λ m. make (cast_signed w m)) (aligned_at e w at text)) e at v
signed make w limit e wide spelt back at v is rest =
    let spelt_so : spelling e (make (cast_signed w is.0)) at ≡ aligned e w is.0 at = spelt (cast_signed w is.0) at ∙ ap (λ (n : ℕ). aligned e w n at) (back is.0 is.2) in
    rw (is.1, spelt_so, aligned_again e w limit wide is.0 at rest is.2) refl

text_value : (make : List ℕ → Value) (is_valid : List ℕ → Bool) (e : Endian) → ((t : List ℕ) (at : ℕ) → spelling e (make t) at ≡ text_spelling e t at) → (at : ℕ) (v : Value) → IsString make is_valid v → Again (λ at text. as_value make (text_at is_valid e at text)) e at v
text_value make is_valid e spelt at v is rest =
    rw (is.1, spelt is.0 at, text_again is_valid e is.0 at rest is.2 is.3) refl

pub basic_again : (e : Endian) (b : Basic) (at : ℕ) (v : Value) → IsBasic b v → Again (basic_value_at e b) e at v
basic_again e basic.Byte at v is rest = rw (is.1, spelt_byte e is.0 at, byte_again is.0 at rest) refl
basic_again e basic.Bool at v is rest = rw (is.1, spelt_bool e is.0 at, bool_again e is.0 at rest) refl
basic_again e basic.I16 at v is rest = signed value.I16 w16 (2 ^ 16) e (wide16 e) (spelt_i16 e) (λ n lt. of_z-to_z w16 n lt) at v is rest
basic_again e basic.U16 at v is rest = number value.U16 w16 (2 ^ 16) e (wide16 e) (spelt_u16 e) at v is rest
basic_again e basic.I32 at v is rest = signed value.I32 w32 (2 ^ 32) e (wide32 e) (spelt_i32 e) (λ n lt. of_z-to_z w32 n lt) at v is rest
basic_again e basic.U32 at v is rest = number value.U32 w32 (2 ^ 32) e (wide32 e) (spelt_u32 e) at v is rest
basic_again e basic.I64 at v is rest = signed value.I64 w64 (2 ^ 64) e (wide64 e) (spelt_i64 e) (λ n lt. of_z-to_z w64 n lt) at v is rest
basic_again e basic.U64 at v is rest = number value.U64 w64 (2 ^ 64) e (wide64 e) (spelt_u64 e) at v is rest
basic_again e basic.Double at v is rest = number value.Double w64 (2 ^ 64) e (wide64 e) (spelt_double e) at v is rest
basic_again e basic.Str at v is rest = text_value value.Str (is_string string.Text) e (spelt_str e) at v is rest
basic_again e basic.Path at v is rest = text_value value.Path (is_string string.Path) e (spelt_path e) at v is rest
basic_again e basic.Sig at v is rest = rw (is.1, spelt_sig e is.0 at, signature_again is.0 at rest is.2) refl
basic_again e basic.Fd at v is rest = number value.Fd w32 (2 ^ 32) e (wide32 e) (spelt_fd e) at v is rest
