-- What is read of a value that holds no others is its spelling.
use Rattle.std.proofs.Common.{◌≡◌, ℕ, ◌^◌, ◌<◌, Bool, List, Ok, refl, ap, subst, ◌∙◌}
use Rattle.std.specs.Prelude.{ℤ}
use Rattle.std.specs.Int.{Width, w16, w32, w64, cast_signed, cast_unsigned}
use Rattle.std.proofs.lemmas.Int.{of_z-to_z}
use Rattle.dbus_signature.specs.declared.kind.Basic.{Basic}
use Rattle.dbus_signature.specs.declared.kind.Basic.TheVariants as basic
use Rattle.dbus_signature.specs.Reading.{Read}
use Rattle.dbus_signature.proofs.Sound.{bind_ok, ok_is, Takes}
use Rattle.dbus_wire.specs.declared.value.Endian.{Endian}
use Rattle.dbus_wire.specs.declared.value.Value.{Value}
use Rattle.dbus_wire.specs.declared.value.Value.TheVariants as value
use Rattle.dbus_wire.specs.declared.strings.StringKind.TheVariants as string
use Rattle.dbus_wire.specs.Texts.{is_string}
use Rattle.dbus_wire.specs.Fields.{aligned_at, bool_at, byte_at, text_at, signature_at}
use Rattle.dbus_wire.specs.Values.{as_value, basic_value_at}
use Rattle.dbus_wire.specs.Spelling.{spelling, aligned, text_spelling}
use Rattle.dbus_wire.specs.Fits.{Said, IsBasic, IsNumber, IsString}
use Rattle.dbus_wire.proofs.Took.{IsBytes, IsExact, exact16, exact32, exact64, aligned_takes, bool_takes, text_takes, signature_takes, byte_reads}
use Rattle.dbus_wire.proofs.SpellingLaws.{spelt_byte, spelt_bool, spelt_i16, spelt_u16, spelt_i32, spelt_u32, spelt_i64, spelt_u64, spelt_double, spelt_fd, spelt_str, spelt_path, spelt_sig}

-- A value was read: its spelling was taken, and it is as is said.
abbrev pub Took : Endian → Said → ℕ → List ℕ → Value × ℕ × List ℕ → Type 0
Took e said at text x = Takes at text (spelling e x.0 at) x.1 x.2 × said at x.0

-- from a field to the value that is made of it
pub took_made : {A : Type 0} (make : A → Value) (e : Endian) (said : Said) (at : ℕ) (text : List ℕ) (read : Read A) (x : Value × ℕ × List ℕ) → as_value make read ≡ Ok x
    → ((y : A × ℕ × List ℕ) → read ≡ Ok y → Took e said at text (make y.0, y.1, y.2)) → Took e said at text x
took_made make e said at text read x h takes =
    let b = bind_ok read (λ y. Ok (make y.0, y.1, y.2)) x h in
    subst (λ (z : Value × ℕ × List ℕ). Took e said at text z) (ok_is (make b.0.0, b.0.1, b.0.2) x b.2) (takes b.0 b.1)

number_took : (make : ℕ → Value) (w : Width) (limit : ℕ) (e : Endian) → IsExact e w limit → ((n at : ℕ) → n < limit → spelling e (make n) at ≡ aligned e w n at)
    → (at : ℕ) (text : List ℕ) (x : Value × ℕ × List ℕ) → IsBytes text → as_value make (aligned_at e w at text) ≡ Ok x → Took e (λ at v. IsNumber make limit v) at text x
number_took make w limit e exact spelt at text x fits h =
    took_made make e (λ at v. IsNumber make limit v) at text (aligned_at e w at text) x h (λ y is.
    let t = aligned_takes e w limit exact at text y fits is in
    (rw (spelt y.0 at t.1) t.0, (y.0, refl, t.1)))

string_took : (make : List ℕ → Value) (is_valid : List ℕ → Bool) (e : Endian) → ((s : List ℕ) (at : ℕ) → spelling e (make s) at ≡ text_spelling e s at)
    → (at : ℕ) (text : List ℕ) (x : Value × ℕ × List ℕ) → IsBytes text → as_value make (text_at is_valid e at text) ≡ Ok x → Took e (λ at v. IsString make is_valid v) at text x
string_took make is_valid e spelt at text x fits h =
    took_made make e (λ at v. IsString make is_valid v) at text (text_at is_valid e at text) x h (λ y is.
    let t = text_takes is_valid e at text y fits is in
    (rw (spelt y.0 at) t.0, (y.0, refl, t.1, t.2)))

signed_spelt : (make : ℤ → Value) (w : Width) (limit : ℕ) (e : Endian) → ((n : ℤ) (at : ℕ) → spelling e (make n) at ≡ aligned e w (cast_unsigned w n) at) → ((n : ℕ) → n < limit → cast_unsigned w (cast_signed w n) ≡ n)
    → (n at : ℕ) → n < limit → spelling e (make (cast_signed w n)) at ≡ aligned e w n at
signed_spelt make w limit e spelt back n at lt = spelt (cast_signed w n) at ∙ ap (λ (m : ℕ). aligned e w m at) (back n lt)

pub basic_took : (e : Endian) (b : Basic) (at : ℕ) (text : List ℕ) (x : Value × ℕ × List ℕ) → IsBytes text → basic_value_at e b at text ≡ Ok x → Took e (λ at v. IsBasic b v) at text x
basic_took e basic.Byte at text x fits h =
    took_made value.Byte e (λ at v. IsBasic basic.Byte v) at text (byte_at at text) x h (λ y is. let t = byte_reads at text y fits is in (rw (spelt_byte e y.0 at) t.0, (y.0, refl, t.1)))
basic_took e basic.Bool at text x fits h =
    took_made value.Bool e (λ at v. IsBasic basic.Bool v) at text (bool_at e at text) x h (λ y is. (rw (spelt_bool e y.0 at) (bool_takes e at text y fits is), (y.0, refl)))
basic_took e basic.I16 at text x fits h = number_took (λ n. value.I16 (cast_signed w16 n)) w16 (2 ^ 16) e (exact16 e) (signed_spelt value.I16 w16 (2 ^ 16) e (spelt_i16 e) (λ n lt. of_z-to_z w16 n lt)) at text x fits h
basic_took e basic.U16 at text x fits h = number_took value.U16 w16 (2 ^ 16) e (exact16 e) (λ n a lt. spelt_u16 e n a) at text x fits h
basic_took e basic.I32 at text x fits h = number_took (λ n. value.I32 (cast_signed w32 n)) w32 (2 ^ 32) e (exact32 e) (signed_spelt value.I32 w32 (2 ^ 32) e (spelt_i32 e) (λ n lt. of_z-to_z w32 n lt)) at text x fits h
basic_took e basic.U32 at text x fits h = number_took value.U32 w32 (2 ^ 32) e (exact32 e) (λ n a lt. spelt_u32 e n a) at text x fits h
basic_took e basic.I64 at text x fits h = number_took (λ n. value.I64 (cast_signed w64 n)) w64 (2 ^ 64) e (exact64 e) (signed_spelt value.I64 w64 (2 ^ 64) e (spelt_i64 e) (λ n lt. of_z-to_z w64 n lt)) at text x fits h
basic_took e basic.U64 at text x fits h = number_took value.U64 w64 (2 ^ 64) e (exact64 e) (λ n a lt. spelt_u64 e n a) at text x fits h
basic_took e basic.Double at text x fits h = number_took value.Double w64 (2 ^ 64) e (exact64 e) (λ n a lt. spelt_double e n a) at text x fits h
basic_took e basic.Str at text x fits h = string_took value.Str (is_string string.Text) e (spelt_str e) at text x fits h
basic_took e basic.Path at text x fits h = string_took value.Path (is_string string.Path) e (spelt_path e) at text x fits h
basic_took e basic.Sig at text x fits h =
    took_made value.Sig e (λ at v. IsBasic basic.Sig v) at text (signature_at at text) x h (λ y is. let t = signature_takes at text y fits is in (rw (spelt_sig e y.0 at) t.0, (y.0, refl, t.1)))
basic_took e basic.Fd at text x fits h = number_took value.Fd w32 (2 ^ 32) e (exact32 e) (λ n a lt. spelt_fd e n a) at text x fits h
