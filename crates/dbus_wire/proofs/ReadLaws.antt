-- A value is found in bytes exactly where one is spelt there.
use Rattle.std.proofs.Common.{◌≡◌, ℕ, ◌+◌, ◌<◌, ◌∙◌, List, length, drop, All, Result, Ok, Err, refl, sym, subst, inl, inr, arith}
use Rattle.std.specs.Prelude.{IfOk}
use Rattle.std.proofs.lemmas.Bool.{cases_lt}
use Rattle.std.proofs.lemmas.List.{get_or_past}
use Rattle.std.proofs.lemmas.List.Elements.{All-get_or}
use Rattle.dbus_signature.specs.declared.kind.Kind.{Kind}
use Rattle.dbus_signature.specs.declared.error.WireError.{WireError}
use Rattle.dbus_signature.specs.Reading.{Gives}
use Rattle.dbus_signature.specs.Signatures.{SpellsType, IsKind}
use Rattle.dbus_signature.proofs.Sound.{bind_ok, ok_is, not_ok}
use Rattle.dbus_wire.specs.declared.value.Endian.{Endian}
use Rattle.dbus_wire.specs.declared.value.Value.{Value}
use Rattle.dbus_wire.specs.Values.{value_at, value_of, max_open}
use Rattle.dbus_wire.specs.Spelling.{spelling}
use Rattle.dbus_wire.specs.Fits.{SpeltThere}
use Rattle.dbus_wire.proofs.Took.{IsBytes, bytes_drop}
use Rattle.dbus_wire.proofs.ValueTook.{value_took}
use Rattle.dbus_wire.proofs.RoundTrip.{spelt_is_read}

pub value_is_spelt : (e : Endian) (k : Kind) (offset : ℕ) (bytes : List ℕ) (found : Value × ℕ) → IsKind k → IsBytes bytes → value_of e k offset bytes ≡ Ok found → SpeltThere e k offset bytes found
value_is_spelt e k offset bytes found is fits h =
    let b = bind_ok (value_at e max_open k offset (drop offset bytes)) (λ x. Ok (x.0, x.1)) found h in
    let t = value_took e max_open k is offset (drop offset bytes) b.0 (bytes_drop offset bytes fits) b.1 in
    subst (λ (f : Value × ℕ). SpeltThere e k offset bytes f) (ok_is (b.0.0, b.0.1) found b.2)
    (record { text = spelling e b.0.0 offset; after = b.0.2; split = t.0.parts; end = t.0.moved; spells = record { fits = t.1; bytes_are = refl } })

pub kind_is : (codes : List ℕ) (k : Kind) → SpellsType codes k → IsKind k
kind_is codes k s = subst (λ (t : List ℕ). SpellsType t k) s.spelt s

pub found_is_spelt : (r : Result (Value × ℕ) WireError) (e : Endian) (codes : List ℕ) (offset : ℕ) (bytes : List ℕ) → IsBytes bytes
    → ((k : Kind) → SpellsType codes k → Gives (λ found. found) r (value_of e k offset bytes))
    → IfOk r (λ found. (k : Kind) → SpellsType codes k → SpeltThere e k offset bytes found)
found_is_spelt (Ok found) e codes offset bytes fits gives = λ k s. value_is_spelt e k offset bytes found (kind_is codes k s) fits (gives k s)
found_is_spelt (Err error) e codes offset bytes fits gives = tt

pub spelt_is_found : (r : Result (Value × ℕ) WireError) (e : Endian) (codes : List ℕ) (offset : ℕ) (bytes : List ℕ)
    → ((k : Kind) → SpellsType codes k → Gives (λ found. found) r (value_of e k offset bytes))
    → (k : Kind) (found : Value × ℕ) → SpellsType codes k → SpeltThere e k offset bytes found → Gives (λ found. found) r (Ok found)
spelt_is_found r e codes offset bytes gives k found s there =
    let read : value_of e k offset bytes ≡ Ok (found.0, found.1) = rw there.end (spelt_is_read e k offset bytes there.text there.after found.0 there.spells there.split) in
    subst (λ (f : Result (Value × ℕ) ℕ). Gives (λ found. found) r f) read (gives k s)

pub not_spelt : (e : Endian) (k : Kind) (offset place : ℕ) (bytes : List ℕ) (found : Value × ℕ) → value_of e k offset bytes ≡ Err place → SpeltThere e k offset bytes found → ⊥
not_spelt e k offset place bytes found fault there =
    not_ok place (found.0, offset + length there.text) (sym fault ∙ spelt_is_read e k offset bytes there.text there.after found.0 there.spells there.split)

pub all_bytes : (bytes : List ℕ) → All (λ byte. byte < 256) bytes → IsBytes bytes
all_bytes bytes all i =
    elim (cases_lt i (length bytes)) [
      | inl lt ↦ All-get_or (λ byte. byte < 256) bytes i 0 lt all
      | inr le ↦ rw (get_or_past bytes i 0 le) (omega arith)
    ]
