-- What is read is written again as the same bytes.
use Rattle.std.proofs.Common.{◌≡◌, ℕ, ◌<◌, List, ◌++◌, length, drop, All, Ok, refl, sym, ap, ◌∙◌, arith}
use Rattle.std.proofs.lemmas.List.{drop-drop, drop_at}
use Rattle.dbus_signature.specs.declared.kind.Kind.{Kind}
use Rattle.dbus_signature.specs.Signatures.{IsKind}
use Rattle.dbus_wire.specs.declared.value.Endian.{Endian}
use Rattle.dbus_wire.specs.declared.value.Value.{Value}
use Rattle.dbus_wire.specs.Values.{max_open, value_of}
use Rattle.dbus_wire.specs.Spelling.{spelling}
use Rattle.dbus_wire.specs.Fits.{SpeltThere, WrittenAgain}
use Rattle.dbus_wire.proofs.ReadLaws.{all_bytes, value_is_spelt}
use Rattle.dbus_wire.proofs.ValueAgain.{all_read}

pub spelt_is_written : (e : Endian) (k : Kind) (offset : ℕ) (bytes : List ℕ) (found : Value × ℕ) → SpeltThere e k offset bytes found → WrittenAgain e offset bytes found
spelt_is_written e k offset bytes found there =
    let some = ((all_read e max_open).values k).some offset found.0 there.spells.fits in
    let behind : drop found.1 bytes ≡ there.after = ap (λ (n : ℕ). drop n bytes) there.end ∙ sym (drop-drop (length there.text) offset bytes) ∙ ap (drop (length there.text)) there.split ∙ drop_at there.text there.after (length there.text) refl in
    record {
      same = there.split ∙ ap (λ (t : List ℕ). t ++ there.after) there.spells.bytes_are ∙ ap (λ (t : List ℕ). spelling e found.0 offset ++ t) (sym behind);
      some = omega (arith, there.end, ap length there.spells.bytes_are, some);
    }

pub read_is_written : (e : Endian) (k : Kind) (offset : ℕ) (bytes : List ℕ) (found : Value × ℕ) → IsKind k → All (λ byte. byte < 256) bytes → value_of e k offset bytes ≡ Ok found → WrittenAgain e offset bytes found
read_is_written e k offset bytes found is all h = spelt_is_written e k offset bytes found (value_is_spelt e k offset bytes found is (all_bytes bytes all) h)
