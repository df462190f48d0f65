-- The values of a body, by its signature.
use Rattle.std.proofs.Common.{◌≡◌, ℕ, true, eqb, eq-eqb, List, length, Option, Some, Ok, refl, sym, arith}
use Rattle.dbus_signature.specs.declared.kind.Kind.{Kind}
use Rattle.dbus_signature.specs.Signatures.{all_kinds, IsSignature}
use Rattle.dbus_signature.proofs.FaultLaws.{read_types}
use Rattle.dbus_wire.specs.declared.value.Endian.{Endian}
use Rattle.dbus_wire.specs.declared.value.Value.{Value}
use Rattle.dbus_wire.specs.Values.{values_of}
use Rattle.dbus_msg.specs.Messages.{body_in, to_the_end}

-- a signature has types
pub types_of : (codes : List ℕ) (s : IsSignature codes) → all_kinds codes ≡ Ok s.kinds
types_of codes s = read_types (length codes) 0 codes (omega arith) (s.kinds, s.spelt, s.nested)

pub body_found : (endian : Endian) (codes : List ℕ) (start : ℕ) (bytes : List ℕ) (found : List Value × ℕ) → IsSignature codes → ((kinds : List Kind) → all_kinds codes ≡ Ok kinds → values_of endian kinds start bytes ≡ Ok found)
    → body_in endian (Some codes) start bytes ≡ to_the_end bytes found
unfolding body_in
body_found endian codes start bytes found s gives = let types = types_of codes s in rw (types, gives s.kinds types) refl

-- the values that end where the bytes end
pub body_whole : (endian : Endian) (signature : Option (List ℕ)) (codes : List ℕ) (start : ℕ) (bytes : List ℕ) (values : List Value) (end : ℕ) → signature ≡ Some codes → IsSignature codes → end ≡ length bytes
    → ((kinds : List Kind) → all_kinds codes ≡ Ok kinds → values_of endian kinds start bytes ≡ Ok (values, end)) → Some values ≡ body_in endian signature start bytes
body_whole endian signature codes start bytes values end is s whole gives =
    let same : eqb end (length bytes) ≡ true = eq-eqb end (length bytes) whole in
    sym (rw (is, body_found endian codes start bytes (values, end) s gives, same) refl)
