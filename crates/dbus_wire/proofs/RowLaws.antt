-- Values in a row, by a signature.
use Rattle.std.proofs.Common.{◌≡◌, ℕ, ◌≤◌, true, List, [], ◌∷◌, length, drop, All, Result, Ok, Err, refl, sym, ap, ◌∙◌, arith}
use Rattle.std.specs.List.{list_all, AllByRecursion}
use Rattle.std.proofs.lemmas.Bool.{and_parts}
use Rattle.std.proofs.lemmas.List.{length-append}
use Rattle.std.proofs.lemmas.List.Elements.{All-from_recursion}
use Rattle.dbus_signature.specs.declared.kind.Kind.{Kind}
use Rattle.dbus_signature.specs.declared.error.WireError.{WireError}
use Rattle.dbus_signature.specs.declared.error.WireError.TheVariants as errors
use Rattle.dbus_signature.specs.Reading.{Fails}
use Rattle.dbus_signature.specs.Types.{codes, all_codes, nests}
use Rattle.dbus_signature.specs.Signatures.{all_kinds, IsKind, IsSignature, max_nesting, max_length}
use Rattle.dbus_signature.proofs.Sound.{ok_is, not_ok}
use Rattle.dbus_signature.proofs.Whole.{kinds_take}
use Rattle.dbus_wire.specs.declared.value.Endian.{Endian}
use Rattle.dbus_wire.specs.declared.value.Value.{Value}
use Rattle.dbus_wire.specs.Values.{max_open, members_at, value_at, values_of}

each_is : (kinds : List Kind) → list_all (λ kind. nests kind max_nesting max_nesting) kinds ≡ true → length (all_codes kinds) ≤ max_length → AllByRecursion IsKind kinds
each_is [] nested short = tt
each_is (k ∷ ks) nested short =
    let both = and_parts (nests k max_nesting max_nesting) (list_all (λ kind. nests kind max_nesting max_nesting) ks) nested in
    let len = length-append (codes k) (all_codes ks) in
    (record { spelt = refl; nested = both.0; short = omega arith }, each_is ks both.1 (omega arith))

-- the types of a signature keep the limits
pub kinds_are : (text : List ℕ) (kinds : List Kind) → all_kinds text ≡ Ok kinds → IsSignature text → All IsKind kinds
kinds_are text kinds e s =
    let t = kinds_take (length text) 0 text kinds e in
    All-from_recursion IsKind kinds (each_is kinds t.1 (omega (arith, ap length t.0, s.short)))

-- a signature that is none has no types
pub no_kinds : (e : WireError) (text : List ℕ) (kinds : List Kind) (read : Result (List Value × ℕ) ℕ) → Fails e (all_kinds text) → all_kinds text ≡ Ok kinds → Fails e read
no_kinds errors.Memory text kinds read fails is = tt
no_kinds (errors.Bad place) text kinds read fails is = absurd (not_ok place kinds (sym fails ∙ is))

pub values_fail : (e : WireError) (endian : Endian) (text : List ℕ) (ks ls : List Kind) (offset : ℕ) (rest bytes : List ℕ) → all_kinds text ≡ Ok ks → all_kinds text ≡ Ok ls → rest ≡ drop offset bytes
    → Fails e (members_at (value_at endian max_open) ks offset rest) → Fails e (values_of endian ls offset bytes)
values_fail errors.Memory endian text ks ls offset rest bytes s t is fails = tt
values_fail (errors.Bad place) endian text ks ls offset rest bytes s t is fails =
    let failed : members_at (value_at endian max_open) ls offset (drop offset bytes) ≡ Err place = rw (← is, ← ok_is ks ls (sym s ∙ t)) fails in
    rw failed refl

pub values_found : (endian : Endian) (text : List ℕ) (ks ls : List Kind) (offset : ℕ) (rest bytes : List ℕ) (vs : List Value) (next : ℕ) (after : List ℕ) → all_kinds text ≡ Ok ks → all_kinds text ≡ Ok ls → rest ≡ drop offset bytes
    → members_at (value_at endian max_open) ks offset rest ≡ Ok (vs, next, after) → values_of endian ls offset bytes ≡ Ok (vs, next)
values_found endian text ks ls offset rest bytes vs next after s t is found =
    let read : members_at (value_at endian max_open) ls offset (drop offset bytes) ≡ Ok (vs, next, after) = rw (← is, ← ok_is ks ls (sym s ∙ t)) found in
    rw read refl
