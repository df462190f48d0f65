-- Where a signature in bytes is at fault.
use Rattle.std.proofs.Common.{◌≡◌, ℕ, ◌+◌, ◌^◌, ◌<◌, false, eqb, List, [], ◌∷◌, ◌++◌, length, take, drop, Err, refl, sym, ap, ◌∙◌, arith, inl, inr}
use Rattle.std.proofs.lemmas.Bool.{eqb-true, eqb-false, ne_eqb}
use Rattle.std.proofs.lemmas.List.{append-nil, nil_from_length}
use Rattle.dbus_signature.specs.declared.kind.Kind.{Kind}
use Rattle.dbus_signature.specs.Reading.{Reader, ◌>>=◌}
use Rattle.dbus_signature.specs.Types.{codes}
use Rattle.dbus_signature.specs.Signatures.{kind_at, kinds_at, SpellsType}
use Rattle.dbus_signature.specs.FirstFault.{AreTypes, IsType}
use Rattle.dbus_signature.proofs.Sound.{chosen, kind_takes}
use Rattle.dbus_signature.proofs.Whole.{kinds_take}
use Rattle.dbus_signature.proofs.Stops.{bind_err, err_is, not_err}
use Rattle.dbus_signature.proofs.FaultLaws.{kinds_fault, kinds_fault_only, type_fault, type_fault_only, read_types, read_type}
use Rattle.dbus_wire.specs.Fields.{byte_at, closed_at, codes_at, one_type_of, signature_at, type_at}
use Rattle.dbus_wire.specs.Spelling.{signature_spelling}
use Rattle.dbus_wire.specs.Faults.{CodesFault, Missing, SignatureFault}
use Rattle.dbus_wire.proofs.Took.{IsBytes, bytes_drop, byte_reads, type_takes}
use Rattle.dbus_wire.proofs.Again.{type_again}
use Rattle.dbus_wire.proofs.Blames.{Blames, Knows, blames_along, then_blames, zero_blames}

byte_found : (at : ℕ) (text : List ℕ) (place : ℕ) → byte_at at text ≡ Err place → Missing 1 at text place
unfolding byte_at
byte_found at [] place e = (sym (err_is at place e), omega arith)
byte_found at (c ∷ rest) place e = absurd (not_err (c, at + 1, rest) place e)

byte_only : (at : ℕ) (text : List ℕ) (place : ℕ) → Missing 1 at text place → byte_at at text ≡ Err place
unfolding byte_at
byte_only at [] place f = ap (λ (p : ℕ). Err p) (sym f.0)
byte_only at (c ∷ rest) place f = absurd (omega (arith, f.1))

pub byte_blames : Blames byte_at (Missing 1)
byte_blames = record { found = λ at text place fits e. byte_found at text place e; only = byte_only }

byte_knows : Knows byte_at (λ at n. n < 2 ^ 8) (λ n at. n ∷ [])
unfolding byte_at
byte_knows = record {
  took = λ at text x fits h. let t = byte_reads at text x fits h in (t.0, omega (arith, t.1));
  again = λ at n rest lt. refl;
}

-- ---- signatures

abbrev types_in : ℕ → Reader (List ℕ)
types_in n at text = kinds_at (length (take n text)) at (take n text) >>= λ kinds. closed_at (take n text) (at + length (take n text)) (drop n text)

signature_steps : (at : ℕ) (text : List ℕ) → signature_at at text ≡ (byte_at at text >>= λ n. types_in n.0 n.1 n.2)
unfolding signature_at codes_at byte_at
signature_steps at [] = refl
signature_steps at (c ∷ rest) = refl

types_blame : (n : ℕ) → Blames (types_in n) (CodesFault AreTypes n)
types_blame n = record {
  found = λ at text place fits e.
      let front = take n text in
      elim (bind_err (kinds_at (length front) at front) (λ kinds. closed_at front (at + length front) (drop n text)) place e) [
        | inl failed ↦ let f = kinds_fault at front place failed in inl (f.0, f.2, f.1)
        | inr done ↦
            let t = kinds_take (length front) at front done.0 done.1 in
            inr ((done.0, t.0, t.1), (zero_blames front).found (at + length front) (drop n text) place (bytes_drop n text fits) done.2)
      ];
  only = λ at text place f.
      let front = take n text in
      elim f [
        | inl failed ↦ rw (kinds_fault_only at front failed.0 failed.1) (ap (λ (p : ℕ). Err p) (sym failed.2))
        | inr done ↦ rw (read_types (length front) at front (omega arith) done.0) ((zero_blames front).only (at + length front) (drop n text) place done.1)
      ];
}

pub signature_blames : Blames signature_at (SignatureFault AreTypes)
signature_blames = blames_along signature_at (λ at text. byte_at at text >>= λ n. types_in n.0 n.1 n.2) (SignatureFault AreTypes) signature_steps
    (then_blames byte_at types_in (Missing 1) (λ at n. n < 2 ^ 8) (λ n at. n ∷ []) (CodesFault AreTypes) byte_knows byte_blames (λ at n lt. types_blame n))

-- ---- a single type

abbrev type_in : ℕ → Reader (Kind × List ℕ)
type_in n at text = kind_at 32 32 at (take n text) >>= λ kind. one_type_of (take n text) (at + length (take n text)) (drop n text) kind

type_steps : (at : ℕ) (text : List ℕ) → type_at at text ≡ (byte_at at text >>= λ n. type_in n.0 n.1 n.2)
unfolding type_at codes_at byte_at
type_steps at [] = refl
type_steps at (c ∷ rest) = refl

type_found : (n at : ℕ) (text : List ℕ) (place : ℕ) → IsBytes text → type_in n at text ≡ Err place → CodesFault IsType n at text place
type_found n at text place fits e =
    let front = take n text in
    elim (bind_err (kind_at 32 32 at front) (λ kind. one_type_of front (at + length front) (drop n text) kind) place e) [
      | inl failed ↦ let f = type_fault at front place (inl failed) in inl (f.0, f.2, f.1)
      | inr done ↦
          let x = done.0 in
          elim (chosen (eqb (length x.2) 0) (closed_at (x.0, front) (at + length front) (drop n text)) (Err x.1) (Err place) done.2) [
            | inr p ↦
                let f = type_fault at front place (inr (x, done.1, some x.2 p.0, sym (err_is x.1 place p.1))) in
                inl (f.0, f.2, f.1)
            | inl p ↦
                let t = kind_takes 64 32 32 (omega arith) at front x done.1 in
                let whole : front ≡ codes x.0 = t.0.parts ∙ ap (λ (r : List ℕ). codes x.0 ++ r) (nil_from_length x.2 (eqb-true (length x.2) 0 p.0)) ∙ append-nil (codes x.0) in
                inr ((x.0, whole, t.1), (zero_blames (x.0, front)).found (at + length front) (drop n text) place (bytes_drop n text fits) p.1)
          ]
    ]
  where
    some : (rest : List ℕ) → eqb (length rest) 0 ≡ false → 0 < length rest
    some [] isnt = absurd (eqb-false 0 0 isnt refl)
    some (c ∷ rest) isnt = omega arith

type_only : (n at : ℕ) (text : List ℕ) (place : ℕ) → CodesFault IsType n at text place → type_in n at text ≡ Err place
type_only n at text place (inl failed) =
    let front = take n text in
    elim (type_fault_only at front failed.0 failed.1) [
      | inl e ↦ rw e (ap (λ (p : ℕ). Err p) (sym failed.2))
      | inr left ↦ rw (left.1, ne_eqb (length left.0.2) 0 (λ none. absurd (omega (arith, left.2)))) (ap (λ (p : ℕ). Err p) (omega (arith, left.3, failed.2)))
    ]
type_only n at text place (inr done) =
    let front = take n text in
    rw (read_type at front done.0) ((zero_blames {A = Kind × List ℕ} (done.0.0, front)).only (at + length front) (drop n text) place done.1)

pub type_blames : Blames type_at (SignatureFault IsType)
type_blames = blames_along type_at (λ at text. byte_at at text >>= λ n. type_in n.0 n.1 n.2) (SignatureFault IsType) type_steps
    (then_blames byte_at type_in (Missing 1) (λ at n. n < 2 ^ 8) (λ n at. n ∷ []) (CodesFault IsType) byte_knows byte_blames
    (λ at n lt. record { found = type_found n; only = type_only n }))

pub type_knows : Knows type_at (λ at x. SpellsType x.1 x.0) (λ x at. signature_spelling x.1)
type_knows = record {
  took = λ at text x fits h. type_takes at text x fits h;
  again = λ at x rest is. type_again x.1 x.0 at rest is;
}
