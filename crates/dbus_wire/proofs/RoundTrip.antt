-- The laws of spelling and reading.
use Rattle.std.proofs.Common.{◌≡◌, ℕ, ◌+◌, List, [], ◌++◌, length, drop, Ok, refl, sym, ap, ◌∙◌}
use Rattle.std.proofs.lemmas.List.{append-nil, drop_at}
use Rattle.dbus_signature.specs.declared.kind.Kind.{Kind}
use Rattle.dbus_signature.specs.Reading.{Read}
use Rattle.dbus_signature.proofs.Sound.{ok_is}
use Rattle.dbus_wire.specs.declared.value.Endian.{Endian}
use Rattle.dbus_wire.specs.declared.value.Value.{Value}
use Rattle.dbus_wire.specs.Values.{value_at, value_of, max_open}
use Rattle.dbus_wire.specs.Spelling.{spelling}
use Rattle.dbus_wire.specs.Fits.{Fits, Spells}
use Rattle.dbus_wire.proofs.ValueAgain.{value_again}

read_again : (e : Endian) (k : Kind) (at : ℕ) (text : List ℕ) (v : Value) (rest : List ℕ) → Spells e k at text v → value_at e max_open k at (text ++ rest) ≡ Ok (v, at + length text, rest)
read_again e k at text v rest s = rw s.bytes_are (value_again e max_open k at v rest s.fits)

pub spelt_is_read : (e : Endian) (k : Kind) (offset : ℕ) (bytes text after : List ℕ) (v : Value) → Spells e k offset text v → drop offset bytes ≡ text ++ after → value_of e k offset bytes ≡ Ok (v, offset + length text)
spelt_is_read e k offset bytes text after v s split = rw (split, read_again e k offset text v after s) refl

abbrev read : Value → ℕ → List ℕ → Read Value
read v at rest = Ok (v, at, rest)

same_value : (v w : Value) (m n : ℕ) (r s : List ℕ) → read v m r ≡ read w n s → (v ≡ w) × (r ≡ s)
same_value v w m n r s e =
    let same = ok_is (v, m, r) (w, n, s) e in
    (ap (λ (x : Value × ℕ × List ℕ). x.0) same, ap (λ (x : Value × ℕ × List ℕ). x.2) same)

pub no_prefix : (e : Endian) (k : Kind) (at : ℕ) (a b more : List ℕ) (v w : Value) → Spells e k at a v → Spells e k at b w → b ≡ a ++ more → (v ≡ w) × (more ≡ [])
no_prefix e k at a b more v w s t split =
    let first : value_at e max_open k at b ≡ read v (at + length a) more = rw split (read_again e k at a v more s) in
    let second : value_at e max_open k at b ≡ read w (at + length b) [] = ap (value_at e max_open k at) (sym (append-nil b)) ∙ read_again e k at b w [] t in
    same_value v w (at + length a) (at + length b) more [] (sym first ∙ second)

pub written_again : (e : Endian) (k : Kind) (v : Value) (before after : List ℕ) → Fits e max_open k (length before) v
    → value_of e k (length before) (before ++ (spelling e v (length before) ++ after)) ≡ Ok (v, length before + length (spelling e v (length before)))
written_again e k v before after fits =
    spelt_is_read e k (length before) (before ++ (spelling e v (length before) ++ after)) (spelling e v (length before)) after v (record { fits = fits; bytes_are = refl })
    (drop_at before (spelling e v (length before) ++ after) (length before) refl)
