-- Each field that is spelt is read, whatever follows it.
use Rattle.std.proofs.Common.{◌≡◌, ℕ, zero, suc, ◌+◌, ◌^◌, ◌<◌, ◌≤◌, Bool, true, false, ltb, List, [], ◌∷◌, ◌++◌, length, Ok, refl, sym, ap, ◌∙◌, append_assoc, arith}
use Rattle.std.specs.Prelude.{replicate}
use Rattle.std.specs.Int.{Width, w16, w32, w64, byte_len}
use Rattle.std.proofs.lemmas.Bool.{le-ltb}
use Rattle.std.proofs.lemmas.List.{take_at, drop_at, append-nil, length-append, length-replicate}
use Rattle.std.proofs.lemmas.Nat.{from_le_bytes-to_le_bytes_2, from_le_bytes-to_le_bytes_4, from_le_bytes-to_le_bytes_8, from_be_bytes-to_be_bytes_2, from_be_bytes-to_be_bytes_4, from_be_bytes-to_be_bytes_8}
use Rattle.dbus_signature.specs.declared.kind.Kind.{Kind}
use Rattle.dbus_signature.specs.Reading.{Read}
use Rattle.dbus_signature.specs.Types.{codes}
use Rattle.dbus_signature.specs.Signatures.{kind_at, kinds_at, IsSignature, SpellsType}
use Rattle.dbus_signature.proofs.Complete.{kind_again, count_le}
use Rattle.dbus_signature.proofs.Whole.{kinds_again}
use Rattle.dbus_wire.specs.declared.value.Endian.{Endian}
use Rattle.dbus_wire.specs.declared.value.Endian.TheVariants.{Little, Big}
use Rattle.dbus_wire.specs.Fields.{gap, zeros_at, padding_at, from_bytes, number_at, aligned_at, bool_of, bool_at, ended_at, text_at, byte_at, codes_at, signature_at, type_at}
use Rattle.dbus_wire.specs.Spelling.{padding, to_bytes, aligned, bit, text_spelling, signature_spelling}

abbrev pub found : {A : Type 0} → A → ℕ → List ℕ → Read A
found x at rest = Ok (x, at, rest)

pub moved_to : {A : Type 0} (x : A) (m n : ℕ) (rest : List ℕ) → m ≡ n → found x m rest ≡ found x n rest
moved_to {A} x m n rest e = ap (λ (k : ℕ). found x k rest) e

zeros_again : (n at : ℕ) (rest : List ℕ) → zeros_at n at (replicate n 0 ++ rest) ≡ found tt (at + n) rest
unfolding zeros_at
zeros_again zero at rest = moved_to tt at (at + 0) rest (omega arith)
zeros_again (suc n) at rest = zeros_again n (at + 1) rest ∙ moved_to tt (at + 1 + n) (at + suc n) rest (omega arith)

pub nul_again : (at : ℕ) (rest : List ℕ) → zeros_at 1 at (0 ∷ rest) ≡ found tt (at + 1) rest
nul_again at rest = zeros_again 1 at rest

pub padding_again : (align at : ℕ) (rest : List ℕ) → padding_at align at (padding align at ++ rest) ≡ found tt (at + length (padding align at)) rest
unfolding padding_at
padding_again align at rest = zeros_again (gap align at) at rest ∙ moved_to tt (at + gap align at) (at + length (padding align at)) rest (ap (λ (n : ℕ). at + n) (sym (length-replicate (gap align at) 0)))

-- ---- numbers

pub record IsWide (e : Endian) (w : Width) (limit : ℕ) : Type 0 where
  pub len : (n : ℕ) → length (to_bytes e w n) ≡ byte_len w
  pub again : (n : ℕ) → n < limit → from_bytes e w (to_bytes e w n) ≡ n

pub wide16 : (e : Endian) → IsWide e w16 (2 ^ 16)
wide16 Little = record { len = λ n. refl; again = λ n lt. from_le_bytes-to_le_bytes_2 n lt }
wide16 Big = record { len = λ n. refl; again = λ n lt. from_be_bytes-to_be_bytes_2 n lt }

pub wide32 : (e : Endian) → IsWide e w32 (2 ^ 32)
wide32 Little = record { len = λ n. refl; again = λ n lt. from_le_bytes-to_le_bytes_4 n lt }
wide32 Big = record { len = λ n. refl; again = λ n lt. from_be_bytes-to_be_bytes_4 n lt }

pub wide64 : (e : Endian) → IsWide e w64 (2 ^ 64)
wide64 Little = record { len = λ n. refl; again = λ n lt. from_le_bytes-to_le_bytes_8 n lt }
wide64 Big = record { len = λ n. refl; again = λ n lt. from_be_bytes-to_be_bytes_8 n lt }

pub number_again : (e : Endian) (w : Width) (limit : ℕ) → IsWide e w limit → (n at : ℕ) (rest : List ℕ) → n < limit → number_at e w at (to_bytes e w n ++ rest) ≡ found n (at + byte_len w) rest
number_again e w limit wide n at rest lt =
    let len = wide.len n in
    let long : ltb (length (to_bytes e w n ++ rest)) (byte_len w) ≡ false = le-ltb _ _ (omega (arith, length-append (to_bytes e w n) rest)) in
    rw (long, take_at (to_bytes e w n) rest (byte_len w) len, drop_at (to_bytes e w n) rest (byte_len w) len, wide.again n lt) refl

pub aligned_again : (e : Endian) (w : Width) (limit : ℕ) → IsWide e w limit → (n at : ℕ) (rest : List ℕ) → n < limit → aligned_at e w at (aligned e w n at ++ rest) ≡ found n (at + length (aligned e w n at)) rest
unfolding aligned_at
aligned_again e w limit wide n at rest lt =
    let pad = padding (byte_len w) at in
    let regrouped : (pad ++ to_bytes e w n) ++ rest ≡ pad ++ (to_bytes e w n ++ rest) = append_assoc pad (to_bytes e w n) rest in
    rw (regrouped, padding_again (byte_len w) at (to_bytes e w n ++ rest), number_again e w limit wide n (at + length pad) rest lt)
    (moved_to n _ _ rest (omega (arith, length-append pad (to_bytes e w n), wide.len n)))

bit_small : (b : Bool) → bit b < 2 ^ 32
bit_small true = omega arith
bit_small false = omega arith

bit_again : (b : Bool) (place at : ℕ) (rest : List ℕ) → bool_of place (bit b, at, rest) ≡ found b at rest
bit_again true place at rest = refl
bit_again false place at rest = refl

pub bool_again : (e : Endian) (b : Bool) (at : ℕ) (rest : List ℕ) → bool_at e at (aligned e w32 (bit b) at ++ rest) ≡ found b (at + length (aligned e w32 (bit b) at)) rest
unfolding bool_at
bool_again e b at rest =
    let pad = padding 4 at in
    let number = to_bytes e w32 (bit b) in
    let regrouped : (pad ++ number) ++ rest ≡ pad ++ (number ++ rest) = append_assoc pad number rest in
    rw (regrouped, padding_again 4 at (number ++ rest), number_again e w32 (2 ^ 32) (wide32 e) (bit b) (at + length pad) rest (bit_small b))
    (bit_again b (at + length pad) (at + length pad + 4) rest ∙ moved_to b _ _ rest (omega (arith, length-append pad number, (wide32 e).len (bit b))))

-- ---- texts

ended_again : (is_valid : List ℕ → Bool) (text : List ℕ) (at : ℕ) (rest : List ℕ) → is_valid text ≡ true → ended_at is_valid (length text) at (text ++ (0 ∷ rest)) ≡ found text (at + length text + 1) rest
unfolding ended_at
ended_again is_valid text at rest valid =
    let long : ltb (length (text ++ (0 ∷ rest))) (length text) ≡ false = le-ltb _ _ (omega (arith, length-append text (0 ∷ rest))) in
    rw (long, take_at text (0 ∷ rest) (length text) refl, drop_at text (0 ∷ rest) (length text) refl, valid, nul_again (at + length text) rest) refl

pub text_again : (is_valid : List ℕ → Bool) (e : Endian) (text : List ℕ) (at : ℕ) (rest : List ℕ) → is_valid text ≡ true → length text < 2 ^ 32
    → text_at is_valid e at (text_spelling e text at ++ rest) ≡ found text (at + length (text_spelling e text at)) rest
unfolding text_at
text_again is_valid e text at rest valid short =
    let head = aligned e w32 (length text) at in
    let regrouped : (head ++ (text ++ 0 ∷ [])) ++ rest ≡ head ++ (text ++ (0 ∷ rest)) = append_assoc head (text ++ 0 ∷ []) rest ∙ ap (λ (t : List ℕ). head ++ t) (append_assoc text (0 ∷ []) rest) in
    rw (regrouped, aligned_again e w32 (2 ^ 32) (wide32 e) (length text) at (text ++ (0 ∷ rest)) short, ended_again is_valid text (at + length head) rest valid)
    (moved_to text _ _ rest (omega (arith, length-append head (text ++ 0 ∷ []), length-append text (0 ∷ []))))

-- ---- signatures

codes_again : (codes : List ℕ) (s : IsSignature codes) (at : ℕ) → kinds_at (length codes) at codes ≡ Ok s.kinds
codes_again codes s at =
    let enough : length s.kinds ≤ length codes = omega (arith, count_le s.kinds, ap length s.spelt) in
    ap (kinds_at (length codes) at) s.spelt ∙ kinds_again s.kinds (length codes) at enough s.nested

pub signature_again : (codes : List ℕ) (at : ℕ) (rest : List ℕ) → IsSignature codes → signature_at at (signature_spelling codes ++ rest) ≡ found codes (at + length (signature_spelling codes)) rest
unfolding signature_at codes_at byte_at
signature_again codes at rest s =
    let regrouped : (codes ++ 0 ∷ []) ++ rest ≡ codes ++ (0 ∷ rest) = append_assoc codes (0 ∷ []) rest in
    rw (regrouped, take_at codes (0 ∷ rest) (length codes) refl, drop_at codes (0 ∷ rest) (length codes) refl, codes_again codes s (at + 1), nul_again (at + 1 + length codes) rest)
    (moved_to codes _ _ rest (omega (arith, length-append codes (0 ∷ []))))

pub type_again : (text : List ℕ) (kind : Kind) (at : ℕ) (rest : List ℕ) → SpellsType text kind → type_at at (signature_spelling text ++ rest) ≡ found (kind, text) (at + length (signature_spelling text)) rest
unfolding type_at codes_at byte_at
type_again text kind at rest s =
    let regrouped : (text ++ 0 ∷ []) ++ rest ≡ text ++ (0 ∷ rest) = append_assoc text (0 ∷ []) rest in
    let one : kind_at 32 32 (at + 1) text ≡ Ok (kind, at + 1 + length (codes kind), []) = ap (kind_at 32 32 (at + 1)) (s.spelt ∙ sym (append-nil (codes kind))) ∙ kind_again 64 32 32 (omega arith) kind (at + 1) [] s.nested in
    rw (regrouped, take_at text (0 ∷ rest) (length text) refl, drop_at text (0 ∷ rest) (length text) refl, one, nul_again (at + 1 + length text) rest)
    (moved_to (kind, text) _ _ rest (omega (arith, length-append text (0 ∷ []))))
