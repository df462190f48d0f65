-- What is read of a field is its spelling.
use Rattle.std.proofs.Common.{◌≡◌, ℕ, zero, suc, ◌+◌, ◌^◌, ◌<◌, ◌≤◌, Bool, true, false, cond, ltb, eqb, List, [], ◌∷◌, ◌++◌, length, get_or, take, drop, Ok, Err, refl, sym, ap, subst, ◌∙◌, append_assoc, arith, inl, inr}
use Rattle.std.specs.Prelude.{replicate}
use Rattle.std.specs.Int.{Width, w16, w32, w64, byte_len}
use Rattle.std.proofs.lemmas.Bool.{ltb-false, eqb-true}
use Rattle.std.proofs.lemmas.List.{take-append-drop, length-append, length-take, length-drop, get_or-drop, get_or-take, get_or_past, drop_at}
use Rattle.std.proofs.lemmas.Bool.{cases_lt}
use Rattle.std.proofs.lemmas.Nat.{le_bytes_2, le_bytes_4, le_bytes_8, be_bytes_2, be_bytes_4, be_bytes_8}
use Rattle.dbus_signature.specs.declared.kind.Kind.{Kind}
use Rattle.dbus_signature.specs.Reading.{◌>>=◌}
use Rattle.dbus_signature.specs.Signatures.{kind_at, kinds_at, IsSignature, SpellsType}
use Rattle.dbus_signature.proofs.Sound.{bind_ok, ok_is, not_ok, chosen, Takes, Takes-then}
use Rattle.dbus_wire.specs.declared.value.Endian.{Endian}
use Rattle.dbus_wire.specs.declared.value.Endian.TheVariants.{Little, Big}
use Rattle.dbus_wire.specs.Fields.{gap, zeros_at, padding_at, from_bytes, number_at, aligned_at, bool_of, bool_at, ended_at, text_at, byte_at, closed_at, codes_at, signature_at, one_type_of, type_at}
use Rattle.dbus_wire.specs.Spelling.{padding, to_bytes, aligned, bit, text_spelling, signature_spelling}
use Rattle.dbus_wire.proofs.StringLaws.{codes_signature, one_type_spelt}

abbrev pub IsBytes : List ℕ → Type 0
IsBytes bytes = (i : ℕ) → get_or bytes i 0 < 256

pub bytes_drop : (n : ℕ) (bytes : List ℕ) → IsBytes bytes → IsBytes (drop n bytes)
bytes_drop n bytes h i = rw get_or-drop (h (n + i))

pub bytes_take : (n : ℕ) (bytes : List ℕ) → IsBytes bytes → IsBytes (take n bytes)
bytes_take n bytes h i =
    elim (cases_lt i n) [
      | inl lt ↦ rw (get_or-take n bytes i 0 lt) (h i)
      | inr le ↦ rw (get_or_past (take n bytes) i 0 (omega (arith, length-take n bytes))) (omega arith)
    ]

pub bytes_rest : (at : ℕ) (text taken : List ℕ) (next : ℕ) (rest : List ℕ) → Takes at text taken next rest → IsBytes text → IsBytes rest
bytes_rest at text taken next rest t h =
    let is : drop (length taken) text ≡ rest = ap (drop (length taken)) t.parts ∙ drop_at taken rest (length taken) refl in
    subst IsBytes is (bytes_drop (length taken) text h)

zeros_take : (n at : ℕ) (text : List ℕ) (x : Unit {0} × ℕ × List ℕ) → zeros_at n at text ≡ Ok x → Takes at text (replicate n 0) x.1 x.2
unfolding zeros_at
zeros_take zero at text x e = subst (λ (y : Unit {0} × ℕ × List ℕ). Takes at text [] y.1 y.2) (ok_is (tt, at, text) x e) (record { parts = refl; moved = omega arith })
zeros_take (suc n) at [] x e = absurd (not_ok at x e)
zeros_take (suc n) at (c ∷ rest) x e =
    elim (chosen (eqb c 0) (zeros_at n (at + 1) rest) (Err at) (Ok x) e) [
      | inl p ↦
          let t = zeros_take n (at + 1) rest x p.1 in
          record { parts = ap (λ (l : ℕ). l ∷ rest) (eqb-true c 0 p.0) ∙ ap (λ (l : List ℕ). 0 ∷ l) t.parts; moved = omega (arith, t.moved) }
      | inr p ↦ absurd (not_ok at x p.1)
    ]

pub padding_takes : (align at : ℕ) (text : List ℕ) (x : Unit {0} × ℕ × List ℕ) → padding_at align at text ≡ Ok x → Takes at text (padding align at) x.1 x.2
unfolding padding_at
padding_takes align at text x e = zeros_take (gap align at) at text x e

pub nul_takes : (at : ℕ) (text : List ℕ) (x : Unit {0} × ℕ × List ℕ) → zeros_at 1 at text ≡ Ok x → Takes at text (0 ∷ []) x.1 x.2
nul_takes at text x e = zeros_take 1 at text x e

-- ---- numbers

pub record IsExact (e : Endian) (w : Width) (limit : ℕ) : Type 0 where
  pub len : (n : ℕ) → length (to_bytes e w n) ≡ byte_len w
  pub back : (bytes : List ℕ) → length bytes ≡ byte_len w → IsBytes bytes → to_bytes e w (from_bytes e w bytes) ≡ bytes
  pub below : (bytes : List ℕ) → IsBytes bytes → from_bytes e w bytes < limit

pub exact16 : (e : Endian) → IsExact e w16 (2 ^ 16)
exact16 Little = record { len = λ n. refl; back = λ bytes len fits. le_bytes_2 bytes _ len fits refl; below = λ bytes fits. omega (arith, fits 0, fits 1) }
exact16 Big = record { len = λ n. refl; back = λ bytes len fits. be_bytes_2 bytes _ len fits refl; below = λ bytes fits. omega (arith, fits 0, fits 1) }

pub exact32 : (e : Endian) → IsExact e w32 (2 ^ 32)
exact32 Little = record { len = λ n. refl; back = λ bytes len fits. le_bytes_4 bytes _ len fits refl; below = λ bytes fits. omega (arith, fits 0, fits 1, fits 2, fits 3) }
exact32 Big = record { len = λ n. refl; back = λ bytes len fits. be_bytes_4 bytes _ len fits refl; below = λ bytes fits. omega (arith, fits 0, fits 1, fits 2, fits 3) }

pub exact64 : (e : Endian) → IsExact e w64 (2 ^ 64)
exact64 Little = record { len = λ n. refl; back = λ bytes len fits. le_bytes_8 bytes _ len fits refl; below = λ bytes fits. omega (arith, fits 0, fits 1, fits 2, fits 3, fits 4, fits 5, fits 6, fits 7) }
exact64 Big = record { len = λ n. refl; back = λ bytes len fits. be_bytes_8 bytes _ len fits refl; below = λ bytes fits. omega (arith, fits 0, fits 1, fits 2, fits 3, fits 4, fits 5, fits 6, fits 7) }

pub number_takes : (e : Endian) (w : Width) (limit : ℕ) → IsExact e w limit → (at : ℕ) (text : List ℕ) (x : ℕ × ℕ × List ℕ) → IsBytes text → number_at e w at text ≡ Ok x → Takes at text (to_bytes e w x.0) x.1 x.2 × (x.0 < limit)
number_takes e w limit exact at text x fits h =
    elim (chosen (ltb (length text) (byte_len w)) (Err at) (Ok (from_bytes e w (take (byte_len w) text), at + byte_len w, drop (byte_len w) text)) (Ok x) h) [
      | inl p ↦ absurd (not_ok at x p.1)
      | inr p ↦
          let front = take (byte_len w) text in
          let long : byte_len w ≤ length text = ltb-false _ _ p.0 in
          let len : length front ≡ byte_len w = omega (arith, length-take (byte_len w) text) in
          let small = bytes_take (byte_len w) text fits in
          let back = exact.back front len small in
          subst (λ (y : ℕ × ℕ × List ℕ). Takes at text (to_bytes e w y.0) y.1 y.2 × (y.0 < limit)) (ok_is (from_bytes e w front, at + byte_len w, drop (byte_len w) text) x p.1)
          (record { parts = rw back (sym (take-append-drop (byte_len w) text)); moved = rw (exact.len (from_bytes e w front)) refl }, exact.below front small)
    ]

pub aligned_takes : (e : Endian) (w : Width) (limit : ℕ) → IsExact e w limit → (at : ℕ) (text : List ℕ) (x : ℕ × ℕ × List ℕ) → IsBytes text → aligned_at e w at text ≡ Ok x → Takes at text (aligned e w x.0 at) x.1 x.2 × (x.0 < limit)
unfolding aligned_at
aligned_takes e w limit exact at text x fits h =
    let s = bind_ok (padding_at (byte_len w) at text) (λ start. number_at e w start.1 start.2) x h in
    let p = padding_takes (byte_len w) at text s.0 s.1 in
    let n = number_takes e w limit exact s.0.1 s.0.2 x (bytes_rest at text (padding (byte_len w) at) s.0.1 s.0.2 p fits) s.2 in
    (Takes-then at text (padding (byte_len w) at) s.0.1 s.0.2 (to_bytes e w x.0) x.1 x.2 p n.0, n.1)

bit_is : (place : ℕ) (n : ℕ × ℕ × List ℕ) (x : Bool × ℕ × List ℕ) → bool_of place n ≡ Ok x → (n.0 ≡ bit x.0) × (n.1 ≡ x.1) × (n.2 ≡ x.2)
bit_is place n x h =
    elim (chosen (eqb n.0 0) (Ok (false, n.1, n.2)) (cond (eqb n.0 1) (Ok (true, n.1, n.2)) (Err place)) (Ok x) h) [
      | inl p ↦ let same = ok_is (false, n.1, n.2) x p.1 in subst (λ (y : Bool × ℕ × List ℕ). (n.0 ≡ bit y.0) × (n.1 ≡ y.1) × (n.2 ≡ y.2)) same (eqb-true n.0 0 p.0, refl, refl)
      | inr p ↦ elim (chosen (eqb n.0 1) (Ok (true, n.1, n.2)) (Err place) (Ok x) p.1) [
        | inl q ↦ let same = ok_is (true, n.1, n.2) x q.1 in subst (λ (y : Bool × ℕ × List ℕ). (n.0 ≡ bit y.0) × (n.1 ≡ y.1) × (n.2 ≡ y.2)) same (eqb-true n.0 1 q.0, refl, refl)
        | inr q ↦ absurd (not_ok place x q.1)
      ]
    ]

same_takes : (at : ℕ) (text a b : List ℕ) (m n : ℕ) (r s : List ℕ) → Takes at text a m r → a ≡ b → m ≡ n → r ≡ s → Takes at text b n s
same_takes at text a b m n r s t p q u = record {
  parts = t.parts ∙ ap (λ (l : List ℕ). l ++ r) p ∙ ap (λ (l : List ℕ). b ++ l) u;
  moved = sym q ∙ t.moved ∙ ap (λ (l : List ℕ). at + length l) p;
}

pub bool_takes : (e : Endian) (at : ℕ) (text : List ℕ) (x : Bool × ℕ × List ℕ) → IsBytes text → bool_at e at text ≡ Ok x → Takes at text (aligned e w32 (bit x.0) at) x.1 x.2
unfolding bool_at
bool_takes e at text x fits h =
    let s = bind_ok (padding_at 4 at text) (λ start. number_at e w32 start.1 start.2 >>= λ number. bool_of start.1 number) x h in
    let n = bind_ok (number_at e w32 s.0.1 s.0.2) (λ number. bool_of s.0.1 number) x s.2 in
    let p = padding_takes 4 at text s.0 s.1 in
    let t = number_takes e w32 (2 ^ 32) (exact32 e) s.0.1 s.0.2 n.0 (bytes_rest at text (padding 4 at) s.0.1 s.0.2 p fits) n.1 in
    let b = bit_is s.0.1 n.0 x n.2 in
    let whole = Takes-then at text (padding 4 at) s.0.1 s.0.2 (to_bytes e w32 n.0.0) n.0.1 n.0.2 p t.0 in
    same_takes at text _ _ n.0.1 x.1 n.0.2 x.2 whole (ap (λ (k : ℕ). padding 4 at ++ to_bytes e w32 k) b.0) b.1 b.2

-- ---- texts

ended_takes : (is_valid : List ℕ → Bool) (n at : ℕ) (text : List ℕ) (x : List ℕ × ℕ × List ℕ) → ended_at is_valid n at text ≡ Ok x → Takes at text (x.0 ++ 0 ∷ []) x.1 x.2 × (is_valid x.0 ≡ true) × (length x.0 ≡ n)
unfolding ended_at
ended_takes is_valid n at text x h =
    elim (chosen (ltb (length text) n) (Err at) _ (Ok x) h) [
      | inl p ↦ absurd (not_ok at x p.1)
      | inr p ↦ elim (chosen (is_valid (take n text)) (zeros_at 1 (at + n) (drop n text) >>= λ nul. Ok (take n text, nul.1, nul.2)) (Err at) (Ok x) p.1) [
        | inr q ↦ absurd (not_ok at x q.1)
        | inl q ↦
            let front = take n text in
            let long : n ≤ length text = ltb-false _ _ p.0 in
            let len : length front ≡ n = omega (arith, length-take n text) in
            let z = bind_ok (zeros_at 1 (at + n) (drop n text)) (λ nul. Ok (take n text, nul.1, nul.2)) x q.1 in
            let t = nul_takes (at + n) (drop n text) z.0 z.1 in
            let head : Takes at text front (at + n) (drop n text) = record { parts = sym (take-append-drop n text); moved = rw len refl } in
            subst (λ (y : List ℕ × ℕ × List ℕ). Takes at text (y.0 ++ 0 ∷ []) y.1 y.2 × (is_valid y.0 ≡ true) × (length y.0 ≡ n)) (ok_is (front, z.0.1, z.0.2) x z.2)
            (Takes-then at text front (at + n) (drop n text) (0 ∷ []) z.0.1 z.0.2 head t, q.0, len)
      ]
    ]

pub text_takes : (is_valid : List ℕ → Bool) (e : Endian) (at : ℕ) (text : List ℕ) (x : List ℕ × ℕ × List ℕ) → IsBytes text → text_at is_valid e at text ≡ Ok x
    → Takes at text (text_spelling e x.0 at) x.1 x.2 × (is_valid x.0 ≡ true) × (length x.0 < 2 ^ 32)
unfolding text_at
text_takes is_valid e at text x fits h =
    let n = bind_ok (aligned_at e w32 at text) (λ n. ended_at is_valid n.0 n.1 n.2) x h in
    let t = aligned_takes e w32 (2 ^ 32) (exact32 e) at text n.0 fits n.1 in
    let u = ended_takes is_valid n.0.0 n.0.1 n.0.2 x n.2 in
    let head : Takes at text (aligned e w32 (length x.0) at) n.0.1 n.0.2 = rw u.2 t.0 in
    (Takes-then at text (aligned e w32 (length x.0) at) n.0.1 n.0.2 (x.0 ++ 0 ∷ []) x.1 x.2 head u.0, u.1, rw u.2 t.1)

-- ---- signatures

byte_takes : (at : ℕ) (text : List ℕ) (x : ℕ × ℕ × List ℕ) → byte_at at text ≡ Ok x → Takes at text (x.0 ∷ []) x.1 x.2
unfolding byte_at
byte_takes at [] x h = absurd (not_ok at x h)
byte_takes at (c ∷ rest) x h = subst (λ (y : ℕ × ℕ × List ℕ). Takes at (c ∷ rest) (y.0 ∷ []) y.1 y.2) (ok_is (c, at + 1, rest) x h) (record { parts = refl; moved = refl })

pub byte_reads : (at : ℕ) (text : List ℕ) (x : ℕ × ℕ × List ℕ) → IsBytes text → byte_at at text ≡ Ok x → Takes at text (x.0 ∷ []) x.1 x.2 × (x.0 < 256)
byte_reads at text x fits h =
    let t = byte_takes at text x h in
    let first : get_or text 0 0 ≡ x.0 = ap (λ (l : List ℕ). get_or l 0 0) t.parts in
    (t, omega (arith, fits 0, first))

-- The codes were taken behind their length, as many as were there; and what is left, if their NUL stands there.
record TookCodes (at : ℕ) (text : List ℕ) (x : (ℕ × List ℕ) × ℕ × List ℕ) : Type 0 where
  count : ℕ
  below : count < 256
  place : x.0.0 ≡ at + 1
  behind : x.1 ≡ x.0.0 + length x.0.1
  short : length x.0.1 ≤ count
  left : List ℕ
  parts : text ≡ count ∷ left
  codes : x.0.1 ≡ take count left
  others : x.2 ≡ drop count left

codes_take : (at : ℕ) (text : List ℕ) (x : (ℕ × List ℕ) × ℕ × List ℕ) → IsBytes text → codes_at at text ≡ Ok x → TookCodes at text x
unfolding codes_at
codes_take at text x fits h =
    let n = bind_ok (byte_at at text) (λ n. Ok ((n.1, take n.0 n.2), n.1 + length (take n.0 n.2), drop n.0 n.2)) x h in
    let b = byte_reads at text n.0 fits n.1 in
    subst (λ (y : (ℕ × List ℕ) × ℕ × List ℕ). TookCodes at text y) (ok_is ((n.0.1, take n.0.0 n.0.2), n.0.1 + length (take n.0.0 n.0.2), drop n.0.0 n.0.2) x n.2)
    (record { count = n.0.0; below = b.1; place = b.0.moved; behind = refl; short = omega (arith, length-take n.0.0 n.0.2); left = n.0.2; parts = b.0.parts; codes = refl; others = refl })

-- with its NUL the signature was taken
closed_takes : {A : Type 0} (y : A) (at : ℕ) (text : List ℕ) (c : (ℕ × List ℕ) × ℕ × List ℕ) (x : A × ℕ × List ℕ) → TookCodes at text c → closed_at y c.1 c.2 ≡ Ok x → Takes at text (signature_spelling c.0.1) x.1 x.2 × (y ≡ x.0)
closed_takes {A} y at text c x t h =
    let z = bind_ok (zeros_at 1 c.1 c.2) (λ nul. Ok (y, nul.1, nul.2)) x h in
    let n = nul_takes c.1 c.2 z.0 z.1 in
    let long : length (drop t.count t.left) ≡ suc (length z.0.2) = ap length (sym t.others ∙ n.parts) in
    let len : length (take t.count t.left) ≡ t.count = omega (arith, length-take t.count t.left, length-drop t.count t.left) in
    let count : t.count ≡ length c.0.1 = sym len ∙ ap length (sym t.codes) in
    let whole : t.left ≡ c.0.1 ++ (0 ∷ z.0.2) = sym (take-append-drop t.count t.left) ∙ ap (λ (l : List ℕ). l ++ drop t.count t.left) (sym t.codes) ∙ ap (λ (l : List ℕ). c.0.1 ++ l) (sym t.others ∙ n.parts) in
    let same = ok_is (y, z.0.1, z.0.2) x z.2 in
    subst (λ (w : A × ℕ × List ℕ). Takes at text (signature_spelling c.0.1) w.1 w.2 × (y ≡ w.0)) same (
      record {
        parts = t.parts ∙ ap (λ (l : List ℕ). t.count ∷ l) whole ∙ ap (λ (k : ℕ). k ∷ c.0.1 ++ (0 ∷ z.0.2)) count ∙ ap (λ (l : List ℕ). length c.0.1 ∷ l) (sym (append_assoc c.0.1 (0 ∷ []) z.0.2));
        moved = omega (arith, n.moved, t.behind, t.place, length-append c.0.1 (0 ∷ []));
      },
      refl,
    )

pub signature_takes : (at : ℕ) (text : List ℕ) (x : List ℕ × ℕ × List ℕ) → IsBytes text → signature_at at text ≡ Ok x → Takes at text (signature_spelling x.0) x.1 x.2 × IsSignature x.0
unfolding signature_at
signature_takes at text x fits h =
    let c = bind_ok (codes_at at text) (λ codes. kinds_at (length codes.0.1) codes.0.0 codes.0.1 >>= λ kinds. closed_at codes.0.1 codes.1 codes.2) x h in
    let k = bind_ok (kinds_at (length c.0.0.1) c.0.0.0 c.0.0.1) (λ kinds. closed_at c.0.0.1 c.0.1 c.0.2) x c.2 in
    let t = codes_take at text c.0 fits c.1 in
    let whole = closed_takes c.0.0.1 at text c.0 x t k.2 in
    subst (λ (y : List ℕ). Takes at text (signature_spelling y) x.1 x.2 × IsSignature y) whole.1
    (whole.0, codes_signature (length c.0.0.1) c.0.0.0 c.0.0.1 k.0 k.1 (omega (arith, t.short, t.below)))

pub type_takes : (at : ℕ) (text : List ℕ) (x : (Kind × List ℕ) × ℕ × List ℕ) → IsBytes text → type_at at text ≡ Ok x → Takes at text (signature_spelling x.0.1) x.1 x.2 × SpellsType x.0.1 x.0.0
unfolding type_at
type_takes at text x fits h =
    let c = bind_ok (codes_at at text) (λ codes. kind_at 32 32 codes.0.0 codes.0.1 >>= λ kind. one_type_of codes.0.1 codes.1 codes.2 kind) x h in
    let k = bind_ok (kind_at 32 32 c.0.0.0 c.0.0.1) (λ kind. one_type_of c.0.0.1 c.0.1 c.0.2 kind) x c.2 in
    let t = codes_take at text c.0 fits c.1 in
    elim (chosen (eqb (length k.0.2) 0) (closed_at (k.0.0, c.0.0.1) c.0.1 c.0.2) (Err k.0.1) (Ok x) k.2) [
      | inr p ↦ absurd (not_ok k.0.1 x p.1)
      | inl p ↦
          let whole = closed_takes (k.0.0, c.0.0.1) at text c.0 x t p.1 in
          subst (λ (y : Kind × List ℕ). Takes at text (signature_spelling y.1) x.1 x.2 × SpellsType y.1 y.0) whole.1
          (whole.0, one_type_spelt c.0.0.0 c.0.0.1 k.0.0 k.0.1 k.0.2 k.1 (eqb-true (length k.0.2) 0 p.0) (omega (arith, t.short, t.below)))
    ]
