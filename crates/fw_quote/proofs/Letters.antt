-- Letters outside ASCII stand inside quotes as they are.
use Rattle.std.proofs.Common.{◌≡◌, ℕ, ◌≤◌, ◌<◌, ◌+◌, ◌/◌, ◌%◌, Bool, true, false, cond, IsTrue, List, [], ◌∷◌, ◌++◌, ltb, refl, ap, ◌∙◌, arith}
use Rattle.std.specs.Char.{encode_utf8}
use Rattle.std.specs.List.{flat_map}
use Rattle.std.proofs.lemmas.Bool.Decides.{nat_tests}
use Rattle.std.proofs.lemmas.List.{append-nil}
use Rattle.fw_quote.specs.Quoted.{quoted_byte}

-- a byte of such a letter
quoted_byte-high : (byte : ℕ) → 128 ≤ byte → quoted_byte byte ≡ byte ∷ []
quoted_byte-high byte high = grind (arith, nat_tests)

-- is not changed, whatever stands behind it
high_first : (byte : ℕ) (bytes : List ℕ) → 128 ≤ byte → flat_map quoted_byte bytes ≡ bytes → flat_map quoted_byte (byte ∷ bytes) ≡ byte ∷ bytes
high_first byte bytes high behind = ap (λ (front : List ℕ). front ++ flat_map quoted_byte bytes) (quoted_byte-high byte high) ∙ ap (λ (rest : List ℕ). byte ∷ rest) behind

either : (P : List ℕ → Type 0) (test : Bool) (one other : List ℕ) → (test ≡ true → P one) → (test ≡ false → P other) → P (cond test one other)
either P true one other at_true at_false = at_true refl
either P false one other at_true at_false = at_false refl

abbrev IsKept : List ℕ → Type 0
IsKept bytes = flat_map quoted_byte bytes ≡ bytes

pub letter_is_kept : (letter : ℕ) → 128 ≤ letter → flat_map quoted_byte (encode_utf8 letter) ≡ encode_utf8 letter
unfolding encode_utf8
letter_is_kept letter high =
    either IsKept (ltb letter 128) _ _ (λ low. grind (arith, nat_tests))
    (λ _. either IsKept (ltb letter 2048) _ _ (λ _. high_first _ _ (omega arith) (high_first _ _ (omega arith) refl))
    (λ _. either IsKept (ltb letter 65536) _ _ (λ _. high_first _ _ (omega arith) (high_first _ _ (omega arith) (high_first _ _ (omega arith) refl)))
    (λ _. high_first _ _ (omega arith) (high_first _ _ (omega arith) (high_first _ _ (omega arith) (high_first _ _ (omega arith) refl))))))

pub letter_is_byte : (letter : ℕ) → letter < 128 → flat_map quoted_byte (encode_utf8 letter) ≡ quoted_byte letter
unfolding encode_utf8
letter_is_byte letter low =
    either (λ bytes. flat_map quoted_byte bytes ≡ quoted_byte letter) (ltb letter 128) _ _ (λ _. append-nil (quoted_byte letter)) (λ high. grind (arith, nat_tests))
