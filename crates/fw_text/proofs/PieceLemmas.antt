-- Where a text is cut: nowhere without a separator, and at the first one where there is one.
use Rattle.std.proofs.Common.{◌≡◌, ℕ, zero, suc, ◌<◌, true, false, eqb, List, [], ◌∷◌, length, get_or, take, drop, refl, arith}
use Rattle.std.proofs.lemmas.Bool.{false_from_ne_true}
use Rattle.fw_text.specs.Pieces.{pieces}

-- none of the first n bytes is the separator
abbrev pub Absent : ℕ → List ℕ → ℕ → Type 0
Absent separator text n = (k : ℕ) → k < n → eqb (get_or text k 0) separator ≡ true → ⊥

first_absent : (separator byte : ℕ) (text : List ℕ) (n : ℕ) → Absent separator (byte ∷ text) (suc n) → eqb byte separator ≡ false
first_absent separator byte text n absent = false_from_ne_true (eqb byte separator) (absent 0 (omega arith))

later_absent : (separator byte : ℕ) (text : List ℕ) (n : ℕ) → Absent separator (byte ∷ text) (suc n) → Absent separator text n
later_absent separator byte text n absent = λ k below is. absent (suc k) (omega arith) is

pub pieces_none : (separator : ℕ) (text : List ℕ) → Absent separator text (length text) → pieces separator text ≡ text ∷ []
pieces_none separator [] absent = refl
pieces_none separator (byte ∷ text) absent =
    rw (first_absent separator byte text (length text) absent, pieces_none separator text (later_absent separator byte text (length text) absent)) refl

pub pieces_first : (separator : ℕ) (text : List ℕ) (n : ℕ) → n < length text → Absent separator text n → eqb (get_or text n 0) separator ≡ true → pieces separator text ≡ take n text ∷ pieces separator (drop (suc n) text)
pieces_first separator [] n below absent is = absurd (omega arith)
pieces_first separator (byte ∷ text) zero below absent is = rw is refl
pieces_first separator (byte ∷ text) (suc n) below absent is =
    rw (first_absent separator byte text n absent, pieces_first separator text n (omega arith) (later_absent separator byte text n absent) is) refl
