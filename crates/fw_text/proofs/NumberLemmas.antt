-- Digits behind a number, one digit on and past the bound; a decimal text against `decimal`.
use Rattle.std.proofs.Common.{◌≡◌, ℕ, ◌+◌, ◌*◌, ◌^◌, ◌<◌, ◌≤◌, Bool, true, false, cond, not, eqb, leb, List, [], ◌∷◌, length, get_or, Option, Some, None, refl, sym, ap, arith, ⊎_elim}
use Rattle.std.specs.Char.{is_ascii_digit, digit_value}
use Rattle.std.specs.Fmt.{decimal}
use Rattle.std.specs.Str.{all_ascii_digits}
use Rattle.std.specs.Str.Parse.{digits_value, digits_value_after}
use Rattle.std.proofs.lemmas.Bool.{lt-leb, leb-true, and_parts, cases_eq, ne_eqb, eq-eqb, not_from_true}
use Rattle.std.proofs.lemmas.Fmt.{digits_decimal, digits_value-decimal, decimal_nonempty, first_decimal, decimal_digit, decimal-digits_value}
use Rattle.std.proofs.lemmas.Str.Parse.{IsNumeralModel, numerals_by_value, tells_all_ascii_digits}
use Rattle.fw_text.specs.Number.{is_decimal, number, digits_to}

-- digits behind a number don't make it smaller
pub digits_after_ge : (before : ℕ) (text : List ℕ) → before ≤ digits_value_after 10 before text
digits_after_ge before [] = omega arith
digits_after_ge before (byte ∷ text) = omega (arith, digits_after_ge (before * 10 + digit_value byte) text)

-- nothing is read behind a number that is above the bound
pub digits_to_above : (most before : ℕ) (text : List ℕ) → most < before → digits_to most before text ≡ None
digits_to_above most before text above =
    let small : leb (digits_value_after 10 before text) most ≡ false = lt-leb _ _ (omega (arith, digits_after_ge before text)) in
    let none : Option ℕ = None in
    rw small (elim (all_ascii_digits text) as (λ b. cond b none none ≡ none) [ true ↦ refl | false ↦ refl ])

-- one digit on
pub digits_to_more : (most before byte n : ℕ) (text : List ℕ) → digits_to most before (byte ∷ []) ≡ Some n → (digits_to most n text ≡ digits_to most before (byte ∷ text)) × (n ≤ most)
digits_to_more most before byte n text = more (is_ascii_digit byte) (leb (before * 10 + digit_value byte) most) refl refl
  where
    more : (d f : Bool) → is_ascii_digit byte ≡ d → leb (before * 10 + digit_value byte) most ≡ f → digits_to most before (byte ∷ []) ≡ Some n → (digits_to most n text ≡ digits_to most before (byte ∷ text)) × (n ≤ most)
    more true true is fits h = grind (arith, leb-true)
    more true false is over h = grind arith
    more false f not_digit fits h = grind arith

-- where a digit can't be added, nothing is read
pub digits_to_stops : (most before byte : ℕ) (text : List ℕ) → digits_to most before (byte ∷ []) ≡ None → digits_to most before (byte ∷ text) ≡ None
digits_to_stops most before byte text = stops (is_ascii_digit byte) (leb (before * 10 + digit_value byte) most) refl refl
  where
    stops : (d f : Bool) → is_ascii_digit byte ≡ d → leb (before * 10 + digit_value byte) most ≡ f → digits_to most before (byte ∷ []) ≡ None → digits_to most before (byte ∷ text) ≡ None
    stops true true is fits h = grind arith
    stops true false is over h = grind (arith, digits_to_above)
    stops false f not_digit fits h = grind arith

own : IsNumeralModel (λ text. all_ascii_digits text ≡ true) (digits_value 10)
own = numerals_by_value (λ text. all_ascii_digits text ≡ true) tells_all_ascii_digits

-- digits, the first of them 0 only where it is alone, are a decimal text
is_decimal_from : (text : List ℕ) → all_ascii_digits text ≡ true → 0 < length text → (get_or text 0 0 ≡ 48 → length text ≡ 1) → is_decimal text ≡ true
is_decimal_from [] digits some lone = absurd (omega arith)
is_decimal_from (first ∷ []) digits some lone = (and_parts (is_ascii_digit first) true digits).0
is_decimal_from (first ∷ second ∷ text) digits some lone =
    let other : eqb first 48 ≡ false = ne_eqb first 48 (λ is. absurd (omega (arith, lone is))) in
    rw (other, digits) refl

-- and the other way round
is_decimal_digits : (text : List ℕ) → is_decimal text ≡ true → (all_ascii_digits text ≡ true) × (0 < length text) × (get_or text 0 0 ≡ 48 → length text ≡ 1)
is_decimal_digits [] is = absurd (cc)
is_decimal_digits (first ∷ []) is = (rw is refl, omega arith, λ _. refl)
is_decimal_digits (first ∷ second ∷ text) is =
    let parts = and_parts (not (eqb first 48)) (all_ascii_digits (first ∷ second ∷ text)) is in
    (parts.1, omega arith, λ zero. absurd (cc (parts.0, not_from_true (eqb first 48) (eq-eqb first 48 zero))))

pub number-decimal : (n : ℕ) → n < 2 ^ 64 → number (decimal n) ≡ Some n
number-decimal n small =
    let lone : get_or (decimal n) 0 0 ≡ 48 → length (decimal n) ≡ 1 =
    λ zero. ⊎_elim (λ is. rw is (ap length (decimal_digit 0 (omega arith)))) (λ other. absurd (omega (arith, first_decimal n (omega arith) small))) (cases_eq n 0) in
    let is : is_decimal (decimal n) ≡ true = is_decimal_from (decimal n) (digits_decimal own n small) (decimal_nonempty n small) lone in
    rw (is, digits_value-decimal own n small) refl

pub decimal_from_number : (text : List ℕ) (n : ℕ) → n < 2 ^ 64 → number text ≡ Some n → text ≡ decimal n
decimal_from_number text n small is = from (is_decimal text) refl is
  where
    from : (b : Bool) → is_decimal text ≡ b → number text ≡ Some n → text ≡ decimal n
    from false not_decimal h = absurd (cc (rw not_decimal at h))
    from true decimal_text h =
        let value : digits_value 10 text ≡ n = cc (rw decimal_text at h) in
        let parts = is_decimal_digits text decimal_text in
        let canonical = decimal-digits_value own text parts.0 parts.1 parts.2 (omega (arith, value)) in
        sym (rw value at canonical)
