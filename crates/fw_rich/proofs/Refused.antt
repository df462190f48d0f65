-- A place of a text where a character begins.
use Rattle.std.proofs.Common.{◌≡◌, ◌∙◌, ℕ, zero, suc, ◌<◌, ◌≤◌, ◌⊎◌, inl, inr, nat_le, Bool, true, false, if◌then◌else◌, List, [], ◌∷◌, length, drop, refl, sym, ap, arith, rules}
use Rattle.std.specs.Fmt.{is_char_start}
use Rattle.std.specs.Str.{IsCharBoundary}
use Rattle.std.proofs.lemmas.Bool.Decides.{leb_tells, nat_tests}
use Rattle.fw_rich.specs.Refused.{at_character, plain_value, refused_value}
use Rattle.fw_rich.specs.Tokens.{value_front}

starts : (byte : ℕ) → (128 ≤ byte → 192 ≤ byte) → is_char_start byte ≡ true
starts byte is = grind (arith, nat_tests)

started : (byte : ℕ) → is_char_start byte ≡ true → 128 ≤ byte → 192 ≤ byte
started byte is high = grind (arith, nat_tests)

boundary_at : (text : List ℕ) (place : ℕ) → IsCharBoundary text place → at_character (drop place text) ≡ true
boundary_at [] zero is = refl
boundary_at [] (suc place) is = refl
boundary_at (byte ∷ text) zero is = starts byte (is.1 (search rules))
boundary_at (byte ∷ text) (suc place) is = boundary_at text place (search rules, λ below. is.1 (search rules))

at_from : (text : List ℕ) (place : ℕ) → place ≤ length text → at_character (drop place text) ≡ true → IsCharBoundary text place
at_from [] zero within is = (within, λ below. absurd (omega (arith, below)))
at_from [] (suc place) within is = absurd (omega (arith, within))
at_from (byte ∷ text) zero within is = (within, λ below. started byte is)
at_from (byte ∷ text) (suc place) within is =
    let rest = at_from text place (omega (arith, within)) is in
    (within, λ below. rest.1 (omega (arith, below)))

-- the value at the place
pub at_boundary : (text behind value : List ℕ) (place : ℕ) → IsCharBoundary text place → behind ≡ drop place text → value ≡ plain_value (value_front behind) → value ≡ refused_value text place
at_boundary text behind value place is from named = rw (boundary_at text place is) (named ∙ ap (λ t. plain_value (value_front t)) from)

past : (text : List ℕ) (place : ℕ) → length text < place → drop place text ≡ []
past [] zero above = refl
past [] (suc place) above = refl
past (byte ∷ text) zero above = absurd (omega (arith, above))
past (byte ∷ text) (suc place) above = past text place (omega (arith, above))

nothing_by : (b : Bool) (value : List ℕ) → (b ≡ true → value ≡ []) → [] ≡ (if b then value else [])
nothing_by true value is = sym (is refl)
nothing_by false value is = refl

-- none where no character begins
none_at : (text : List ℕ) (place : ℕ) → ¬ (IsCharBoundary text place) → ((nat_le place (length text) ≡ true) × (place ≤ length text)) ⊎ ((nat_le place (length text) ≡ false) × (length text < place)) → at_character (drop place text) ≡ true → plain_value (value_front (drop place text)) ≡ []
none_at text place isnt (inl (is, within)) starts_here = absurd (isnt (at_from text place within starts_here))
none_at text place isnt (inr (is, above)) starts_here = ap (λ t. plain_value (value_front t)) (past text place above)

pub off_boundary : (text : List ℕ) (place : ℕ) → ¬ (IsCharBoundary text place) → [] ≡ refused_value text place
off_boundary text place isnt =
    nothing_by (at_character (drop place text)) (plain_value (value_front (drop place text))) (none_at text place isnt (leb_tells place (length text)))
