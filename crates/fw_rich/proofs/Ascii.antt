-- What ends a word, a key or a value is an ASCII byte.
use Rattle.std.proofs.Common.{◌≡◌, ℕ, ◌<◌, ◌≤◌, ◌-◌, Bool, true, false, not, List, length, get_or, refl, arith, subst, sym}
use Rattle.std.specs.List.{position_or_len}
use Rattle.std.specs.Str.{IsCharBoundary, IsUtf8}
use Rattle.std.proofs.lemmas.Grind.{common_steps}
use Rattle.std.proofs.lemmas.List.Sums.{fails_before_first, prefix_len-le-length}
use Rattle.fw_rich.specs.Tokens.{ends_key, is_gap, is_quote}
use Rattle.fw_rich.proofs.Boundaries.{boundary_at_first, boundary_behind}

pub gaps : (byte : ℕ) → is_gap byte ≡ true → byte < 128
gaps byte is = grind (arith, common_steps)

pub quotes : (byte : ℕ) → is_quote byte ≡ true → byte < 128
quotes byte is = grind (arith, common_steps)

pub ends_of_keys : (byte : ℕ) → ends_key byte ≡ true → byte < 128
ends_of_keys byte is = grind (arith, common_steps)

pub key_boundary : (text : List ℕ) (n : ℕ) → n ≡ position_or_len ends_key text → IsCharBoundary text n
key_boundary text n is = boundary_at_first ends_key ends_of_keys text n is

pub gap_boundary : (text : List ℕ) (n : ℕ) → n ≡ position_or_len is_gap text → IsCharBoundary text n
gap_boundary text n is = boundary_at_first is_gap gaps text n is

not_false : (b : Bool) → not b ≡ false → b ≡ true
not_false true h = refl
not_false false h = sym h

-- behind blanks and tabs
pub boundary_behind_gap : (text : List ℕ) (n : ℕ) → IsUtf8 text → n ≡ position_or_len (λ byte. not (is_gap byte)) text → 0 < n → IsCharBoundary text n
boundary_behind_gap text n utf8 is above =
    let p : ℕ → Bool = λ byte. not (is_gap byte) in
    let within : n ≤ length text = subst (λ m. m ≤ length text) (sym is) (prefix_len-le-length (λ b. not (p b)) text) in
    let before : n - 1 < n = omega arith in
    let gap : is_gap (get_or text (n - 1) 0) ≡ true = not_false (is_gap (get_or text (n - 1) 0)) (fails_before_first p text (n - 1) 0 (subst (λ m. n - 1 < m) is before)) in
    boundary_behind text n utf8 above within (gaps (get_or text (n - 1) 0) gap)
