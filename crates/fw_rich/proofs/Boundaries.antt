-- A text may be cut before and behind an ASCII byte.
use Rattle.std.proofs.Common.{◌≡◌, ◌∙◌, ℕ, ◌+◌, ◌-◌, ◌<◌, ◌≤◌, Bool, true, false, not, List, length, get_or, Option, Some, None, ap, sym, subst, refl, arith, unwrap_or, cond, nat_lt, rules}
use Rattle.std.specs.List.{position, position_or_len, prefix_len}
use Rattle.std.specs.Str.{IsCharBoundary, IsUtf8}
use Rattle.std.proofs.lemmas.Grind.{common_steps}
use Rattle.std.proofs.lemmas.List.Sums.{passes_at_first, fails_before_first, prefix_len-le-length}
use Rattle.std.proofs.lemmas.Str.{IsCharBoundary-before_ascii, IsCharBoundary-after_ascii, lead_after_ascii}

chosen : (b : Bool) (k l : ℕ) → (b ≡ false → l ≡ k) → unwrap_or (cond b (Some k) None) l ≡ k
chosen true k l h = refl
chosen false k l h = h refl

end_reached : (k l : ℕ) → k ≤ l → nat_lt k l ≡ false → l ≡ k
end_reached k l le not_below = grind (arith, common_steps)

-- the place of the first that passes, or the end
pub place_or_end : (p : ℕ → Bool) (text : List ℕ) (n : ℕ) → n ≡ unwrap_or (position p text) (length text) → n ≡ position_or_len p text
place_or_end p text n is =
    is ∙ chosen (nat_lt (position_or_len p text) (length text)) (position_or_len p text) (length text)
    (λ not_below. end_reached (position_or_len p text) (length text) (prefix_len-le-length (λ b. not (p b)) text) not_below)

-- such a place is a boundary where what passes is ASCII
pub boundary_at_first : (p : ℕ → Bool) → ((b : ℕ) → p b ≡ true → b < 128) → (text : List ℕ) (n : ℕ) → n ≡ position_or_len p text → IsCharBoundary text n
boundary_at_first p small text n is =
    let within : n ≤ length text = subst (λ m. m ≤ length text) (sym is) (prefix_len-le-length (λ b. not (p b)) text) in
    (within, λ below. (IsCharBoundary-before_ascii text n below (subst (λ m. get_or text m 0 < 128) (sym is) (small (get_or text (position_or_len p text) 0) (passes_at_first p text 0 (subst (λ m. m < length text) is below))))).1 below)

-- and a place behind a byte that is ASCII
pub boundary_behind : (text : List ℕ) (n : ℕ) → IsUtf8 text → 0 < n → n ≤ length text → get_or text (n - 1) 0 < 128 → IsCharBoundary text n
boundary_behind text n utf8 above within small =
    let same : n - 1 + 1 ≡ n = omega arith in
    subst (IsCharBoundary text) same (IsCharBoundary-after_ascii text (n - 1) utf8 (omega arith) small)
