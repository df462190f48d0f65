-- Pieces that were appended one behind the other.
use Rattle.std.proofs.Common.{◌≡◌, ℕ, List, ◌++◌, ap, ◌∙◌, append_assoc}

pub two_joined : (before one two : List ℕ) (first second : List ℕ) → one ≡ before ++ first → two ≡ one ++ second → two ≡ before ++ (first ++ second)
two_joined before one two first second is_first is_second =
    is_second ∙ ap (λ (front : List ℕ). front ++ second) is_first ∙ append_assoc before first second

-- as the text of the four reads
pub four_joined : (before one two three four : List ℕ) (first second third fourth : List ℕ) → one ≡ before ++ first → two ≡ one ++ second → three ≡ two ++ third → four ≡ three ++ fourth → four ≡ before ++ (first ++ second ++ third ++ fourth)
four_joined before one two three four first second third fourth is_first is_second is_third is_fourth =
    two_joined before three four (first ++ second ++ third) fourth
    (two_joined before two three (first ++ second) third (two_joined before one two first second is_first is_second) is_third) is_fourth
