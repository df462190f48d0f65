-- Each mask of ones and then zeros is read as the number of its ones.
use Rattle.std.proofs.Common.{◌≡◌, ℕ, ◌-◌, ◌^◌, ◌≤◌, Bool, true, eqb, Option, Some, None, refl, ap, arith}
use Rattle.std.specs.Option.{option_eq}
use Rattle.std.proofs.lemmas.Bool.{agree_below_at, eqb-true}
use lib.Count.{count_leading_zeros}
use Rattle.fw_addr.specs.Nets.{mask_length}

is_read : ℕ → Bool
is_read ones = option_eq eqb (mask_length (2 ^ 32 - 2 ^ (32 - ones))) (Some ones)

tells : (found : Option ℕ) (ones : ℕ) → option_eq eqb found (Some ones) ≡ true → found ≡ Some ones
tells None ones is = absurd (cc)
tells (Some n) ones is = ap Some (eqb-true n ones is)

pub mask_back : (ones : ℕ) → ones ≤ 32 → mask_length (2 ^ 32 - 2 ^ (32 - ones)) ≡ Some ones
unfolding is_read count_leading_zeros
mask_back ones within = tells (mask_length (2 ^ 32 - 2 ^ (32 - ones))) ones (agree_below_at is_read (λ _. true) 33 ones refl (omega arith))
