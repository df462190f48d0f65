-- Lists of no number.
use Rattle.std.proofs.Common.{◌≡◌, ℕ, ◌+◌, List, [], ◌∷◌, ◌++◌, Option, None, Some, length, refl}
use Rattle.std.specs.Prelude.{replicate}
use Rattle.std.proofs.lemmas.List.{replicate-append-replicate, length-replicate}

abbrev pub none : Option ℕ
none = None

pub one_more : (n : ℕ) → replicate n none ++ none ∷ [] ≡ replicate (n + 1) none
one_more n = replicate-append-replicate n 1 none

pub as_many : (n : ℕ) → length (replicate n none) ≡ n
as_many n = length-replicate n none

pub all_none : (m n : ℕ) → m ≡ n → replicate m none ≡ replicate n none
all_none m n same = rw same refl
