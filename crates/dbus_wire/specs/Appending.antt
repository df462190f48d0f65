-- What stands in a buffer to which something is appended, also where that is refused midway.
use Rattle.std.specs.Prelude.{◌≡◌, ℕ, List, ◌++◌}

-- The bytes begin with these.
pub record Begins (front bytes : List ℕ) : Type 0 where
  pub more : List ℕ
  pub are : bytes ≡ front ++ more

-- Only bytes behind the old ones changed: what the old bytes begin with, the new ones begin with.
abbrev pub Keeps : List ℕ → List ℕ → Type 0
Keeps old new = (front : List ℕ) → Begins front old → Begins front new
