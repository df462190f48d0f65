-- Lists of what is lent.
use Rattle.std.specs.Prelude.{List, map}
use Rattle.std.specs.Borrow.{Bor}

-- the values behind a list of references
abbrev pub lent : {A : Type 0} → List (Bor A) → List A
lent items = map (λ item. item.now) items
