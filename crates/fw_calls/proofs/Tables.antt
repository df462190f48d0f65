-- Tables behind one another.
use Rattle.std.proofs.Common.{◌≡◌, ℕ, Bool, true, false, if◌then◌else◌, List, [], ◌∷◌, ◌++◌, Option, None, Some, refl}
use Rattle.std.specs.Option.{option_or}
use Rattle.std.specs.Str.{bytes_eq}
use Rattle.fw_text.specs.Names.{named}

by_first : {X : Type 0} (is : Bool) (x : X) (rest behind joined : Option X) → joined ≡ option_or rest behind → (if is then Some x else joined) ≡ option_or (if is then Some x else rest) behind
by_first true x rest behind joined same = refl
by_first false x rest behind joined same = same

pub named_joined : {X : Type 0} (rows others : List (List ℕ × X)) (text : List ℕ) → named (rows ++ others) text ≡ option_or (named rows text) (named others text)
named_joined [] others text = refl
named_joined (row ∷ rows) others text =
    by_first (bytes_eq text row.0) row.1 (named rows text) (named others text) (named (rows ++ others) text) (named_joined rows others text)
