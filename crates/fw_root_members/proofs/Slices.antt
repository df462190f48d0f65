-- Numbers by slices of lists are those by the lists.
use Rattle.std.proofs.Common.{◌≡◌, ℕ, List, subst}
use Rattle.std.specs.Prelude.{IfOk, Result}
use Rattle.fw_root_members.specs.Numbering.{numbered}
use Rattle.fw_root_members.specs.declared.numbering.Numbers.{Numbers}

pub numbers_of : {E T : Type 0} (name_of : T → List ℕ) (objects all : List T) (numbers ids : List ℕ) (next : ℕ) (new others : List T) (result : Result Numbers E)
    → objects ≡ all → numbers ≡ ids → new ≡ others
    → IfOk result (λ made. made ≡ numbered name_of objects numbers next new)
    → IfOk result (λ made. made ≡ numbered name_of all ids next others)
numbers_of {T = T} name_of objects all numbers ids next new others result one two three is =
    subst (λ (list : List T). IfOk result (λ made. made ≡ numbered name_of all ids next list)) three
    (subst (λ (list : List ℕ). IfOk result (λ made. made ≡ numbered name_of all list next new)) two
    (subst (λ (list : List T). IfOk result (λ made. made ≡ numbered name_of list numbers next new)) one is))
