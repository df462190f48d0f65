use Rattle.std.proofs.Common.{◌≡◌, ◌∙◌, ◌==◌, List, [], ◌∷◌, true, length, refl, sym, ap, arith}
use Rattle.std.proofs.lemmas.Bool.{eqb-true}
use Rattle.lower_changes.specs.Sides.IsSide.{full, idle}
use Rattle.lower_changes.proofs.There.{no_block}
use Rattle.lower_changes.proofs.sides.side_chains.Goals as goal
use Rattle.nf_rules.specs.declared.chain.Chain.{Chain}

empty : {A : Type 0} (xs : List A) → (length xs == 0) ≡ true → xs ≡ []
empty [] is = refl
empty (x ∷ xs) is = absurd (omega (arith, eqb-true (length (x ∷ xs)) 0 is))

pub returns-then-is_empty : goal.returns-then-is_empty
returns-then-is_empty c = λ written.
    let none_there = empty c.in_ok-blocks.blocks (sym (c.is_empty.ensures ∙ ap (λ (list : List Chain). length list == 0) c.as_slice.ensures) ∙ c.if-is_empty.true) in
    idle none_there (no_block (c.in_ok-blocks.ensures written) none_there)

pub returns : goal.returns
returns c = λ written. full c.in_ok-chains.chains c.in_ok-blocks.blocks c.in_ok-push_block.ensures c.in_ok-chains.ensures (c.in_ok-blocks.ensures written)
