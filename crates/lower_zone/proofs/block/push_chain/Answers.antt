use Rattle.std.proofs.Common.{◌≡◌, ◌∙◌, ◌==◌, ◌++◌, ◌∷◌, [], List, true, length, refl, sym, ap, arith}
use Rattle.std.proofs.lemmas.Bool.{eqb-true}
use Rattle.fw_verdict.specs.declared.rich.Part.{Part}
use Rattle.lower_zone.proofs.Apart.{named_no_part, named_part}
use Rattle.lower_zone.specs.Names.{place}
use Rattle.std.proofs.lemmas.Result.{on_ok_weaker}
use Rattle.lower_zone.proofs.Works.{adds_no_part, adds_part}
use Rattle.lower_zone.proofs.block.push_chain.Goals as goal
use Rattle.nf_rules.specs.declared.rule.Rule.{Rule}

empty : {A : Type 0} (xs : List A) → (length xs == 0) ≡ true → xs ≡ []
empty [] is = refl
empty (x ∷ xs) is = absurd (omega (arith, eqb-true (length (x ∷ xs)) 0 is))

pub returns-then-is_empty-clause-adds : goal.returns-then-is_empty-clause-adds
returns-then-is_empty-clause-adds c = λ config walked before inner.
    adds_no_part config walked c.args.made c.args.rules.now before c.args.chains.now
    (empty c.args.made (sym (c.is_empty.ensures ∙ ap (λ (list : List Rule). length list == 0) c.as_slice.ensures) ∙ c.if-is_empty.true)) inner

pub returns-clause-adds : goal.returns-clause-adds
returns-clause-adds c =
    on_ok_weaker c.push-2.result
    (λ are config walked before inner.
    adds_part config c.args.name walked c.args.made c.args.rules.now _ before c.args.chains.now _
    (c.in_ok-push.ensures.ok ∙ ap (λ (rule : Rule). c.args.rules.now ++ rule ∷ []) c.in_ok-jump_to.ensures)
    are inner)
    c.push-2.ensures.ok

pub returns-then-is_empty-clause-names : goal.returns-then-is_empty-clause-names
returns-then-is_empty-clause-names c = λ block part is named. named_no_part block (place part) c.args.chains.now named

pub returns-clause-names : goal.returns-clause-names
returns-clause-names c =
    on_ok_weaker c.push-2.result (λ are block part is named. named_part block part c.args.name c.args.made _ _ is are named) c.push-2.ensures.ok
