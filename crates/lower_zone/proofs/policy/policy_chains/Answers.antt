use Rattle.std.proofs.Common.{◌≡◌, ◌∙◌, List, ℕ, Some, false, sym, subst}
use Rattle.std.proofs.lemmas.Result.{IfOk-weaker}
use Rattle.fw_model.specs.declared.policy.Policy.{Policy}
use Rattle.fw_verdict.specs.Items.{items}
use Rattle.fw_verdict.specs.Walk.{walk}
use Rattle.lower_zone.specs.Evaluates.{Evaluates}
use Rattle.lower_zone.specs.Stands.{StandAlone}
use Rattle.lower_zone.specs.Names.{NamesDiffer, block_name, policy_block}
use Rattle.lower_zone.proofs.policy.policy_chains.Goals as goal

one_there : {A : Type 0} (one other : A) → Some one ≡ Some other → one ≡ other
one_there one other is = cc

pub returns-clause-evaluates : goal.returns-clause-evaluates
returns-clause-evaluates c =
    let config = c.args.runtime.now.config in
    IfOk-weaker c.block_chains.result _ _
    (λ made evaluates it is.
    subst (λ (policy : Policy). Evaluates config made (block_name (policy_block policy.name)) (walk (items config policy.rules false)))
    (one_there c.policy_at-policy.result.now it (sym c.policy_at-policy.ensures ∙ is))
    (subst (λ (block : List ℕ). Evaluates config made (block_name block) (walk (items config c.policy_at-policy.result.now.rules false))) c.in_ok-block.ensures evaluates))
    c.block_chains.ensures.evaluates

pub returns-clause-names : goal.returns-clause-names
returns-clause-names c =
    IfOk-weaker c.block_chains.result _ _
    (λ made differ it is.
    subst (λ (policy : Policy). NamesDiffer (policy_block policy.name) made)
    (one_there c.policy_at-policy.result.now it (sym c.policy_at-policy.ensures ∙ is))
    (subst (λ (block : List ℕ). NamesDiffer block made) c.in_ok-block.ensures differ))
    c.block_chains.ensures.names

pub returns-clause-stands : goal.returns-clause-stands
returns-clause-stands c =
    let config = c.args.runtime.now.config in
    IfOk-weaker c.block_chains.result _ _
    (λ made alone it is.
    subst (λ (policy : Policy). StandAlone config made (block_name (policy_block policy.name)))
    (one_there c.policy_at-policy.result.now it (sym c.policy_at-policy.ensures ∙ is))
    (subst (λ (block : List ℕ). StandAlone config made (block_name block)) c.in_ok-block.ensures alone))
    c.block_chains.ensures.stands
