use Rattle.std.proofs.Common.{◌∙◌, Bool, [], ◌∷◌, sym, subst}
use Rattle.std.specs.Prelude.{if◌then◌else◌}
use Rattle.std.proofs.lemmas.Result.{on_ok_weaker}
use Rattle.lower_blocks.specs.Blocks.Told.{of_policy}
use Rattle.lower_changes.specs.Blocks.{Behind}
use Rattle.lower_changes.proofs.Growing.{behind_block}
use Rattle.lower_changes.proofs.blocks.push_policy.Goals as goal

pub returns-in_ok-policy_chains : goal.returns-in_ok-policy_chains
returns-in_ok-policy_chains c =
    let policy = c.args.policy.now in
    on_ok_weaker c.push_block.result
    (λ are written.
    subst (λ (some : Bool). Behind c.args.config.now c.args.side (if some then of_policy policy ∷ [] else []) c.args.chains.now c.push_block.new.chains)
    (sym (sym c.is_needed.ensures ∙ c.if-is_needed.true))
    (behind_block c.args.config.now c.args.side (of_policy policy) _ _ _ (c.in_ok-policy_chains.ensures written) are))
    c.push_block.ensures
