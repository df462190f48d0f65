use Rattle.std.proofs.Common.{List, take, sym, subst}
use Rattle.std.specs.List.{flat_map}
use Rattle.std.proofs.lemmas.List.{take_all}
use Rattle.fw_model.specs.declared.policy.Policy.{Policy}
use Rattle.fw_order.specs.Borrowed.{lent}
use Rattle.fw_valid.specs.Valid.{AreWritten}
use Rattle.lower_blocks.specs.Blocks.{Told}
use Rattle.lower_changes.specs.Blocks.{Behind}
use Rattle.lower_changes.specs.Needed.{told_policy}
use Rattle.lower_changes.proofs.Growing.{behind_both, behind_nothing, flat_one_more}
use Rattle.lower_changes.proofs.blocks.push_policies.Goals as goal
use Rattle.lower_outside.proofs.Lists.{each_place}

pub loop-policy-init : goal.loop-policy-init
loop-policy-init c = λ all. behind_nothing c.args.config.now c.args.side c.args.chains.now

pub loop-policy-preserved : goal.loop-policy-preserved
loop-policy-preserved c = λ all.
    let told = told_policy c.args.side (lent c.args.zones.now) in
    subst (λ (list : List Told). Behind c.args.config.now c.args.side list c.args.chains.now c.push_policy.new.chains)
    (sym (flat_one_more told c.args.policies.now c.loop-policy.policy-index c.policy-item.result c.loop-policy-test.true c.policy-item.is))
    (behind_both c.args.config.now c.args.side (flat_map told (take c.loop-policy.policy-index c.args.policies.now)) (told c.policy-item.result) _ _ _
    (c.loop-policy.invariant all)
    (c.in_ok-push_policy.ensures (each_place (λ (policy : Policy). AreWritten policy.rules) c.args.policies.now c.loop-policy.policy-index c.policy-item.result c.loop-policy-test.true c.policy-item.is all)))

pub returns : goal.returns
returns c = λ all.
    subst (λ (list : List Policy). Behind c.args.config.now c.args.side (flat_map (told_policy c.args.side (lent c.args.zones.now)) list) c.args.chains.now c.loop-policy.chains)
    (take_all c.loop-policy.policy-index c.args.policies.now c.loop-policy-test.false) (c.loop-policy.invariant all)
