use Rattle.std.proofs.Common.{[], List, subst, sym}
use Rattle.std.specs.List.{flat_map}
use Rattle.fw_model.specs.declared.policy.Policy.{Policy}
use Rattle.fw_order.specs.Borrowed.{lent}
use Rattle.fw_valid.specs.Each.{Each}
use Rattle.fw_valid.specs.Valid.{AreWritten}
use Rattle.lower_changes.specs.Blocks.{AreBlocks, Behind}
use Rattle.lower_changes.specs.Blocks.AreBlocks.{none}
use Rattle.lower_changes.specs.Needed.{told_policy}
use Rattle.lower_changes.proofs.blocks.settings_chains.Goals as goal
use Rattle.nf_rules.specs.declared.chain.Chain.{Chain}

pub returns : goal.returns
returns c = λ written.
    let config = c.args.config.now in
    let of = c.args.side in
    let behind = subst (λ (list : List Policy). Each (λ (policy : Policy). AreWritten policy.rules) list
    → Behind config of (flat_map (told_policy of (lent c.args.zones.now)) list) c.push_zones.new.chains c.push_policies.new.chains)
    c.as_slice.ensures c.in_ok-push_policies.ensures in
    behind written.of_policies _
    (c.in_ok-push_zones.ensures written.of_zones [] (subst (λ (chains : List Chain). AreBlocks config of [] chains) (sym c.new-chains.ensures) none))
