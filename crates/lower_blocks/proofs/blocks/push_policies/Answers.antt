use Rattle.std.proofs.Common.{rules, ◌≡◌, ◌∙◌, ◌<◌, length, get_or, refl, sym}
use Rattle.std.proofs.lemmas.Option.{slice_get_read}
use Rattle.fw_order.specs.Borrowed.{lent}
use Rattle.lower_blocks.specs.Blocks.Told.{of_policy}
use Rattle.lower_blocks.specs.Needed.{is_needed}
use Rattle.lower_blocks.proofs.Growing.{told_more, told_not}
use Rattle.lower_blocks.proofs.blocks.push_policies.Goals as goal
use Rattle.lower_blocks.proofs.blocks.push_policies.Goals.{then-is_needed+in_ok-policy_block+in_ok-push_block, else-is_needed}

pub loop-place-preserved : goal.loop-place-preserved
loop-place-preserved c =
    let config = c.args.runtime.now.config in
    let policies = config.policies in
    let place = c.loop-place.place in
    let policy = c.index-policies-place.result in
    let below : place < length policies = search rules in
    let at : policy ≡ get_or policies place policy = search rules in
    elim c.if-is_needed.branch [
      | then-is_needed+in_ok-policy_block+in_ok-push_block w ↦
          told_more config of_policy (is_needed (lent c.args.zones.now)) policies place policy below at
          c.args.chains.now c.loop-place.chains c.if-is_needed.chains w.in_ok-policy_block.field-0 (sym c.is_needed.ensures ∙ w.if-is_needed.true)
          (w.in_ok-policy_block.ensures policy (slice_get_read policies (length policies) place policy refl below at)) (search rules) c.loop-place.invariant
      | else-is_needed w ↦
          told_not config of_policy (is_needed (lent c.args.zones.now)) policies place policy below at
          c.args.chains.now c.loop-place.chains c.if-is_needed.chains (sym c.is_needed.ensures ∙ w.if-is_needed.false) w.chains-is c.loop-place.invariant
    ]
