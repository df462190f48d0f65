use Rattle.fw_verdict.specs.Sides.{side_items}
use Rattle.lower_outside.proofs.Told.{told_from_none}
use Rattle.lower_outside.proofs.settings.side_steps.Goals as goal

pub returns : goal.returns
returns c = λ written.
    told_from_none c.args.config.now (side_items c.args.config.now c.args.side c.args.settings.now) _ _ c.new-steps.ensures (c.in_ok-push_side.ensures written)
