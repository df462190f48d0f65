use Rattle.std.proofs.Common.{◌∙◌, refl, ap}
use Rattle.std.proofs.lemmas.Result.{on_ok_weaker}
use Rattle.fw_verdict.specs.Changes.Change.{mark}
use Rattle.lower_outside.proofs.Told.{tell_within}
use Rattle.lower_outside.proofs.rich.push_mark.Goals as goal
use Rattle.lower_zone.specs.Forms.{limited}

pub returns : goal.returns
returns c =
    on_ok_weaker c.push_step.result
    (λ are config condition tells.
    tell_within config condition c.args.limit (mark c.args.value c.args.mask) c.args.alternatives.now _ _ _ _ are
    (c.in_ok-within.ensures ∙ ap (limited c.args.limit) c.as_slice.ensures) refl tells c.ranges.value.fits)
    c.push_step.ensures
