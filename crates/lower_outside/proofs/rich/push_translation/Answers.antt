use Rattle.std.proofs.Common.{refl}
use Rattle.std.proofs.lemmas.Result.{on_ok_weaker}
use Rattle.fw_verdict.specs.Changes.Change.{translate}
use Rattle.lower_outside.proofs.Told.{tell_change}
use Rattle.lower_outside.proofs.rich.push_translation.Goals as goal

pub returns : goal.returns
returns c =
    on_ok_weaker c.push_step.result
    (λ are config condition tells can. tell_change config condition (translate c.args.dnat) _ _ _ _ are refl tells (c.target_fits.ensures, can))
    c.push_step.ensures
