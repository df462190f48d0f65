use Rattle.std.proofs.Common.{refl}
use Rattle.std.proofs.lemmas.Result.{on_ok_weaker}
use Rattle.fw_verdict.specs.Changes.Change.{masquerade}
use Rattle.lower_outside.proofs.Told.{tell_change}
use Rattle.lower_outside.proofs.rich.push_masquerade.Goals as goal

pub returns : goal.returns
returns c =
    on_ok_weaker c.push_step.result (λ are config condition tells. tell_change config condition masquerade _ _ _ _ are refl tells tt) c.push_step.ensures
