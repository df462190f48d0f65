-- Where nothing was appended the zone is as it was.
use Rattle.std.proofs.Common.{◌≡◌, ◌∙◌, ap, slice_set}
use Rattle.std.proofs.lemmas.Result.{on_err_weaker}
use Rattle.fw_zone.proofs.Zones.{set_as_it_was}
use Rattle.fw_zone.proofs.bindings.append_at.Goals as goal

pub returns-clause-err : goal.returns-clause-err
returns-clause-err g c =
    on_err_weaker c.append.result
    (λ kept. ap (λ zone. slice_set c.args.zones.now c.args.place zone) kept
    ∙ set_as_it_was c.args.zones.now c.args.place c.get_mut.result.now c.get_mut.ensures.value)
    c.append.ensures.err
