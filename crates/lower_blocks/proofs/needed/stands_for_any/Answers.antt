use Rattle.std.proofs.Common.{◌∙◌, ◌||◌, Bool, Bor, Some, ap, sym}
use Rattle.std.specs.List.{list_any}
use Rattle.fw_model.specs.declared.zone.Zone.{Zone}
use Rattle.fw_order.specs.Borrowed.{lent}
use Rattle.fw_verdict.specs.Policies.{stands_for}
use Rattle.fw_verdict.specs.Policies.End.{in_zone}
use Rattle.lower_match.proofs.Tests.{any_map}
use Rattle.lower_blocks.proofs.needed.stands_for_any.Goals as goal

pub returns-else-stands_for : goal.returns-else-stands_for
returns-else-stands_for c =
    let test = λ (zone : Zone). stands_for c.args.side.now (in_zone (Some zone)) in
    c.stands_for_one.ensures
    ∙ sym (any_map test (λ (one : Bor Zone). one.now) c.args.zones.now)
    ∙ ap (λ (b : Bool). b || list_any test (lent c.args.zones.now)) (sym c.if-stands_for.false ∙ c.stands_for.ensures)
