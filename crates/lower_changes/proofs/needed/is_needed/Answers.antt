use Rattle.std.proofs.Common.{◌∙◌, ◌&&◌, Bool, Bor, List, ℕ, Some, ap, sym}
use Rattle.std.specs.List.{list_any}
use Rattle.fw_model.specs.declared.zone.Zone.{Zone}
use Rattle.fw_order.specs.Borrowed.{lent}
use Rattle.fw_verdict.specs.Policies.{stands_for}
use Rattle.fw_verdict.specs.Policies.End.{in_zone}
use Rattle.lower_changes.specs.Needed.{ends_of}
use Rattle.lower_match.proofs.Tests.{any_map}
use Rattle.lower_changes.proofs.needed.is_needed.Goals as goal

pub returns-then-has_changes : goal.returns-then-has_changes
returns-then-has_changes c =
    let test = λ (zone : Zone). stands_for (ends_of c.args.side c.args.policy.now) (in_zone (Some zone)) in
    c.stands_for_one.ensures
    ∙ ap (λ (ends : List (List ℕ)). list_any (λ (one : Bor Zone). stands_for ends (in_zone (Some one.now))) c.args.zones.now) c.ends_of.ensures
    ∙ sym (any_map test (λ (one : Bor Zone). one.now) c.args.zones.now)
    ∙ ap (λ (some : Bool). some && list_any test (lent c.args.zones.now)) (sym (sym c.has_changes.ensures ∙ c.if-has_changes.true))
