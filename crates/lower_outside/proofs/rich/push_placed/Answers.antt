use Rattle.std.proofs.Common.{◌∙◌, List, ap, sym, subst}
use Rattle.std.specs.List.{filter, flat_map}
use Rattle.std.proofs.lemmas.Result.{on_ok_weaker}
use Rattle.fw_model.specs.declared.rich.Rich.{Rich}
use Rattle.fw_order.specs.Borrowed.{lent}
use Rattle.fw_order.specs.Order.{has_lower_priority}
use Rattle.fw_valid.specs.Each.{Each}
use Rattle.fw_valid.specs.Riches.{IsRich}
use Rattle.fw_verdict.specs.Outside.{outside_items, stands_at}
use Rattle.lower_outside.specs.Steps.{Tell}
use Rattle.lower_outside.proofs.Lists.{each_filtered, each_in_order}
use Rattle.lower_outside.proofs.rich.push_placed.Goals as goal

pub returns : goal.returns
returns c =
    let same = ap lent c.as_slice.ensures.value ∙ c.in_ok-ordered.ensures in
    on_ok_weaker c.push_in_turn.result
    (λ added all.
    subst (λ (list : List Rich). Tell c.args.config.now (flat_map (outside_items c.args.config.now c.args.place) list) c.args.steps.now c.push_in_turn.new.steps) same
    (added (subst (Each IsRich) (sym same) (each_in_order IsRich has_lower_priority (filter (stands_at c.args.place) c.args.rules.now) (each_filtered IsRich (stands_at c.args.place) c.args.rules.now all)))))
    c.push_in_turn.ensures
