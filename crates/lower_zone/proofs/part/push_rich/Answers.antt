use Rattle.std.proofs.Common.{◌≡◌, ◌∙◌, List, ap, subst}
use Rattle.std.specs.List.{filter, flat_map}
use Rattle.std.proofs.lemmas.Result.{on_ok_weaker}
use Rattle.fw_model.specs.declared.rich.Rich.{Rich}
use Rattle.fw_order.specs.Borrowed.{lent}
use Rattle.fw_order.specs.Order.{by_priority}
use Rattle.fw_verdict.specs.Rich.{rule_items, stands_in}
use Rattle.fw_verdict.specs.Walk.{walk}
use Rattle.lower_zone.specs.Work.{Adds}
use Rattle.lower_zone.proofs.part.push_rich.Goals as goal

pub returns-clause-adds : goal.returns-clause-adds
returns-clause-adds c =
    on_ok_weaker c.push_in_turn.result
    (λ added.
    subst (λ (list : List Rich). Adds c.args.config.now (walk (flat_map (rule_items c.args.config.now c.args.part) list)) c.args.rules.now c.push_in_turn.new.rules c.args.chains.now c.push_in_turn.new.chains)
    (ap lent c.as_slice-2.ensures.value ∙ c.in_ok-ordered.ensures ∙ ap (λ (list : List Rich). by_priority (filter (stands_in c.args.part) list)) c.as_slice.ensures) added)
    c.push_in_turn.ensures.adds
