use Rattle.std.proofs.Common.{rules, ◌≡◌, ◌∙◌, ap, map, Bor}
use Rattle.std.specs.Cmp.{int_cmp_total}
use Rattle.std.proofs.lemmas.List.Sorted.{answers_always, ranks_by}
use Rattle.fw_model.specs.declared.rich.Rich.{Rich}
use Rattle.fw_order.specs.Order.{by_priority, has_lower_priority}
use Rattle.fw_order.proofs.Ordered.{map_in_order, sorted_is_in_order}
use Rattle.fw_order.proofs.rules.by_priority.Goals as goal

pub returns : goal.returns
returns c =
    ap (λ items. map (λ item. item.now) items)
    (sorted_is_in_order (λ one other. has_lower_priority one.now other.now) (ranks_by int_cmp_total (λ rule. rule.now.priority)) _ _
    (c.in_ok-sort_by_key.ensures.sorted (λ rule. rule.now.priority) (answers_always _ _ _ (λ f a r g h. search rules)))
    (c.sort_by_key.ensures.stable (λ rule. rule.now.priority) (answers_always _ _ _ (λ f a r g h. search rules))))
    ∙ map_in_order (λ (item : Bor Rich). item.now) has_lower_priority c.args.rules.items
