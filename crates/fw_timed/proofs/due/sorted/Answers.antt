use Rattle.std.proofs.Common.{rules, ◌≡◌, ◌∙◌, ap, map, Bor}
use Rattle.std.specs.Cmp.{nat_cmp_total}
use Rattle.std.proofs.lemmas.List.Sorted.{answers_always, ranks_by}
use Rattle.fw_model.specs.declared.setting.Timed.{Timed}
use Rattle.fw_order.proofs.Ordered.{map_in_order, sorted_is_in_order}
use Rattle.fw_timed.specs.Timers.{ends_before}
use Rattle.fw_timed.proofs.due.sorted.Goals as goal

pub returns : goal.returns
returns c =
    ap (λ items. map (λ item. item.now) items)
    (sorted_is_in_order (λ one other. ends_before one.now other.now) (ranks_by nat_cmp_total (λ timed. timed.now.deadline)) _ _
    (c.in_ok-sort_by_key.ensures.sorted (λ timed. timed.now.deadline) (answers_always _ _ _ (λ f a r g h. search rules)))
    (c.sort_by_key.ensures.stable (λ timed. timed.now.deadline) (answers_always _ _ _ (λ f a r g h. search rules))))
    ∙ map_in_order (λ (item : Bor Timed). item.now) ends_before c.args.timers.items
