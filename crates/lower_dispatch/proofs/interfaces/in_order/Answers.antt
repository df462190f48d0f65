use Rattle.std.proofs.Common.{rules, ◌∙◌, ap, map}
use Rattle.std.proofs.lemmas.List.Sorted.{answers_always, ranks_by}
use Rattle.fw_order.proofs.Ordered.{map_in_order, sorted_is_in_order}
use Rattle.lower_dispatch.proofs.Orders.{entry_total}
use Rattle.lower_dispatch.specs.Forms.{comes_first}
use Rattle.lower_dispatch.specs.Sorting.{entry_of}
use Rattle.lower_dispatch.proofs.interfaces.in_order.Goals as goal

pub returns : goal.returns
returns c =
    let order = ranks_by entry_total entry_of in
    ap (λ items. map entry_of items)
    (sorted_is_in_order (λ one other. comes_first (entry_of one) (entry_of other)) order _ _
    (c.in_ok-sort_by.ensures.sorted (λ one other. comes_first (entry_of one) (entry_of other)) order (answers_always _ _ _ (λ f a r g h. search rules)))
    (c.sort_by.ensures.stable (λ one other. comes_first (entry_of one) (entry_of other)) order (answers_always _ _ _ (λ f a r g h. search rules))))
    ∙ map_in_order entry_of comes_first c.args.entries.items
