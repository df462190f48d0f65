use Rattle.std.proofs.Common.{rules, ◌∙◌, ap, map, Bor}
use Rattle.std.proofs.lemmas.List.Sorted.{answers_always, ranks_by}
use Rattle.fw_model.specs.declared.zone.Zone.{Zone}
use Rattle.fw_order.proofs.Ordered.{map_in_order, sorted_is_in_order}
use Rattle.lower_dispatch.proofs.Orders.{zone_total}
use Rattle.lower_dispatch.specs.Forms.{has_lesser_name}
use Rattle.lower_dispatch.proofs.sources.by_name.Goals as goal

pub returns : goal.returns
returns c =
    let order = ranks_by zone_total (λ (item : Bor Zone). item.now) in
    ap (λ items. map (λ item. item.now) items)
    (sorted_is_in_order (λ one other. has_lesser_name one.now other.now) order _ _
    (c.in_ok-sort_by.ensures.sorted (λ one other. has_lesser_name one.now other.now) order (answers_always _ _ _ (λ f a r g h. search rules)))
    (c.sort_by.ensures.stable (λ one other. has_lesser_name one.now other.now) order (answers_always _ _ _ (λ f a r g h. search rules))))
    ∙ map_in_order (λ (item : Bor Zone). item.now) has_lesser_name c.args.zones.items
