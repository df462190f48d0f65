use Rattle.std.proofs.Common.{rules, ◌≡◌, ◌∙◌, ap, map, Bor}
use Rattle.std.specs.Cmp.{int_cmp_total, on_total, then_total}
use Rattle.std.specs.Cmp.Lexicographic.{nat_list_cmp_total}
use Rattle.std.proofs.lemmas.List.Sorted.{answers_always, ranks_by}
use Rattle.fw_model.specs.declared.policy.Policy.{Policy}
use Rattle.fw_order.specs.Policies.{by_priority_and_name, comes_before}
use Rattle.fw_order.proofs.Ordered.{map_in_order, sorted_is_in_order}
use Rattle.fw_order.proofs.policies.by_priority_and_name.Goals as goal

pub returns : goal.returns
returns c =
    let order = ranks_by (then_total (on_total (λ (policy : Policy). policy.priority) int_cmp_total) (on_total (λ (policy : Policy). policy.name) nat_list_cmp_total)) (λ (item : Bor Policy). item.now) in
    ap (λ items. map (λ item. item.now) items)
    (sorted_is_in_order (λ one other. comes_before one.now other.now) order _ _
    (c.in_ok-sort_by.ensures.sorted (λ one other. comes_before one.now other.now) order (answers_always _ _ _ (λ f a r g h. search rules)))
    (c.sort_by.ensures.stable (λ one other. comes_before one.now other.now) order (answers_always _ _ _ (λ f a r g h. search rules))))
    ∙ map_in_order (λ (item : Bor Policy). item.now) comes_before c.args.policies.items
