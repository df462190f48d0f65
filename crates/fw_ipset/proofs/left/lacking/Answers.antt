-- The keys that were seen are those of the others, and an item whose key wasn't seen is none of them.
use Rattle.std.proofs.Common.{◌≡◌, ◌∙◌, ℕ, ◌+◌, ◌<◌, [], ◌∷◌, ◌++◌, List, length, take, get_or, subst, sym, ap}
use Rattle.std.proofs.lemmas.List.{take_all, take_more}
use Rattle.fw_ipset.proofs.Seen.{HasSeen, is_among, is_not_among, seen_now}
use Rattle.fw_ipset.specs.Lacking.{IsLacking}
use Rattle.fw_ipset.specs.Lacking.IsLacking.{nothing, lacked, held}
use Rattle.fw_model.specs.declared.ipset.Item.{Item}
use Rattle.fw_ipset.proofs.left.lacking.Goals as goal
use Rattle.fw_ipset.proofs.left.lacking.Goals.{then-not-contains+in_ok-push, else-not-contains}

one_more : (items : List Item) (place : ℕ) (item : Item) → place < length items → item ≡ get_or items place item → take place items ++ item ∷ [] ≡ take (place + 1) items
one_more items place item within is = ap (λ (one : Item). take place items ++ one ∷ []) is ∙ sym (take_more items place item within)

pub loop-other-preserved : goal.loop-other-preserved
loop-other-preserved c =
    subst (λ (list : List Item). HasSeen c.insert.new.self list) (one_more c.args.others.now c.loop-other.other-index c.other-item.result c.loop-other-test.true c.other-item.is)
    (seen_now c.loop-other.seen c.insert.new.self (take c.loop-other.other-index c.args.others.now) c.other-item.result c.key_of.result c.loop-other.invariant c.key_of.ensures c.in_ok-insert.ensures.updates.0)

pub loop-item-init : goal.loop-item-init
loop-item-init c = subst (λ (left : List Item). IsLacking c.args.others.now [] left) (sym c.new-left.ensures) nothing

pub loop-item-preserved : goal.loop-item-preserved
loop-item-preserved c =
    let all : HasSeen c.loop-other.seen c.args.others.now =
    subst (λ (list : List Item). HasSeen c.loop-other.seen list) (take_all c.loop-other.other-index c.args.others.now c.loop-other-test.false) c.loop-other.invariant in
    let front = one_more c.args.items.now c.loop-item.item-index c.item-item.result c.loop-item-test.true c.item-item.is in
    elim c.if-not-contains.branch [
      | then-not-contains+in_ok-push w ↦
          subst (λ (list : List Item). IsLacking c.args.others.now list c.if-not-contains.left) front
          (subst (λ (left : List Item). IsLacking c.args.others.now (take c.loop-item.item-index c.args.items.now ++ c.item-item.result ∷ []) left) (sym (w.left-is ∙ w.in_ok-push.ensures.ok))
          (lacked c.item-item.result c.loop-item.invariant (is_not_among c.loop-other.seen c.args.others.now c.item-item.result c.key_of-in-loop-item.result c.contains.result all c.key_of-in-loop-item.ensures c.contains.ensures w.if-not-contains.true)))
      | else-not-contains w ↦
          subst (λ (list : List Item). IsLacking c.args.others.now list c.if-not-contains.left) front
          (subst (λ (left : List Item). IsLacking c.args.others.now (take c.loop-item.item-index c.args.items.now ++ c.item-item.result ∷ []) left) (sym w.left-is)
          (held c.item-item.result c.loop-item.invariant (is_among c.loop-other.seen c.args.others.now c.item-item.result c.key_of-in-loop-item.result c.contains.result all c.key_of-in-loop-item.ensures c.contains.ensures w.if-not-contains.false)))
    ]
