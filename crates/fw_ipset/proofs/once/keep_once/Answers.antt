-- An item is kept where its key is new.
use Rattle.std.proofs.Common.{◌≡◌, [], List, subst, sym}
use Rattle.fw_ipset.proofs.Seen.{keep_first, keep_no_more, none_seen, seen_now}
use Rattle.fw_ipset.specs.Once.{IsKeptOnce}
use Rattle.fw_ipset.specs.Once.IsKeptOnce.{nothing}
use Rattle.fw_model.specs.declared.ipset.Item.{Item}
use Rattle.fw_ipset.proofs.once.keep_once.Goals as goal

pub loop-item-init : goal.loop-item-init
loop-item-init c = record {
  once = subst (λ (list : List Item). IsKeptOnce [] list) (sym c.new-kept.ensures) nothing;
  seen = none_seen c.new-seen.result c.new-seen.ensures.empty;
}

pub loop-item-preserved-in-Continue-branch-2 : goal.loop-item-preserved-in-Continue-branch-2
loop-item-preserved-in-Continue-branch-2 c = record {
  once = keep_first c.loop-item.seen c.insert.new.self c.loop-item.yielded _ _ c.in-Some.item c.key_of.result c.in_ok-insert.field-0 c.loop-item.invariant.seen c.loop-item.invariant.once c.key_of.ensures c.in_ok-insert.ensures.added c.if-branch.true c.in_ok-push.ensures.ok;
  seen = seen_now c.loop-item.seen c.insert.new.self c.loop-item.yielded c.in-Some.item c.key_of.result c.loop-item.invariant.seen c.key_of.ensures c.in_ok-insert.ensures.updates.0;
}

pub loop-item-preserved : goal.loop-item-preserved
loop-item-preserved c = record {
  once = keep_no_more c.loop-item.seen c.insert.new.self c.loop-item.yielded _ c.in-Some.item c.key_of.result c.in_ok-insert.field-0 c.loop-item.invariant.seen c.loop-item.invariant.once c.key_of.ensures c.in_ok-insert.ensures.added c.if-branch.false;
  seen = seen_now c.loop-item.seen c.insert.new.self c.loop-item.yielded c.in-Some.item c.key_of.result c.loop-item.invariant.seen c.key_of.ensures c.in_ok-insert.ensures.updates.0;
}
