-- The texts so far.
use Rattle.std.proofs.Common.{◌≡◌, take, map}
use Rattle.fw_ipset_members.specs.Items.{item_text}
use Rattle.fw_ipset_members.proofs.texts.item_texts.Given as goal

abbrev pub invariant-loop-item : goal.invariant-loop-item
invariant-loop-item l = l.texts ≡ map item_text (take l.item-index l.items)
