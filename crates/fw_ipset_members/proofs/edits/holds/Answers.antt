-- Whether the item is held, by its test.
use Rattle.fw_ipset_members.proofs.Edited.{holds_is}
use Rattle.fw_ipset_members.proofs.edits.holds.Goals as goal

pub returns : goal.returns
returns c = holds_is c.args.set.now c.args.item.now c.has_item.result c.has_item.ensures
