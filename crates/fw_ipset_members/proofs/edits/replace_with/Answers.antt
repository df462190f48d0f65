-- The items are kept once.
use Rattle.std.proofs.Common.{List, subst}
use Rattle.fw_ipset.specs.Once.{IsReplaced}
use Rattle.fw_ipset_members.proofs.Edited.{replaced_is}
use Rattle.fw_model.specs.declared.ipset.Item.{Item}
use Rattle.fw_ipset_members.proofs.edits.replace_with.Goals as goal

pub returns-in-Ok-clause-replaced : goal.returns-in-Ok-clause-replaced
returns-in-Ok-clause-replaced c =
    replaced_is c.args.set.now c.replace_items.new.set c.args.items
    (subst (λ (items : List Item). IsReplaced items c.args.set.now c.replace_items.new.set) c.into_vec.ensures c.in-Ok.ensures.replaced)
