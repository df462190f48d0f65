-- What the set is after an item was taken out.
use Rattle.std.proofs.Common.{◌≡◌, Err}
use Rattle.fw_ipset.specs.declared.error.SetError.TheVariants as error
use Rattle.fw_ipset_members.proofs.Edited.{removed_is, absent_is}
use Rattle.fw_ipset_members.proofs.edits.remove_from.Goals as goal

pub returns-in-Ok-clause-edits : goal.returns-in-Ok-clause-edits
returns-in-Ok-clause-edits c = removed_is c.args.set.now c.remove_item.new.set c.args.item.now c.in-Ok.ensures.removed

pub returns-in-Err-NotEnabled-clause-edits : goal.returns-in-Err-NotEnabled-clause-edits
returns-in-Err-NotEnabled-clause-edits c =
    let is : c.remove_item.result ≡ Err error.NotEnabled = cc in
    (absent_is c.args.set.now c.args.item.now (c.remove_item.ensures.absent.0 is).1, c.in-Err-NotEnabled.ensures.err)
