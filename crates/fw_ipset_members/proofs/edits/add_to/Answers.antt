-- What the set is after an item was added.
use Rattle.std.proofs.Common.{◌≡◌, Err}
use Rattle.fw_ipset.specs.declared.error.SetError.TheVariants as error
use Rattle.fw_ipset_members.proofs.Edited.{added_is, already_is}
use Rattle.fw_ipset_members.proofs.edits.add_to.Goals as goal

pub returns-in-Ok-clause-edits : goal.returns-in-Ok-clause-edits
returns-in-Ok-clause-edits c = added_is c.args.set.now c.add_item.new.set c.args.item c.requires c.in-Ok.ensures.added c.in-Ok.ensures.already

pub returns-in-Err-AlreadyEnabled-clause-edits : goal.returns-in-Err-AlreadyEnabled-clause-edits
returns-in-Err-AlreadyEnabled-clause-edits c =
    let is : c.add_item.result ≡ Err error.AlreadyEnabled = cc in
    (already_is c.args.set.now c.args.item (c.add_item.ensures.already.0 is).1, c.in-Err-AlreadyEnabled.ensures.err)
