-- The items that are left are those that a test leaves.
use Rattle.std.proofs.Common.{◌≡◌, List}
use Rattle.std.proofs.lemmas.Result.{IfOk-weaker}
use Rattle.fw_ipset.specs.Lacking.{IsLacking}
use Rattle.fw_ipset_members.proofs.Once.{lacking_is}
use Rattle.fw_ipset_members.specs.Items.{none_of}
use Rattle.fw_model.specs.declared.ipset.Item.{Item}
use Rattle.fw_ipset_members.proofs.replace.items_none_of.Goals as goal

pub returns : goal.returns
returns c =
    IfOk-weaker c.lacking.result (λ (left : List Item). IsLacking c.args.others.now c.args.items.now left)
    (λ (left : List Item). left ≡ none_of c.args.others.now c.args.items.now)
    (lacking_is c.args.others.now c.args.items.now) c.lacking.ensures
