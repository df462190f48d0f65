-- The items that are kept are those that a test keeps.
use Rattle.std.proofs.Common.{◌≡◌, List, subst}
use Rattle.std.proofs.lemmas.Result.{IfOk-weaker}
use Rattle.fw_ipset.specs.Once.{IsKeptOnce}
use Rattle.fw_ipset_members.proofs.Once.{once_is}
use Rattle.fw_ipset_members.specs.Items.{each_once}
use Rattle.fw_model.specs.declared.ipset.Item.{Item}
use Rattle.fw_ipset_members.proofs.replace.items_once.Goals as goal

pub returns : goal.returns
returns c =
    IfOk-weaker c.keep_once.result (λ (kept : List Item). IsKeptOnce c.into_vec.result.items kept)
    (λ (kept : List Item). kept ≡ each_once c.args.items)
    (λ kept once. once_is c.args.items kept (subst (λ (items : List Item). IsKeptOnce items kept) c.into_vec.ensures once)) c.keep_once.ensures
