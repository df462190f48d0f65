-- Each item fits where all do.
use Rattle.std.proofs.Common.{IsTrue, subst}
use Rattle.std.specs.Bool.{Decides}
use Rattle.std.proofs.lemmas.Bool.Decides.{Decides-at}
use Rattle.fw_broken.proofs.Lists.{tested}
use Rattle.fw_ipset.specs.Entries.{fits}
use Rattle.fw_model.specs.declared.ipset.Item.{Item}
use Rattle.fw_valid.specs.Each.{Each}
use Rattle.fw_broken.proofs.sets.items_fit.Goals as goal

pub returns : goal.returns
returns c =
    subst (λ items. Decides c.all_fit.result (Each (λ (item : Item). IsTrue (fits c.args.set.now item)) items)) c.as_slice.ensures
    (Decides-at _ _ c.all_fit.ensures (tested (λ (item : Item). IsTrue (fits c.args.set.now item)) (fits c.args.set.now) (λ item. (λ is. is, λ is. is)) c.as_slice.result.now))
