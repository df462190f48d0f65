-- A source that is a set is known where the set is.
use Rattle.std.proofs.Common.{subst, sym}
use Rattle.std.specs.Bool.{Decides}
use Rattle.fw_broken.proofs.Settings.{set_known}
use Rattle.fw_broken.specs.Named.{IsBindingKnown}
use Rattle.fw_valid.specs.Names.{ipset_names}
use Rattle.fw_zone.specs.Lists.{IsIn}
use Rattle.fw_broken.proofs.sets.BindingKnownQuestionBinding.is_so.Goals as goal

pub returns-in-Set : goal.returns-in-Set
returns-in-Set c =
    subst (λ source. Decides c.is_ipset.result (IsBindingKnown c.args.config.now source)) (sym c.in-Set.is)
    (set_known c.args.config.now _ _ (subst (λ name. Decides c.is_ipset.result (IsIn name (ipset_names c.args.config.now))) c.as_str.ensures c.is_ipset.ensures))
