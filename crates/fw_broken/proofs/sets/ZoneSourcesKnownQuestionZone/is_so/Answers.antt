-- The sets among the sources of a zone are known where each source is.
use Rattle.std.proofs.Common.{subst}
use Rattle.std.specs.Bool.{Decides}
use Rattle.fw_broken.proofs.Settings.{sources_known}
use Rattle.fw_broken.specs.Named.{IsBindingKnown}
use Rattle.fw_valid.specs.Each.{Each}
use Rattle.fw_broken.proofs.sets.ZoneSourcesKnownQuestionZone.is_so.Goals as goal

pub returns : goal.returns
returns c =
    sources_known c.args.config.now c.args.item.now _
    (subst (λ sources. Decides c.each.result (Each (IsBindingKnown c.args.config.now) sources)) c.as_slice.ensures c.each.ensures)
