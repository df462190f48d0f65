-- The sets that rich rules name are known where those of each are.
use Rattle.std.proofs.Common.{subst}
use Rattle.std.specs.Bool.{Decides}
use Rattle.fw_broken.proofs.Settings.{sets_known}
use Rattle.fw_broken.specs.Named.{AreSidesKnown}
use Rattle.fw_valid.specs.Each.{Each}
use Rattle.fw_broken.proofs.sets.RichSetsKnownQuestionRules.is_so.Goals as goal

pub returns : goal.returns
returns c =
    sets_known c.args.config.now c.args.item.now _
    (subst (λ rules. Decides c.each.result (Each (AreSidesKnown c.args.config.now) rules)) c.as_slice.ensures c.each.ensures)
