use Rattle.std.proofs.Common.{ap, ◌∙◌}
use Rattle.fw_settings.specs.Starting.{started}
use Rattle.fw_history.proofs.Keeping.{begins}
use Rattle.fw_history.proofs.history.History.begin.Goals as goal

pub invariant_of-result : goal.invariant_of-result
invariant_of-result c =
    begins _ (c.in_ok-settings.ensures ∙ ap started c.in_ok-copy.ensures) c.new.ensures.entries c.new.ensures.told (c.first_settings_are_valid.ensures _ c.requires.valid) c.requires.limit
