-- A service that is listed is one of the settings.
use Rattle.std.proofs.Common.{◌∙◌}
use Rattle.fw_zone_members.proofs.Flagged.{has_service}
use Rattle.fw_zone_members.proofs.flags.has_service.Goals as goal

pub returns : goal.returns
returns c = c.lists_service.ensures ∙ has_service c.args.rules.now c.args.name.now
