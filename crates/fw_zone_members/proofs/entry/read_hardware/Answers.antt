-- No hardware address was found.
use Rattle.std.proofs.Common.{◌≡◌, ℕ, Option, None, Some, Err, ap, sym, ◌∙◌}
use Rattle.fw_addr.specs.Hardware.{mac}
use Rattle.fw_answer.proofs.Found.{none_from}
use Rattle.fw_zone_members.specs.Reading.{address_source}
use Rattle.fw_zone_members.proofs.entry.read_hardware.Goals as goal

pub returns-in_ok-refuse-in-Err : goal.returns-in_ok-refuse-in-Err
returns-in_ok-refuse-in-Err c =
    ap (λ (found : Option ℕ). address_source c.args.text.now None found) (none_from (mac c.args.text.now) _ _ c.in-Err.ensures)
    ∙ ap Err (sym c.in_ok-refuse-in-Err.ensures)
