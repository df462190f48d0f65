-- The net that was found, or none.
use Rattle.std.proofs.Common.{◌≡◌, ℕ, Option, None, Some, ap, sym, subst}
use Rattle.fw_addr.specs.Hardware.{mac}
use Rattle.fw_addr.specs.Nets.{net}
use Rattle.fw_addr.specs.Subnets.{Subnet}
use Rattle.fw_answer.proofs.Found.{none_from, some_from}
use Rattle.fw_zone_members.specs.Reading.{address_source}
use Rattle.fw_act.specs.Acts.{Reads}
use Rattle.fw_zone_members.proofs.entry.read_address.Goals as goal

pub returns-in-Ok : goal.returns-in-Ok
returns-in-Ok c =
    ap (λ (found : Option Subnet). address_source c.args.text.now found (mac c.args.text.now)) (some_from (net c.args.text.now) _ _ c.in-Ok.ensures)

pub returns-in-Err : goal.returns-in-Err
returns-in-Err c =
    subst (λ (found : Option Subnet). Reads c.read_hardware.result (address_source c.args.text.now found (mac c.args.text.now)))
    (sym (none_from (net c.args.text.now) _ _ c.in-Err.ensures)) c.read_hardware.ensures
