-- The address that was found, or none.
use Rattle.std.proofs.Common.{◌≡◌, Option, Err, ap, sym, subst, ◌∙◌}
use Rattle.fw_act.specs.Acts.{Reads}
use Rattle.fw_addr.specs.Addresses.{address}
use Rattle.fw_addr.specs.declared.addr.Addr.{Addr}
use Rattle.fw_answer.proofs.Found.{none_from, some_from}
use Rattle.fw_zone_members.specs.Reading.{ipv4_alone}
use Rattle.fw_zone_members.proofs.port.read_ipv4.Goals as goal

pub returns-in-Ok : goal.returns-in-Ok
returns-in-Ok c =
    subst (λ (found : Option Addr). Reads c.ipv4_of.result (ipv4_alone c.args.text.now found))
    (sym (some_from (address c.args.text.now) _ _ c.in-Ok.ensures)) c.ipv4_of.ensures

pub returns-in_ok-refuse-in-Err : goal.returns-in_ok-refuse-in-Err
returns-in_ok-refuse-in-Err c =
    ap (λ (found : Option Addr). ipv4_alone c.args.text.now found) (none_from (address c.args.text.now) _ _ c.in-Err.ensures)
    ∙ ap Err (sym c.in_ok-refuse-in-Err.ensures)
