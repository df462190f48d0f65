-- The protocol that was found, or the refusal.
use Rattle.std.proofs.Common.{◌≡◌, ℕ, Option, None, Some, Result, Ok, Err, ap, sym, ◌∙◌}
use Rattle.fw_addr.specs.Protocols.{proto}
use Rattle.fw_answer.proofs.Found.{none_from, some_from}
use Rattle.fw_zone_members.specs.Reading.{protocol_from}
use Rattle.fw_zone_members.proofs.setting.read_protocol.Goals as goal

pub returns-in-Ok : goal.returns-in-Ok
returns-in-Ok c = ap (λ (found : Option ℕ). protocol_from c.args.protocol.now found) (some_from (proto c.args.protocol.now) _ _ c.in-Ok.ensures)

pub returns-in_ok-refuse-in-Err : goal.returns-in_ok-refuse-in-Err
returns-in_ok-refuse-in-Err c =
    ap (λ (found : Option ℕ). protocol_from c.args.protocol.now found) (none_from (proto c.args.protocol.now) _ _ c.in-Err.ensures)
    ∙ ap Err (sym c.in_ok-refuse-in-Err.ensures)
