use Rattle.std.proofs.Common.{◌∙◌, Some, None, sym, ap}
use Rattle.std.specs.Prelude.{if◌then◌else◌, Bool}
use Rattle.fw_verdict.specs.Walk.{silently}
use Rattle.fw_verdict.specs.Way.{reject}
use Rattle.fw_verdict.proofs.Zones.{denied}
use Rattle.fw_verdict.proofs.items.deny_icmp.Goals as goal

pub returns-then-is_blocked : goal.returns-then-is_blocked
returns-then-is_blocked c = λ config.
    denied config c.args.rules.now c.args.inversion c.args.packet.now
    ∙ ap (λ (blocked : Bool). silently (if blocked then Some reject else None)) (sym c.is_blocked.ensures ∙ c.if-is_blocked.true)

pub returns-else-is_blocked : goal.returns-else-is_blocked
returns-else-is_blocked c = λ config.
    denied config c.args.rules.now c.args.inversion c.args.packet.now
    ∙ ap (λ (blocked : Bool). silently (if blocked then Some reject else None)) (sym c.is_blocked.ensures ∙ c.if-is_blocked.false)
