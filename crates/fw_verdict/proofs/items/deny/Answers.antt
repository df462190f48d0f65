use Rattle.std.proofs.Common.{sym}
use Rattle.fw_verdict.specs.Items.{icmp_denied}
use Rattle.fw_verdict.specs.Rich.{rich_items}
use Rattle.fw_verdict.specs.declared.rich.Part.TheVariants.{Deny}
use Rattle.fw_verdict.proofs.Sequences.{ends, goes_on}
use Rattle.fw_verdict.proofs.Zones.{keeps_lines, none}
use Rattle.fw_verdict.proofs.items.deny.Goals as goal

pub returns-then-is_some : goal.returns-then-is_some
returns-then-is_some c =
    ends (rich_items c.args.config.now Deny c.args.rules.now.rich) (icmp_denied c.args.config.now c.args.rules.now c.args.inversion) c.args.packet.now _ _ _
    (sym c.if-is_some.ensures) c.in_ok-decided.ensures

pub returns : goal.returns
returns c =
    goes_on (rich_items c.args.config.now Deny c.args.rules.now.rich) (icmp_denied c.args.config.now c.args.rules.now c.args.inversion) c.args.packet.now _ _ _ _
    (none _ _ _ _ (sym c.if-is_some.ensures) c.in_ok-decided.ensures)
    (keeps_lines _ _ _ (c.deny_icmp.ensures c.args.config.now))
