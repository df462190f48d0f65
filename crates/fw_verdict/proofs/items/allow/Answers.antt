use Rattle.std.proofs.Common.{sym}
use Rattle.std.proofs.lemmas.Result.{IfOk-weaker}
use Rattle.fw_verdict.specs.Items.{listed_items}
use Rattle.fw_verdict.specs.Rich.{rich_items}
use Rattle.fw_verdict.specs.declared.rich.Part.TheVariants.{Allow}
use Rattle.fw_verdict.proofs.Sequences.{ends, goes_on}
use Rattle.fw_verdict.proofs.Zones.{keeps_lines, none}
use Rattle.fw_verdict.proofs.items.allow.Goals as goal

pub returns-then-is_some : goal.returns-then-is_some
returns-then-is_some c =
    ends (rich_items c.args.config.now Allow c.args.rules.now.rich) (listed_items c.args.config.now c.args.rules.now c.args.inversion) c.args.packet.now _ _ _
    (sym c.if-is_some.ensures) c.in_ok-decided.ensures

pub returns : goal.returns
returns c =
    IfOk-weaker c.allow_listed.result _ _
    (λ decided lets_in.
    goes_on (rich_items c.args.config.now Allow c.args.rules.now.rich) (listed_items c.args.config.now c.args.rules.now c.args.inversion) c.args.packet.now _ _ _ _
    (none _ _ _ _ (sym c.if-is_some.ensures) c.in_ok-decided.ensures)
    (keeps_lines _ _ _ lets_in))
    c.allow_listed.ensures
