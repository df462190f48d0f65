use Rattle.std.proofs.Common.{◌++◌, sym}
use Rattle.std.proofs.lemmas.Result.{IfOk-weaker}
use Rattle.fw_verdict.specs.Items.{level_items}
use Rattle.fw_verdict.specs.Rich.{rich_items}
use Rattle.fw_verdict.specs.declared.rich.Part.TheVariants.{Post, Pre}
use Rattle.fw_verdict.proofs.Sequences.{ends, goes_on}
use Rattle.fw_verdict.proofs.Zones.{none}
use Rattle.fw_verdict.proofs.items.walk_rules.Goals as goal

pub returns-then-is_some : goal.returns-then-is_some
returns-then-is_some c =
    let config = c.args.config.now in
    let rules = c.args.rules.now in
    ends (rich_items config Pre rules.rich) (level_items config rules c.args.inversion ++ rich_items config Post rules.rich) c.args.packet.now _ _ _
    (sym c.if-is_some.ensures) c.in_ok-decided.ensures

pub returns-then-is_some-2 : goal.returns-then-is_some-2
returns-then-is_some-2 c =
    let config = c.args.config.now in
    let rules = c.args.rules.now in
    goes_on (rich_items config Pre rules.rich) (level_items config rules c.args.inversion ++ rich_items config Post rules.rich) c.args.packet.now _ _ _ _
    (none _ _ _ _ (sym c.if-is_some.ensures) c.in_ok-decided.ensures)
    (ends (level_items config rules c.args.inversion) (rich_items config Post rules.rich) c.args.packet.now _ _ _
    (sym c.if-is_some-2.ensures) c.in_ok-level.ensures)

pub returns : goal.returns
returns c =
    let config = c.args.config.now in
    let rules = c.args.rules.now in
    IfOk-weaker c.walk_part-2.result _ _
    (λ decided behind.
    goes_on (rich_items config Pre rules.rich) (level_items config rules c.args.inversion ++ rich_items config Post rules.rich) c.args.packet.now _ _ _ _
    (none _ _ _ _ (sym c.if-is_some.ensures) c.in_ok-decided.ensures)
    (goes_on (level_items config rules c.args.inversion) (rich_items config Post rules.rich) c.args.packet.now _ _ _ _
    (none _ _ _ _ (sym c.if-is_some-2.ensures) c.in_ok-level.ensures) behind))
    c.walk_part-2.ensures
