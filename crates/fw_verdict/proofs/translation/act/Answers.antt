use Rattle.std.proofs.Common.{◌∙◌, sym}
use Rattle.fw_verdict.proofs.Placed.{sends_hit, sends_missed}
use Rattle.fw_verdict.proofs.translation.act.Goals as goal

pub returns-then-not-branch : goal.returns-then-not-branch
returns-then-not-branch c =
    sends_missed c.args.config.now c.args.rule.now c.args.packet.now c.args.logs.now
    (sym c.in_ok-hits_rich.ensures ∙ c.if-not-branch.true)

pub returns : goal.returns
returns c =
    sends_hit c.args.config.now c.args.rule.now c.args.packet.now _ _ _
    (sym c.in_ok-hits_rich.ensures ∙ c.if-not-branch.false) c.in_ok-log.ensures c.target_by.ensures
