use Rattle.std.proofs.Common.{◌∙◌, sym, append-nil}
use Rattle.fw_verdict.specs.declared.rich.Part.TheVariants.{Allow, Deny, Post, Pre}
use Rattle.fw_verdict.proofs.RichRules.{acts, misses}
use Rattle.fw_verdict.proofs.rich.act_in.Goals as goal

pub returns-then-not-branch : goal.returns-then-not-branch
returns-then-not-branch c =
    misses c.args.config.now c.args.rule.now c.args.packet.now c.args.part c.args.logs.now
    (sym c.in_ok-hits_rich.ensures ∙ c.if-not-branch.true)

pub returns-in-Deny : goal.returns-in-Deny
returns-in-Deny c =
    acts c.args.config.now c.args.rule.now c.args.packet.now c.args.part Deny _ _ _
    (sym c.in_ok-hits_rich.ensures ∙ c.if-not-branch.false) c.in-Deny.is c.decide.ensures (sym (append-nil c.args.logs.now))

pub returns-in-Allow : goal.returns-in-Allow
returns-in-Allow c =
    acts c.args.config.now c.args.rule.now c.args.packet.now c.args.part Allow _ _ _
    (sym c.in_ok-hits_rich.ensures ∙ c.if-not-branch.false) c.in-Allow.is c.decide-in-Allow.ensures (sym (append-nil c.args.logs.now))

pub returns-in_ok-log_lines-in-Pre : goal.returns-in_ok-log_lines-in-Pre
returns-in_ok-log_lines-in-Pre c =
    acts c.args.config.now c.args.rule.now c.args.packet.now c.args.part Pre _ _ _
    (sym c.in_ok-hits_rich.ensures ∙ c.if-not-branch.false) c.in-Pre.is c.decide-in-Pre.ensures c.in_ok-log_lines-in-Pre.ensures

pub returns-in_ok-log_lines-in-Post : goal.returns-in_ok-log_lines-in-Post
returns-in_ok-log_lines-in-Post c =
    acts c.args.config.now c.args.rule.now c.args.packet.now c.args.part Post _ _ _
    (sym c.in_ok-hits_rich.ensures ∙ c.if-not-branch.false) c.in-Post.is c.decide-in-Post.ensures c.in_ok-log_lines-in-Post.ensures
