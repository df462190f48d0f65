-- Of all settings it is so where it is of those of zones and of those of policies.
use Rattle.std.proofs.Common.{subst}
use Rattle.std.specs.Bool.{Decides}
use Rattle.fw_model.specs.declared.policy.Policy.{Policy}
use Rattle.fw_model.specs.declared.zone.Zone.{Zone}
use Rattle.fw_valid.specs.Each.{Each}
use Rattle.fw_broken.proofs.Settings.{rules_not_so, rules_so}
use Rattle.fw_broken.proofs.each.each_rules.Goals as goal

pub returns-then-each_of : goal.returns-then-each_of
returns-then-each_of g c =
    rules_so (g.Q.Question.asked c.args.config.now) c.args.config.now _ _
    (subst (λ zones. Decides c.each_of.result (Each (λ (zone : Zone). g.Q.Question.asked c.args.config.now zone.rules) zones)) c.as_slice.ensures c.each_of.ensures)
    c.if-each_of.true
    (subst (λ policies. Decides c.each_of-then-each_of.result (Each (λ (policy : Policy). g.Q.Question.asked c.args.config.now policy.rules) policies)) c.as_slice-then-each_of.ensures c.each_of-then-each_of.ensures)

pub returns-else-each_of : goal.returns-else-each_of
returns-else-each_of g c =
    rules_not_so (g.Q.Question.asked c.args.config.now) c.args.config.now _
    (subst (λ zones. Decides c.each_of.result (Each (λ (zone : Zone). g.Q.Question.asked c.args.config.now zone.rules) zones)) c.as_slice.ensures c.each_of.ensures)
    c.if-each_of.false
