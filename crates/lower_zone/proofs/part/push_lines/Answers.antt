use Rattle.std.proofs.lemmas.Result.{on_ok_weaker}
use Rattle.fw_verdict.specs.Rich.{audited, logged}
use Rattle.lower_zone.proofs.Works.{adds_lists}
use Rattle.lower_zone.proofs.part.push_lines.Goals as goal

pub returns-clause-adds : goal.returns-clause-adds
returns-clause-adds c =
    on_ok_weaker c.push_audit.result
    (λ adds config tells.
    adds_lists config (logged config c.args.rule.now c.args.rule.now.log) (audited config c.args.rule.now c.args.rule.now.audit c.args.rule.now.action) _ _ _ _ _ _
    (c.in_ok-push_log.ensures.adds config tells) (adds config tells))
    c.push_audit.ensures.adds

pub returns-clause-names : goal.returns-clause-names
returns-clause-names c =
    on_ok_weaker c.push_audit.result (λ second parts named. second parts (c.in_ok-push_log.ensures.names parts named)) c.push_audit.ensures.names
