use Rattle.std.proofs.lemmas.Result.{on_ok_weaker}
use Rattle.lower_hooks.proofs.Doing.{input_does}
use Rattle.lower_hooks.proofs.Kept.{grows_pushed, has_pushed, leads_pushed}
use Rattle.lower_hooks.proofs.Leading.{input_leads}
use Rattle.lower_hooks.proofs.Named.{named_one}
use Rattle.lower_hooks.proofs.chains.push_input.Goals as goal

pub returns-clause-grows : goal.returns-clause-grows
returns-clause-grows c = on_ok_weaker c.push_chain.result (λ are. grows_pushed _ _ _ _ are) c.push_chain.ensures

pub returns-clause-there : goal.returns-clause-there
returns-clause-there c =
    on_ok_weaker c.push_chain.result
    (λ are. has_pushed c.args.config.now _ _ _ _ _ _ are c.in_ok-name.ensures c.in_ok-rules.ensures _ _ (input_does c.args.config.now c.args.zone.now)) c.push_chain.ensures

pub returns-clause-names : goal.returns-clause-names
returns-clause-names c = on_ok_weaker c.push_chain.result (λ are. named_one _ _ _ _ _ are c.in_ok-name.ensures) c.push_chain.ensures

pub returns-clause-leads : goal.returns-clause-leads
returns-clause-leads c =
    on_ok_weaker c.push_chain.result
    (λ are. leads_pushed c.args.config.now _ _ _ _ _ _ are c.in_ok-name.ensures c.in_ok-rules.ensures _ (input_leads c.args.config.now c.args.zone.now)) c.push_chain.ensures
