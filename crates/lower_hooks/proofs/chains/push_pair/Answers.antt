use Rattle.std.proofs.Common.{◌∙◌, ◌++◌, ap, List, ℕ}
use Rattle.std.proofs.lemmas.Result.{on_ok_weaker}
use Rattle.lower_hooks.proofs.Doing.{forward_does}
use Rattle.lower_hooks.proofs.Kept.{grows_pushed, has_pushed, leads_pushed}
use Rattle.lower_hooks.proofs.Leading.{forward_leads}
use Rattle.lower_hooks.proofs.Named.{named_one}
use Rattle.lower_hooks.proofs.chains.push_pair.Goals as goal

pub returns-clause-grows : goal.returns-clause-grows
returns-clause-grows c = on_ok_weaker c.push_chain.result (λ are. grows_pushed _ _ _ _ are) c.push_chain.ensures

pub returns-clause-there : goal.returns-clause-there
returns-clause-there c =
    on_ok_weaker c.push_chain.result
    (λ are. has_pushed c.args.config.now _ _ _ _ _ _ are
    (c.in_ok-name.ensures ∙ ap (λ (start : List ℕ). start ++ c.args.to.now.name) (c.as_str.ensures ∙ c.in_ok-start.ensures)) c.in_ok-rules.ensures
    _ _ (forward_does c.args.config.now c.args.from.now c.args.to.now))
    c.push_chain.ensures

pub returns-clause-names : goal.returns-clause-names
returns-clause-names c =
    on_ok_weaker c.push_chain.result
    (λ are. named_one _ _ _ _ _ are (c.in_ok-name.ensures ∙ ap (λ (start : List ℕ). start ++ c.args.to.now.name) (c.as_str.ensures ∙ c.in_ok-start.ensures)))
    c.push_chain.ensures

pub returns-clause-leads : goal.returns-clause-leads
returns-clause-leads c =
    on_ok_weaker c.push_chain.result
    (λ are. leads_pushed c.args.config.now _ _ _ _ _ _ are
    (c.in_ok-name.ensures ∙ ap (λ (start : List ℕ). start ++ c.args.to.now.name) (c.as_str.ensures ∙ c.in_ok-start.ensures)) c.in_ok-rules.ensures
    _ (forward_leads c.args.config.now c.args.from.now c.args.to.now))
    c.push_chain.ensures
