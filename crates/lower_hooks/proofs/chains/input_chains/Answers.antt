use Rattle.std.proofs.Common.{◌++◌, ◌∙◌, ◌∷◌, [], List, ap}
use Rattle.fw_order.specs.Borrowed.{lent}
use Rattle.lower_hooks.specs.Chains.{base_chain}
use Rattle.lower_hooks.specs.Names.{input_start, names_of, zone_names}
use Rattle.lower_hooks.proofs.Kept.{known_base}
use Rattle.lower_hooks.proofs.Leading.{base_leads, early_nowhere}
use Rattle.nf_rules.specs.declared.chain.Hook.TheVariants as hook
use Rattle.std.specs.Prelude.{codes}
use Rattle.lower_hooks.proofs.Ways.{input_works}
use Rattle.lower_hooks.proofs.chains.input_chains.Goals as goal
use Rattle.nf_rules.specs.declared.chain.Chain.{Chain}

pub returns-clause-works : goal.returns-clause-works
returns-clause-works c =
    input_works c.args.config.now (lent c.args.zones.now) _ _ c.in_ok-dispatched.ensures.leads
    (known_base _ _ _ _ _ _ _ c.in_ok-chains.ensures c.in_ok-base_chain.ensures c.in_ok-rules.ensures c.in_ok-push_inputs.ensures.grows)
    c.in_ok-push_inputs.ensures.there

pub returns-clause-names : goal.returns-clause-names
returns-clause-names c =
    c.in_ok-push_inputs.ensures.names
    ∙ ap (λ (list : List Chain). names_of list ++ zone_names input_start (lent c.args.zones.now)) (c.in_ok-chains.ensures ∙ ap (λ (chain : Chain). chain ∷ []) (c.in_ok-base_chain.ensures ∙ ap (base_chain (codes "filter_INPUT") hook.Input) c.in_ok-rules.ensures))

pub returns-clause-leads : goal.returns-clause-leads
returns-clause-leads c = record {
  base = base_leads _ _ _ _ _ _ _
      (known_base _ _ _ _ _ _ _ c.in_ok-chains.ensures c.in_ok-base_chain.ensures c.in_ok-rules.ensures c.in_ok-push_inputs.ensures.grows)
      (early_nowhere _ _) c.in_ok-dispatched.ensures.stands;
  zone = c.in_ok-push_inputs.ensures.leads;
}
