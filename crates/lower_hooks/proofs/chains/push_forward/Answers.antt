use Rattle.std.proofs.Common.{append_assoc, ◌≡◌, ◌∙◌, ◌++◌, ◌∷◌, [], List, ℕ, ap, subst}
use Rattle.lower_dispatch.specs.Dispatch.{Dispatches}
use Rattle.lower_dispatch.specs.declared.direction.Direction.TheVariants as direction
use Rattle.fw_zone.specs.Lists.{IsIn}
use Rattle.lower_dispatch.specs.Uses.{LeadToZones}
use Rattle.lower_hooks.specs.Chains.{Grows}
use Rattle.lower_hooks.specs.Names.{forward_start, names_of, pair_start, zone_names}
use Rattle.lower_hooks.proofs.Kept.{grows_on, grows_pushed, last_pushed}
use Rattle.lower_hooks.proofs.chains.push_forward.Goals as goal
use Rattle.lower_zone.specs.Forms.{chain_named}
use Rattle.nf_rules.specs.declared.chain.Chain.{Chain}
use Rattle.nf_rules.specs.declared.rule.Rule.{Rule}
use Rattle.lower_hooks.proofs.Leading.{leads_zones}
use Rattle.lower_hooks.proofs.Named.{named_one}
use Rattle.fw_order.specs.Borrowed.{lent}

pub returns-clause-grows : goal.returns-clause-grows
returns-clause-grows c = grows_on _ _ _ (grows_pushed _ _ _ _ c.in_ok-push_chain.ensures) c.in_ok-push_pairs.ensures.grows

first_there : (old pushed new : List Chain) (wanted name : List ℕ) (made : List Rule)
    → pushed ≡ old ++ chain_named name made ∷ [] → name ≡ wanted → Grows pushed new → IsIn (chain_named wanted made) new
first_there old pushed new wanted name made are is grows =
    grows.kept (chain_named wanted made) (last_pushed old pushed (chain_named wanted made) (are ∙ ap (λ (one : List ℕ). old ++ chain_named one made ∷ []) is))

pub returns-clause-there : goal.returns-clause-there
returns-clause-there c = record {
  rules = c.in_ok-rules.rules;
  there = first_there _ _ _ _ _ _ c.in_ok-push_chain.ensures c.in_ok-name.ensures c.in_ok-push_pairs.ensures.grows;
  leads = subst (λ (start : List ℕ). Dispatches c.args.config.now direction.Egress start c.in_ok-rules.rules) (c.as_str.ensures ∙ c.in_ok-start.ensures) c.in_ok-rules.ensures.leads;
  pairs = c.in_ok-push_pairs.ensures.there;
}

pub returns-clause-names : goal.returns-clause-names
returns-clause-names c =
    c.in_ok-push_pairs.ensures.names
    ∙ ap (λ (list : List (List ℕ)). list ++ zone_names (pair_start c.args.from.now.name) (lent c.args.zones.now)) (named_one _ _ _ _ _ c.in_ok-push_chain.ensures c.in_ok-name.ensures)
    ∙ append_assoc (names_of c.args.chains.now) ((forward_start ++ c.args.from.now.name) ∷ []) (zone_names (pair_start c.args.from.now.name) (lent c.args.zones.now))

pub returns-clause-leads : goal.returns-clause-leads
returns-clause-leads c = record {
  first = record {
    rules = c.in_ok-rules.rules;
    there = first_there _ _ _ _ _ _ c.in_ok-push_chain.ensures c.in_ok-name.ensures c.in_ok-push_pairs.ensures.grows;
    leads = leads_zones c.args.config.now (pair_start c.args.from.now.name) c.in_ok-rules.rules
        (subst (λ (start : List ℕ). LeadToZones c.args.config.now start c.in_ok-rules.rules) (c.as_str.ensures ∙ c.in_ok-start.ensures) c.in_ok-rules.ensures.stands);
  };
  pairs = c.in_ok-push_pairs.ensures.leads;
}
