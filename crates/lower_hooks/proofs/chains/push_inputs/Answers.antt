use Rattle.std.proofs.Common.{append-nil, ◌∙◌, ◌++◌, List, sym, ap, Bor}
use Rattle.std.proofs.lemmas.List.{take_all}
use Rattle.fw_model.specs.declared.zone.Zone.{Zone}
use Rattle.fw_order.specs.Borrowed.{lent}
use Rattle.lower_hooks.specs.Chains.{HasChain}
use Rattle.lower_hooks.specs.Leads.{HasLeads, IsInputTarget}
use Rattle.lower_hooks.specs.Names.{names_of, zone_names, input_start}
use Rattle.lower_hooks.specs.Zones.{InputStands, zone_to_host}
use Rattle.lower_hooks.proofs.Named.{named_more}
use Rattle.lower_hooks.proofs.Kept.{has_kept, leads_kept, grows_not, grows_on, for_all, one_more}
use Rattle.lower_hooks.proofs.chains.push_inputs.Goals as goal

pub loop-zone-init : goal.loop-zone-init
loop-zone-init c = (grows_not c.args.chains.now, λ zone among. absurd among, sym (append-nil (names_of c.args.chains.now)), λ zone among. absurd among)

pub loop-zone-preserved : goal.loop-zone-preserved
loop-zone-preserved c =
    let config = c.args.config.now in (
      grows_on _ _ _ c.loop-zone.invariant.0 c.in_ok-push_input.ensures.grows,
      one_more (λ zone. HasChain config (InputStands config zone) (zone_to_host config zone) (input_start ++ zone.name) c.push_input.new.chains) c.args.zones.now c.loop-zone.zone-index c.zone-item.result c.loop-zone-test.true c.zone-item.is
          (λ zone among. has_kept config _ _ _ _ _ c.in_ok-push_input.ensures.grows (c.loop-zone.invariant.1 zone among))
          c.in_ok-push_input.ensures.there,
      named_more (λ (zone : Zone). input_start ++ zone.name) c.args.zones.now c.loop-zone.zone-index c.zone-item.result (names_of c.args.chains.now) _ _ c.loop-zone-test.true c.zone-item.is
          c.loop-zone.invariant.2 c.in_ok-push_input.ensures.names,
      one_more (λ zone. HasLeads config (IsInputTarget config zone) (input_start ++ zone.name) c.push_input.new.chains) c.args.zones.now c.loop-zone.zone-index c.zone-item.result c.loop-zone-test.true c.zone-item.is
          (λ zone among. leads_kept config _ _ _ _ c.in_ok-push_input.ensures.grows (c.loop-zone.invariant.3 zone among))
          c.in_ok-push_input.ensures.leads,
    )

pub returns-clause-grows : goal.returns-clause-grows
returns-clause-grows c = c.loop-zone.invariant.0

pub returns-clause-there : goal.returns-clause-there
returns-clause-there c = for_all _ c.args.zones.now c.loop-zone.zone-index c.loop-zone-test.false c.loop-zone.invariant.1

pub returns-clause-names : goal.returns-clause-names
returns-clause-names c =
    c.loop-zone.invariant.2 ∙ ap (λ (list : List (Bor Zone)). names_of c.args.chains.now ++ zone_names input_start (lent list)) (take_all c.loop-zone.zone-index c.args.zones.now c.loop-zone-test.false)

pub returns-clause-leads : goal.returns-clause-leads
returns-clause-leads c = for_all _ c.args.zones.now c.loop-zone.zone-index c.loop-zone-test.false c.loop-zone.invariant.3
