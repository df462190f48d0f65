use Rattle.std.proofs.Common.{append-nil, ◌++◌, ◌∙◌, List, sym, ap, Bor}
use Rattle.std.proofs.lemmas.List.{take_all}
use Rattle.fw_model.specs.declared.zone.Zone.{Zone}
use Rattle.fw_order.specs.Borrowed.{lent}
use Rattle.lower_hooks.specs.Chains.{HasPairs}
use Rattle.lower_hooks.specs.Leads.{PairsLead}
use Rattle.lower_hooks.specs.Names.{forward_names, from_names, names_of}
use Rattle.lower_hooks.proofs.Lists.{added_more}
use Rattle.lower_hooks.proofs.Kept.{grows_not, grows_on, for_all, one_more, pairs_kept, pairs_lead}
use Rattle.lower_hooks.proofs.chains.push_forwards.Goals as goal

pub loop-zone-init : goal.loop-zone-init
loop-zone-init c = (grows_not c.args.chains.now, λ zone among. absurd among, sym (append-nil (names_of c.args.chains.now)), λ zone among. absurd among)

pub loop-zone-preserved : goal.loop-zone-preserved
loop-zone-preserved c =
    let config = c.args.config.now in (
      grows_on _ _ _ c.loop-zone.invariant.0 c.in_ok-push_forward.ensures.grows,
      one_more (λ zone. HasPairs config (lent c.args.others.now) zone c.push_forward.new.chains) c.args.zones.now c.loop-zone.zone-index c.zone-item.result c.loop-zone-test.true c.zone-item.is
          (λ zone among. pairs_kept config _ zone _ _ c.in_ok-push_forward.ensures.grows (c.loop-zone.invariant.1 zone among))
          c.in_ok-push_forward.ensures.there,
      added_more (from_names (lent c.args.others.now)) c.args.zones.now c.loop-zone.zone-index c.zone-item.result (names_of c.args.chains.now) _ _ c.loop-zone-test.true c.zone-item.is
          c.loop-zone.invariant.2 c.in_ok-push_forward.ensures.names,
      one_more (λ zone. PairsLead config (lent c.args.others.now) zone c.push_forward.new.chains) c.args.zones.now c.loop-zone.zone-index c.zone-item.result c.loop-zone-test.true c.zone-item.is
          (λ zone among. pairs_lead config _ zone _ _ c.in_ok-push_forward.ensures.grows (c.loop-zone.invariant.3 zone among))
          c.in_ok-push_forward.ensures.leads,
    )

pub returns-clause-grows : goal.returns-clause-grows
returns-clause-grows c = c.loop-zone.invariant.0

pub returns-clause-there : goal.returns-clause-there
returns-clause-there c = for_all _ c.args.zones.now c.loop-zone.zone-index c.loop-zone-test.false c.loop-zone.invariant.1

pub returns-clause-names : goal.returns-clause-names
returns-clause-names c =
    c.loop-zone.invariant.2 ∙ ap (λ (list : List (Bor Zone)). names_of c.args.chains.now ++ forward_names (lent c.args.others.now) (lent list)) (take_all c.loop-zone.zone-index c.args.zones.now c.loop-zone-test.false)

pub returns-clause-leads : goal.returns-clause-leads
returns-clause-leads c = for_all _ c.args.zones.now c.loop-zone.zone-index c.loop-zone-test.false c.loop-zone.invariant.3
