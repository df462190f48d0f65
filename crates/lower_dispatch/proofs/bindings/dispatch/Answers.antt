use Rattle.std.proofs.Common.{sym, subst}
use Rattle.std.proofs.lemmas.Result.{IfOk-weaker}
use Rattle.lower_dispatch.proofs.Dispatched.{dispatches}
use Rattle.lower_dispatch.proofs.Used.{lead_to_zones}
use Rattle.lower_dispatch.specs.Dispatch.{Dispatches}
use Rattle.lower_dispatch.specs.Uses.{LeadToZones}
use Rattle.lower_dispatch.proofs.bindings.dispatch.Goals as goal

pub returns-clause-leads : goal.returns-clause-leads
returns-clause-leads c =
    IfOk-weaker c.zone_dispatch.result _ _
    (λ made is. subst (Dispatches c.args.config.now c.args.direction c.args.start.now) (sym is) (dispatches c.sources_are_told.ensures c.args.config.now c.args.direction c.args.start.now))
    c.zone_dispatch.ensures

pub returns-clause-stands : goal.returns-clause-stands
returns-clause-stands c =
    IfOk-weaker c.zone_dispatch.result _ _
    (λ made is. subst (LeadToZones c.args.config.now c.args.start.now) (sym is) (lead_to_zones c.sources_are_told.ensures c.args.config.now c.args.start.now c.args.direction))
    c.zone_dispatch.ensures
