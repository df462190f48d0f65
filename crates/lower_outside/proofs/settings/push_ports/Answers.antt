use Rattle.std.proofs.Common.{List, [], ◌∷◌, map, take, sym, subst}
use Rattle.fw_valid.specs.Rules.{IsPlainForward}
use Rattle.fw_verdict.specs.Changes.{ChangeItem}
use Rattle.fw_verdict.specs.Outside.{port_item}
use Rattle.lower_outside.specs.Steps.{Tell}
use Rattle.lower_outside.proofs.Lists.{each_place}
use Rattle.lower_outside.proofs.Told.{tell_both}
use Rattle.lower_outside.proofs.settings.push_ports.Goals as goal
use Rattle.lower_zone.proofs.Items.{map_more}

pub loop-forward-preserved : goal.loop-forward-preserved
loop-forward-preserved c = λ all.
    let config = c.args.config.now in
    subst (λ (list : List ChangeItem). Tell config list c.args.steps.now c.push_port.new.steps)
    (sym (map_more (port_item config) c.args.forwards.now c.loop-forward.forward-index c.forward-item.result c.loop-forward-test.true c.forward-item.is))
    (tell_both config (map (port_item config) (take c.loop-forward.forward-index c.args.forwards.now)) (port_item config c.forward-item.result ∷ []) _ _ _
    (c.loop-forward.invariant all)
    (c.in_ok-push_port.ensures (each_place IsPlainForward c.args.forwards.now c.loop-forward.forward-index c.forward-item.result c.loop-forward-test.true c.forward-item.is all)))
