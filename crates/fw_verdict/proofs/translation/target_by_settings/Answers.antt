use Rattle.std.proofs.Common.{◌++◌, map, sym}
use Rattle.std.proofs.lemmas.Result.{IfOk-weaker}
use Rattle.fw_verdict.specs.Outside.{placed_items, port_item}
use Rattle.fw_verdict.specs.declared.outside.Place.TheVariants.{ForwardsBefore, ForwardsBehind}
use Rattle.fw_verdict.proofs.Found.{sends_ends, sends_goes_on}
use Rattle.fw_verdict.proofs.Ports.{same_ports}
use Rattle.fw_verdict.proofs.translation.target_by_settings.Goals as goal

pub returns-then-is_some : goal.returns-then-is_some
returns-then-is_some c =
    let config = c.args.config.now in
    let rules = c.args.rules.now in
    sends_ends (placed_items config ForwardsBefore rules.rich) (map (port_item config) rules.forwards ++ placed_items config ForwardsBehind rules.rich) c.args.packet.now _ _ _
    (sym c.if-is_some.ensures) c.in_ok-found.ensures

pub returns-then-is_some-2 : goal.returns-then-is_some-2
returns-then-is_some-2 c =
    let config = c.args.config.now in
    let rules = c.args.rules.now in
    sends_goes_on (placed_items config ForwardsBefore rules.rich) (map (port_item config) rules.forwards ++ placed_items config ForwardsBehind rules.rich) c.args.packet.now _ _ _ _ _
    (sym c.if-is_some.ensures) c.in_ok-found.ensures
    (sends_ends (map (port_item config) rules.forwards) (placed_items config ForwardsBehind rules.rich) c.args.packet.now _ _ _
    (sym c.if-is_some-2.ensures) (same_ports config _ rules.forwards c.args.packet.now _ _ c.as_slice.ensures (c.target_by_port-by_port.ensures config _)))

pub returns : goal.returns
returns c =
    let config = c.args.config.now in
    let rules = c.args.rules.now in
    IfOk-weaker c.target_by_rules-2.result _ _
    (λ found behind.
    sends_goes_on (placed_items config ForwardsBefore rules.rich) (map (port_item config) rules.forwards ++ placed_items config ForwardsBehind rules.rich) c.args.packet.now _ _ _ _ _
    (sym c.if-is_some.ensures) c.in_ok-found.ensures
    (sends_goes_on (map (port_item config) rules.forwards) (placed_items config ForwardsBehind rules.rich) c.args.packet.now _ _ _ _ _
    (sym c.if-is_some-2.ensures) (same_ports config _ rules.forwards c.args.packet.now _ _ c.as_slice.ensures (c.target_by_port-by_port.ensures config _)) behind))
    c.target_by_rules-2.ensures
