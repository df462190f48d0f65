use Rattle.fw_verdict.specs.Outside.{placed_items, plain_items}
use Rattle.fw_verdict.specs.declared.outside.Place.TheVariants.{Masquerades}
use Rattle.fw_verdict.proofs.Found.{masks_ends, masks_goes_on}
use Rattle.fw_verdict.proofs.masquerade.masks.Goals as goal

pub returns-then-found : goal.returns-then-found
returns-then-found c =
    let config = c.args.config.now in
    let rules = c.args.rules.now in
    masks_ends (placed_items config Masquerades rules.rich) (plain_items config rules.masquerade) c.args.packet.now _ _ _ c.if-found.true c.in_ok-found.ensures

pub returns : goal.returns
returns c =
    let config = c.args.config.now in
    let rules = c.args.rules.now in
    masks_goes_on (placed_items config Masquerades rules.rich) (plain_items config rules.masquerade) c.args.packet.now _ _ _ _ _ c.if-found.false c.in_ok-found.ensures
    (c.masks_plainly.ensures config _)
