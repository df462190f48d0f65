use Rattle.std.proofs.Common.{◌∙◌, Bool, List, Option, ap, subst, Bor}
use Rattle.std.specs.Prelude.{IfOk}
use Rattle.std.specs.List.{flat_map}
use Rattle.std.specs.Option.{option_copied}
use Rattle.fw_model.specs.declared.rules.Rules.{Rules}
use Rattle.fw_model.specs.declared.zone.Zone.{Zone}
use Rattle.fw_order.specs.Borrowed.{lent}
use Rattle.fw_verdict.specs.Changes.{ChangeItem}
use Rattle.fw_verdict.specs.Led.{MasksTo}
use Rattle.fw_verdict.specs.Outside.{leaving_items}
use Rattle.fw_verdict.specs.Sides.{all_items}
use Rattle.fw_verdict.specs.declared.sides.Side.TheVariants as side
use Rattle.fw_verdict.proofs.Settings.{settings_give}
use Rattle.fw_verdict.proofs.masquerade.masquerades.Goals as goal

pub returns : goal.returns
returns c =
    let config = c.args.config.now in
    subst (λ (items : List ChangeItem). IfOk c.masks_in_turn.result (λ (found : Bool). MasksTo items c.args.packet.now c.args.logs.now c.masks_in_turn.new.logs found))
    (ap (λ (settings : List (Bor Rules)). flat_map (leaving_items config) (lent settings)) c.as_slice.ensures.value
    ∙ ap (flat_map (leaving_items config)) c.in_ok-settings.ensures
    ∙ settings_give config side.Leaving (option_copied c.egress-zone.result)
    ∙ ap (λ (zone : Option Zone). all_items config side.Leaving zone) c.egress-zone.ensures)
    c.masks_in_turn.ensures
