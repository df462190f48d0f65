-- What the zones are after the edit, by its relations.
use Rattle.std.proofs.Common.{◌≡◌, Some, Result, Ok, OnErr, slice_get, sym, subst}
use Rattle.std.specs.Str.{bytes_eq}
use Rattle.fw_model.specs.declared.zone.Zone.{Zone}
use Rattle.fw_zone.specs.Bindings.{interfaces_of, with_interfaces}
use Rattle.fw_zone_edits.proofs.Bindings.{move_edits, settled_move_err}
use Rattle.fw_answer.proofs.Equality.{texts}
use Rattle.fw_zone_edits.specs.Entries.{moved}
use Rattle.fw_act.specs.Acts.{Edits}
use Rattle.fw_act.specs.declared.edit.EditError.{EditError}
use Rattle.fw_zone_edits.specs.declared.entry.Entry.TheVariants as entries
use Rattle.fw_zone_edits.proofs.bound.move_interface.Goals as goal

pub returns-clause-edits : goal.returns-clause-edits
unfolding moved
returns-clause-edits c = λ (zone : Zone) (at : slice_get c.args.zones.now c.args.place ≡ Some zone).
    subst (λ (result : Result (Unit {0}) EditError). Edits c.args.zones.now c.move_iface.new.zones result (Ok (moved c.args.zones.now (record { place = c.args.place; zone = zone }) (entries.Interface c.args.iface))))
    (sym c.settled_move.ensures)
    (move_edits interfaces_of with_interfaces bytes_eq texts c.args.iface c.args.zones.now c.move_iface.new.zones c.args.place zone c.move_iface.result at
    c.move_iface.ensures.moved c.move_iface.ensures.already c.move_iface.ensures.err)

pub returns-clause-err : goal.returns-clause-err
returns-clause-err c =
    subst (λ (result : Result (Unit {0}) EditError). OnErr result (c.move_iface.new.zones ≡ c.args.zones.now)) (sym c.settled_move.ensures)
    (settled_move_err (c.move_iface.new.zones ≡ c.args.zones.now) c.move_iface.result c.move_iface.ensures.err)
