-- What the zones are after the edit, by its relations.
use Rattle.std.proofs.Common.{◌≡◌, Some, Result, OnErr, slice_get, sym, subst}
use Rattle.std.specs.Str.{bytes_eq}
use Rattle.fw_model.specs.declared.code.Code.TheVariants as code
use Rattle.fw_model.specs.declared.zone.Zone.{Zone}
use Rattle.fw_zone.specs.Bindings.{interfaces_of, with_interfaces}
use Rattle.fw_zone_edits.proofs.Bindings.{unbind_edits, settled_err}
use Rattle.fw_answer.proofs.Equality.{texts}
use Rattle.fw_zone_edits.specs.Entries.{unbound}
use Rattle.fw_act.specs.Acts.{Edits}
use Rattle.fw_act.specs.declared.edit.EditError.{EditError}
use Rattle.fw_zone_edits.specs.declared.entry.Entry.TheVariants as entries
use Rattle.fw_zone_edits.proofs.bound.unbind_interface.Goals as goal

pub returns-clause-edits : goal.returns-clause-edits
unfolding unbound
returns-clause-edits c = λ (zone : Zone) (at : slice_get c.args.zones.now c.args.place ≡ Some zone).
    subst (λ (result : Result (Unit {0}) EditError). Edits c.args.zones.now c.unbind_iface.new.zones result (unbound c.args.zones.now (record { place = c.args.place; zone = zone }) (entries.Interface c.args.iface.now)))
    (sym c.settled.ensures)
    (unbind_edits interfaces_of with_interfaces bytes_eq texts c.args.iface.now code.UnknownInterface c.args.zones.now c.unbind_iface.new.zones c.args.place zone c.unbind_iface.result at
    c.unbind_iface.ensures.unbound c.unbind_iface.ensures.done c.unbind_iface.ensures.conflict c.unbind_iface.ensures.unknown c.unbind_iface.ensures.err)

pub returns-clause-err : goal.returns-clause-err
returns-clause-err c =
    subst (λ (result : Result (Unit {0}) EditError). OnErr result (c.unbind_iface.new.zones ≡ c.args.zones.now)) (sym c.settled.ensures)
    (settled_err code.UnknownInterface (c.unbind_iface.new.zones ≡ c.args.zones.now) c.unbind_iface.result c.unbind_iface.ensures.err)
