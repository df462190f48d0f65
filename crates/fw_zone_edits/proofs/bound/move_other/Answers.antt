-- What the zones are after the edit, by its relations.
use Rattle.std.proofs.Common.{◌≡◌, Some, Result, Ok, OnErr, slice_get, sym, subst}
use Rattle.fw_answer.specs.Equal.{same_source}
use Rattle.fw_model.specs.declared.zone.Zone.{Zone}
use Rattle.fw_zone.specs.Bindings.{sources_of, with_sources}
use Rattle.fw_zone_edits.proofs.Bindings.{move_edits, settled_move_err}
use Rattle.fw_answer.proofs.Equality.{sources}
use Rattle.fw_zone_edits.specs.Entries.{moved}
use Rattle.fw_act.specs.Acts.{Edits}
use Rattle.fw_act.specs.declared.edit.EditError.{EditError}
use Rattle.fw_zone_edits.specs.declared.entry.Entry.TheVariants as entries
use Rattle.fw_zone_edits.proofs.bound.move_other.Goals as goal

pub returns-clause-edits : goal.returns-clause-edits
unfolding moved
returns-clause-edits c = λ (zone : Zone) (at : slice_get c.args.zones.now c.args.place ≡ Some zone).
    subst (λ (result : Result (Unit {0}) EditError). Edits c.args.zones.now c.move_source.new.zones result (Ok (moved c.args.zones.now (record { place = c.args.place; zone = zone }) (entries.Source c.args.source))))
    (sym c.settled_move.ensures)
    (move_edits sources_of with_sources same_source sources c.args.source c.args.zones.now c.move_source.new.zones c.args.place zone c.move_source.result at
    c.move_source.ensures.moved c.move_source.ensures.already c.move_source.ensures.err)

pub returns-clause-err : goal.returns-clause-err
returns-clause-err c =
    subst (λ (result : Result (Unit {0}) EditError). OnErr result (c.move_source.new.zones ≡ c.args.zones.now)) (sym c.settled_move.ensures)
    (settled_move_err (c.move_source.new.zones ≡ c.args.zones.now) c.move_source.result c.move_source.ensures.err)
