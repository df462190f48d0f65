-- What the zones are after the edit, by its relations.
use Rattle.std.proofs.Common.{◌≡◌, Some, Result, OnErr, slice_get, sym, subst}
use Rattle.fw_answer.specs.Equal.{same_source}
use Rattle.fw_model.specs.declared.code.Code.TheVariants as code
use Rattle.fw_model.specs.declared.zone.Zone.{Zone}
use Rattle.fw_zone.specs.Bindings.{sources_of, with_sources}
use Rattle.fw_zone_edits.proofs.Bindings.{bind_edits, settled_err}
use Rattle.fw_answer.proofs.Equality.{sources}
use Rattle.fw_zone_edits.specs.Entries.{bound}
use Rattle.fw_act.specs.Acts.{Edits}
use Rattle.fw_act.specs.declared.edit.EditError.{EditError}
use Rattle.fw_zone_edits.specs.declared.entry.Entry.TheVariants as entries
use Rattle.fw_zone_edits.proofs.bound.bind_other.Goals as goal

pub returns-clause-edits : goal.returns-clause-edits
unfolding bound
returns-clause-edits c = λ (zone : Zone) (at : slice_get c.args.zones.now c.args.place ≡ Some zone).
    subst (λ (result : Result (Unit {0}) EditError). Edits c.args.zones.now c.bind_source.new.zones result (bound c.args.zones.now (record { place = c.args.place; zone = zone }) (entries.Source c.args.source)))
    (sym c.settled.ensures)
    (bind_edits sources_of with_sources same_source sources c.args.source code.UnknownSource c.args.zones.now c.bind_source.new.zones c.args.place zone c.bind_source.result at
    c.bind_source.ensures.bound c.bind_source.ensures.already c.bind_source.ensures.conflict c.bind_source.ensures.known c.bind_source.ensures.err)

pub returns-clause-err : goal.returns-clause-err
returns-clause-err c =
    subst (λ (result : Result (Unit {0}) EditError). OnErr result (c.bind_source.new.zones ≡ c.args.zones.now)) (sym c.settled.ensures)
    (settled_err code.UnknownSource (c.bind_source.new.zones ≡ c.args.zones.now) c.bind_source.result c.bind_source.ensures.err)
