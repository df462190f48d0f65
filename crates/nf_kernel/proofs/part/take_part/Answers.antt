-- A part goes from its place.
use Rattle.std.proofs.Common.{rules, ◌≡◌, Some, Ok, Err}
use Rattle.nf_kernel.specs.Parts.{Lies}
use Rattle.nf_kernel.proofs.Parts.{absent, by_name_without, taken}
use Rattle.nf_kernel.proofs.part.take_part.Goals as goal

pub returns-in-Ok-clause-by_name : goal.returns-in-Ok-clause-by_name
returns-in-Ok-clause-by_name g c =
    let lies : Lies g.T.Part.name_of c.args.name.now c.args.parts.now (Ok c.in-Ok.place) = rw c.as_slice.ensures at c.in-Ok.ensures in
    rw c.remove.ensures.rest (by_name_without g.T.Part.name_of c.args.parts.now c.in-Ok.place lies.0 c.requires)

pub returns-in-Ok-clause-taken : goal.returns-in-Ok-clause-taken
returns-in-Ok-clause-taken g c =
    let lies : Lies g.T.Part.name_of c.args.name.now c.args.parts.now (Ok c.in-Ok.place) = rw c.as_slice.ensures at c.in-Ok.ensures in
    rw c.remove.ensures.rest (taken g.T.Part.name_of c.args.name.now c.args.parts.now c.in-Ok.place c.requires lies)

pub returns-in-Err-clause-taken : goal.returns-in-Err-clause-taken
returns-in-Err-clause-taken g c =
    let lies : Lies g.T.Part.name_of c.args.name.now c.args.parts.now (Err c.in-Err.field-0) = rw c.as_slice.ensures at c.in-Err.ensures in
    absent g.T.Part.name_of c.args.name.now c.args.parts.now c.in-Err.field-0 lies
