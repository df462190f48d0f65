-- A part stands at its place.
use Rattle.std.proofs.Common.{rules, ◌≡◌, Ok, Err}
use Rattle.nf_kernel.specs.Parts.{Lies, put}
use Rattle.nf_kernel.proofs.Parts.{by_name_put, put_between, put_found}
use Rattle.nf_kernel.proofs.part.with_part.Goals as goal
use Rattle.nf_kernel.proofs.part.with_part.Goals.{in-Ok, in-Err+in_ok-insert-in-Err}

pub returns-clause-put : goal.returns-clause-put
returns-clause-put g c = elim c.match-place.branch [
  | in-Ok w ↦ (let lies : Lies g.T.Part.name_of (g.T.Part.name_of c.args.part) c.args.parts (Ok w.in-Ok.place) = rw (c.as_slice.ensures, c.name.ensures) at w.in-Ok.ensures in
      rw (put_found g.T.Part.name_of c.args.part c.args.parts w.in-Ok.place c.requires lies) (search rules))
  | in-Err+in_ok-insert-in-Err w ↦ (let lies : Lies g.T.Part.name_of (g.T.Part.name_of c.args.part) c.args.parts (Err w.in-Err.place) = rw (c.as_slice.ensures, c.name.ensures) at w.in-Err.ensures in
      rw (put_between g.T.Part.name_of c.args.part c.args.parts w.in-Err.place lies) (search rules))
]

pub returns-clause-by_name : goal.returns-clause-by_name
returns-clause-by_name g c = rw (returns-clause-put g c) (by_name_put g.T.Part.name_of c.args.part c.args.parts c.requires)
