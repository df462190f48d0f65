-- The elements so far, and then those that are left, are those of all.
use Rattle.std.proofs.Common.{◌≡◌, ◌++◌, drop, Ok}
use Rattle.fw_load.specs.Fields.{◌>>=◌, elements}
use Rattle.serde_json.specs.View.{items_view}
use Rattle.fw_load.proofs.fields.elements.Given as goal

abbrev pub invariant-loop-place : goal.invariant-loop-place
invariant-loop-place g l = (elements g.T.Told.reading l.place (items_view (drop l.place l.items)) >>= (λ rest. Ok (l.found ++ rest))) ≡ elements g.T.Told.reading 0 (items_view l.items)
