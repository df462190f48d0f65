-- The alternatives at the places so far.
use Rattle.std.proofs.Common.{◌≡◌, take}
use Rattle.std.specs.List.{flat_map}
use Rattle.lower_match.specs.Forms.{place_alternatives}
use Rattle.lower_match.proofs.service.matches_at.Given as goal

abbrev pub invariant-loop-place : goal.invariant-loop-place
invariant-loop-place l = l.alternatives ≡ flat_map (place_alternatives l.services) (take l.place-index l.places)
