use Rattle.std.proofs.Common.{◌∙◌, ap, List, ℕ}
use Rattle.std.proofs.lemmas.Result.{IfOk-weaker}
use Rattle.std.specs.List.{flat_map}
use Rattle.lower_match.proofs.Lowered.{reached_holds}
use Rattle.lower_match.proofs.Stand.{places_stand}
use Rattle.lower_match.specs.Forms.{place_alternatives}
use Rattle.lower_match.proofs.service.service_matches.Goals as goal

pub returns-clause-tells : goal.returns-clause-tells
returns-clause-tells c =
    IfOk-weaker c.matches_at.result _ _
    (λ made is.
    reached_holds c.args.services.now c.args.name.now c.in_ok-places.places.items (c.chains_are_short.ensures c.args.services.now) c.in_ok-places.ensures made
    (is ∙ ap (λ (places : List ℕ). flat_map (place_alternatives c.args.services.now) places) c.deref.ensures.value))
    c.matches_at.ensures

pub returns-clause-stand : goal.returns-clause-stand
returns-clause-stand c =
    IfOk-weaker c.matches_at.result _ _
    (λ made is. places_stand c.args.services.now c.in_ok-places.places.items made
    (is ∙ ap (λ (places : List ℕ). flat_map (place_alternatives c.args.services.now) places) c.deref.ensures.value))
    c.matches_at.ensures
