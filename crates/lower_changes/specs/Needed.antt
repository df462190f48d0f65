-- Which settings need chains: those that do anything on a side, and that packets of some zones may meet.
use Rattle.std.specs.Prelude.{ℕ, List, [], ◌∷◌, ◌++◌, Bool, ◌&&◌, if◌then◌else◌, Some}
use Rattle.std.specs.List.{flat_map, list_any}
use Rattle.fw_model.specs.declared.config.Config.{Config}
use Rattle.fw_model.specs.declared.policy.Policy.{Policy}
use Rattle.fw_model.specs.declared.zone.Zone.{Zone}
use Rattle.fw_verdict.specs.Policies.{stands_for}
use Rattle.fw_verdict.specs.Policies.End.{in_zone}
use Rattle.fw_verdict.specs.declared.sides.Side.{Side}
use Rattle.fw_verdict.specs.declared.sides.Side.TheVariants as side
use Rattle.lower_blocks.specs.Blocks.{Told}
use Rattle.lower_blocks.specs.Blocks.Told.{of_policy, of_zone}
use Rattle.lower_outside.specs.Needed.{has_changes}

-- the ends of a policy by which it takes part in a step
abbrev pub ends_of : Side → Policy → List (List ℕ)
ends_of side.Marked policy = policy.ingress
ends_of side.Translated policy = policy.ingress
ends_of side.Leaving policy = policy.egress

-- a policy that does anything on a side for packets of one of these zones
abbrev pub is_needed : Side → List Zone → Policy → Bool
is_needed of zones policy = has_changes of policy.rules && list_any (λ zone. stands_for (ends_of of policy) (in_zone (Some zone))) zones

abbrev pub told_zone : Side → Zone → List Told
told_zone of zone = if has_changes of zone.rules then of_zone zone ∷ [] else []

abbrev pub told_policy : Side → List Zone → Policy → List Told
told_policy of zones policy = if is_needed of zones policy then of_policy policy ∷ [] else []

-- all of them: first zones, then policies, as they are listed
abbrev pub needed : Config → Side → List Zone → List Told
needed config of zones = flat_map (told_zone of) zones ++ flat_map (told_policy of zones) config.policies
