-- Which settings need chains: those that packets may meet.
use Rattle.std.specs.Prelude.{◌≡◌, ℕ, List, ◌++◌, map, Bool, true, ◌&&◌, ◌||◌, None, Some}
use Rattle.std.specs.List.{filter, list_any}
use Rattle.fw_model.specs.declared.config.Config.{Config}
use Rattle.fw_model.specs.declared.policy.Policy.{Policy}
use Rattle.fw_model.specs.declared.zone.Zone.{Zone}
use Rattle.fw_verdict.specs.Policies.{End, policies_at, stands_for}
use Rattle.fw_verdict.specs.Policies.End.{at_host, in_zone}
use Rattle.fw_verdict.specs.declared.policies.Stage.{Stage}
use Rattle.fw_zone.specs.Lists.{IsIn}
use Rattle.lower_blocks.specs.Blocks.{Told}
use Rattle.lower_blocks.specs.Blocks.Told.{of_policy, of_zone}
use Rattle.lower_dispatch.specs.Uses.{is_in_use}
use Rattle.lower_hooks.specs.Settings.{has_settings, has_walk}

-- a zone that packets may belong to and that has settings
abbrev pub is_told : Config → Zone → Bool
is_told config zone = is_in_use config zone && has_walk zone

-- a side of a policy stands for the host or for one of these zones
abbrev pub stands_for_any : List (List ℕ) → List Zone → Bool
stands_for_any side zones = stands_for side at_host || list_any (λ zone. stands_for side (in_zone (Some zone))) zones

-- a policy that has settings, and that stands between ends that packets of these zones may have
abbrev pub is_needed : List Zone → Policy → Bool
is_needed zones policy = has_settings policy.rules && stands_for_any policy.ingress zones && stands_for_any policy.egress zones

-- all that is told in chains: first zones, then policies, as they are listed
abbrev pub all_told : Config → List Zone → List Told
all_told config zones = map of_zone (filter (is_told config) config.zones) ++ map of_policy (filter (is_needed zones) config.policies)

-- an end that packets of these zones may have
abbrev pub IsEnd : List Zone → End → Type 0
IsEnd zones at_host = Unit {0}
IsEnd zones (in_zone None) = ⊥
IsEnd zones (in_zone (Some zone)) = IsIn zone zones

-- Policies that act between such ends and have settings are told.
abbrev pub ActingPoliciesAreTold : Type 0
ActingPoliciesAreTold =
    (config : Config) (zones : List Zone) (stage : Stage) (from to : End) (policy : Policy)
    → IsEnd zones from
    → IsEnd zones to
    → IsIn policy (policies_at config stage from to)
    → has_settings policy.rules ≡ true
    → IsIn (of_policy policy) (all_told config zones)
