-- The zone and the policy of the permanent settings that have a number. Where several have it, it means the first of them. A refusal
-- names the number in decimal.
use Rattle.std.specs.Prelude.{ℕ, nat_eq, List, Option, Some, position, slice_get, Result}
use Rattle.std.specs.Fmt.{decimal}
use Rattle.fw_act.specs.Acts.{found_or}
use Rattle.fw_calls.specs.declared.reply.Refusal.{Refusal}
use Rattle.fw_model.specs.declared.code.Code.TheVariants as code
use Rattle.fw_model.specs.declared.policy.Policy.{Policy}
use Rattle.fw_settings.specs.declared.settings.Settings.{Settings}
use Rattle.fw_text.specs.Steps.{◌>>=◌}
use Rattle.fw_zone_edits.specs.Zones.{Found}

-- a policy, and its place in the list of policies
pub record FoundPolicy : Type 0 where
  pub place : ℕ
  pub policy : Policy

-- the place of a number
abbrev pub place_of : (numbers : List ℕ) → (number : ℕ) → Option ℕ
place_of numbers number = position (λ listed. nat_eq listed number) numbers

abbrev pub zone_numbered : Settings → (number : ℕ) → Option Found
zone_numbered settings number = do
  place ← place_of settings.zone_ids number
  zone ← slice_get settings.permanent.zones place
  Some (record { place = place; zone = zone })

abbrev pub policy_numbered : Settings → (number : ℕ) → Option FoundPolicy
policy_numbered settings number = do
  place ← place_of settings.policy_ids number
  policy ← slice_get settings.permanent.policies place
  Some (record { place = place; policy = policy })

-- the zone with a number, or its refusal
unfoldable pub zone_meant : Settings → (number : ℕ) → Result Found Refusal
zone_meant settings number = found_or code.InvalidZone (decimal number) (zone_numbered settings number)

-- the policy with a number, or its refusal
unfoldable pub policy_meant : Settings → (number : ℕ) → Result FoundPolicy Refusal
policy_meant settings number = found_or code.InvalidPolicy (decimal number) (policy_numbered settings number)
