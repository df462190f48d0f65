-- The texts of targets (firewalld.zone(5) and firewalld.policy(5), `target`).
use Rattle.std.specs.Prelude.{ℕ, codes, List, [], ◌∷◌, Option, None, Some, Result, Ok}
use Rattle.fw_act.specs.Acts.{found_or}
use Rattle.fw_calls.specs.declared.reply.Refusal.{Refusal}
use Rattle.fw_model.specs.declared.code.Code.TheVariants as code
use Rattle.fw_model.specs.declared.policy.PolicyTarget.{PolicyTarget}
use Rattle.fw_model.specs.declared.policy.PolicyTarget.TheVariants as policy
use Rattle.fw_model.specs.declared.zone.ZoneTarget.{ZoneTarget}
use Rattle.fw_model.specs.declared.zone.ZoneTarget.TheVariants as zone
use Rattle.fw_text.specs.Names.{named}

abbrev pub zone_targets : List (List ℕ × ZoneTarget)
zone_targets = (codes "default", zone.Default) ∷ (codes "ACCEPT", zone.Accept) ∷ (codes "%%REJECT%%", zone.Reject) ∷ (codes "DROP", zone.Drop) ∷ []

abbrev pub policy_targets : List (List ℕ × PolicyTarget)
policy_targets =
    (codes "CONTINUE", policy.Continue) ∷ (codes "ACCEPT", policy.Accept) ∷ (codes "REJECT", policy.Reject) ∷ (codes "DROP", policy.Drop) ∷ []

unfoldable pub zone_target : (text : List ℕ) → Option ZoneTarget
zone_target text = named zone_targets text

unfoldable pub policy_target : (text : List ℕ) → Option PolicyTarget
policy_target text = named policy_targets text

abbrev pub zone_target_text : ZoneTarget → List ℕ
zone_target_text zone.Default = codes "default"
zone_target_text zone.Accept = codes "ACCEPT"
zone_target_text zone.Reject = codes "%%REJECT%%"
zone_target_text zone.Drop = codes "DROP"

abbrev pub policy_target_text : PolicyTarget → List ℕ
policy_target_text policy.Continue = codes "CONTINUE"
policy_target_text policy.Accept = codes "ACCEPT"
policy_target_text policy.Reject = codes "REJECT"
policy_target_text policy.Drop = codes "DROP"

-- the target that a dict says, or its refusal; an absent one stays
unfoldable pub zone_target_told : ZoneTarget → Option (List ℕ) → Result ZoneTarget Refusal
zone_target_told target None = Ok target
zone_target_told target (Some text) = found_or code.InvalidTarget text (zone_target text)

unfoldable pub policy_target_told : PolicyTarget → Option (List ℕ) → Result PolicyTarget Refusal
policy_target_told target None = Ok target
policy_target_told target (Some text) = found_or code.InvalidTarget text (policy_target text)
