-- The policy that a call names (firewalld.dbus(5), interface `org.fedoraproject.FirewallD1.policy`).
use Rattle.std.specs.Prelude.{ℕ, List, Option, Some, Result, position, slice_get}
use Rattle.std.specs.Str.{bytes_eq}
use Rattle.fw_act.specs.Acts.{found_or}
use Rattle.fw_calls.specs.declared.reply.Refusal.{Refusal}
use Rattle.fw_model.specs.declared.code.Code.TheVariants as code
use Rattle.fw_model.specs.declared.config.Config.{Config}
use Rattle.fw_model.specs.declared.policy.Policy.{Policy}
use Rattle.fw_text.specs.Steps.{◌>>=◌}

-- a policy, and its place in the list of policies
pub record Found : Type 0 where
  pub place : ℕ
  pub policy : Policy

-- the first policy of a name
abbrev pub policy_named : List Policy → (name : List ℕ) → Option Found
policy_named policies name = do
  place ← position (λ policy. bytes_eq policy.name name) policies
  policy ← slice_get policies place
  Some (record { place = place; policy = policy })

-- the policy that a call names, or its refusal
unfoldable pub look_up : Config → (name : List ℕ) → Result Found Refusal
look_up config name = found_or code.InvalidPolicy name (policy_named config.policies name)
