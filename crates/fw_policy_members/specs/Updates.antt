-- A policy in force with other settings (firewalld.dbus(5), `setPolicySettings` and the signal `PolicyUpdated`).
use Rattle.std.specs.Prelude.{ℕ, List, [], ◌∷◌, Result, Ok, slice_set}
use Rattle.fw_act.specs.Acts.{Answered, ◌>>=◌, changed}
use Rattle.fw_calls.specs.declared.dict.Dict.{Dict}
use Rattle.fw_calls.specs.declared.reply.Refusal.{Refusal}
use Rattle.fw_calls.specs.declared.reply.Reply.TheVariants as reply
use Rattle.fw_calls.specs.declared.signal.Arg.TheVariants as arg
use Rattle.fw_calls.specs.declared.signal.Signal.{Signal}
use Rattle.fw_calls.specs.declared.signal_kind.SignalKind.TheVariants as signal
use Rattle.fw_dicts.specs.Policies.{policy_told}
use Rattle.fw_model.specs.declared.policy.Policy.{Policy}
use Rattle.fw_policy_members.specs.Finding.{look_up}
use Rattle.fw_policy_members.specs.declared.update.Update.{Update}
use Rattle.fw_settings.specs.Parts.{with_config}
use Rattle.fw_settings.specs.declared.settings.Settings.{Settings}

-- what a dict makes of the policy that a call names, or the first refusal
unfoldable pub update_of : Settings → (policy : List ℕ) → Dict → Result Update Refusal
update_of settings policy dict = do
  found ← look_up settings.runtime.config policy
  told ← policy_told settings.runtime.config found.policy dict
  Ok (record { place = found.place; policy = told })

-- other policies in force
abbrev pub with_policies : Settings → List Policy → Settings
with_policies settings policies = with_config settings (record settings.runtime.config { policies = policies })

-- the settings in which it is in force
abbrev pub with_update : Settings → Update → Settings
with_update settings update = with_policies settings (slice_set settings.runtime.config.policies update.place update.policy)

-- the signal of it, with all settings of the policy
unfoldable pub updated_signal : Policy → Signal
updated_signal policy = record { kind = signal.PolicyUpdated; args = arg.Text policy.name ∷ arg.Policy policy ∷ [] }

-- `setPolicySettings(policy, settings)`
unfoldable pub set_policy_settings_member : Settings → (policy : List ℕ) → Dict → Result (Answered Settings) Refusal
set_policy_settings_member settings policy dict = do
  update ← update_of settings policy dict
  Ok (changed (updated_signal update.policy) reply.None (with_update settings update))
