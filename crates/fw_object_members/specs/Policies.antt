-- Members on a policy of the permanent settings (firewalld.dbus(5), interface `org.fedoraproject.FirewallD1.config.policy`).
use Rattle.std.specs.Prelude.{ℕ, Result, Ok, remove, slice_set}
use Rattle.fw_act.specs.Acts.{Answered, ◌>>=◌, replied}
use Rattle.fw_calls.specs.declared.dict.Dict.{Dict}
use Rattle.fw_calls.specs.declared.reply.Refusal.{Refusal}
use Rattle.fw_calls.specs.declared.reply.Reply.TheVariants as reply
use Rattle.fw_dicts.specs.Policies.{policy_told}
use Rattle.fw_model.specs.declared.policy.Policy.{Policy}
use Rattle.fw_object_members.specs.Objects.{policy_meant}
use Rattle.fw_settings.specs.declared.settings.Settings.{Settings}

-- `getSettings()`
unfoldable pub policy_settings_member : Settings → (number : ℕ) → Result (Answered Settings) Refusal
policy_settings_member settings number = do
  found ← policy_meant settings number
  Ok (replied settings (reply.PolicySettings found.policy))

-- another policy at a place; it has the number of the one that was there
unfoldable pub with_policy_at : Settings → (place : ℕ) → Policy → Settings
with_policy_at settings place policy =
    record settings { permanent = record settings.permanent { policies = slice_set settings.permanent.policies place policy } }

-- `update(settings)`
unfoldable pub update_policy_member : Settings → (number : ℕ) → Dict → Result (Answered Settings) Refusal
update_policy_member settings number dict = do
  found ← policy_meant settings number
  policy ← policy_told settings.permanent found.policy dict
  Ok (replied (with_policy_at settings found.place policy) reply.None)

-- without the policy at a place, and without its number; the next number stays, so that none is given again
unfoldable pub without_policy_at : Settings → (place : ℕ) → Settings
without_policy_at settings place = record settings {
  permanent = record settings.permanent { policies = remove settings.permanent.policies place };
  policy_ids = remove settings.policy_ids place;
}

-- `remove()`
unfoldable pub remove_policy_member : Settings → (number : ℕ) → Result (Answered Settings) Refusal
remove_policy_member settings number = do
  found ← policy_meant settings number
  Ok (replied (without_policy_at settings found.place) reply.None)
