-- Members that ask which zones and policies the permanent settings have (firewalld.dbus(5), interface
-- `org.fedoraproject.FirewallD1.config`).
use Rattle.std.specs.Prelude.{ℕ, List, map, Result, Ok}
use Rattle.fw_act.specs.Acts.{Answered, ◌>>=◌, found_or, replied}
use Rattle.fw_calls.specs.declared.reply.Refusal.{Refusal}
use Rattle.fw_calls.specs.declared.reply.Reply.TheVariants as reply
use Rattle.fw_config_members.specs.Paths.{policy_number, policy_path, zone_number, zone_path}
use Rattle.fw_model.specs.declared.code.Code.TheVariants as code
use Rattle.fw_settings.specs.declared.settings.Settings.{Settings}

-- `getZoneNames()`
abbrev pub zone_names_member : Settings → Answered Settings
zone_names_member settings = replied settings (reply.Texts (map (λ zone. zone.name) settings.permanent.zones))

-- `getPolicyNames()`
abbrev pub policy_names_member : Settings → Answered Settings
policy_names_member settings = replied settings (reply.Texts (map (λ policy. policy.name) settings.permanent.policies))

-- `getZoneByName(zone)`
unfoldable pub zone_by_name_member : Settings → (zone : List ℕ) → Result (Answered Settings) Refusal
zone_by_name_member settings zone = do
  number ← found_or code.InvalidZone zone (zone_number settings zone)
  Ok (replied settings (reply.Path (zone_path number)))

-- `getPolicyByName(policy)`
unfoldable pub policy_by_name_member : Settings → (policy : List ℕ) → Result (Answered Settings) Refusal
policy_by_name_member settings policy = do
  number ← found_or code.InvalidPolicy policy (policy_number settings policy)
  Ok (replied settings (reply.Path (policy_path number)))
