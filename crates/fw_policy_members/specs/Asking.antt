-- Members that ask for policies (firewalld.dbus(5), `getPolicies`, `getActivePolicies`, `getPolicySettings`).
use Rattle.std.specs.Prelude.{ℕ, Bool, ◌&&◌, ◌||◌, List, map, Result, Ok}
use Rattle.std.specs.List.{filter, list_any}
use Rattle.std.specs.Str.{bytes_eq}
use Rattle.fw_act.specs.Acts.{Answered, ◌>>=◌, replied}
use Rattle.fw_calls.specs.declared.reply.Active.{Active}
use Rattle.fw_calls.specs.declared.reply.Refusal.{Refusal}
use Rattle.fw_calls.specs.declared.reply.Reply.TheVariants as reply
use Rattle.fw_model.specs.declared.policy.Policy.{Policy}
use Rattle.fw_model.specs.declared.zone.Zone.{Zone}
use Rattle.fw_policy.specs.Sides.{is_special}
use Rattle.fw_policy_members.specs.Finding.{look_up}
use Rattle.fw_settings.specs.declared.settings.Settings.{Settings}
use Rattle.fw_zone_members.specs.Asking.{is_active as is_active_zone}

-- `getPolicies()`: the names of the policies in force
abbrev pub policies_member : Settings → Answered Settings
policies_member settings = replied settings (reply.Texts (map (λ policy. policy.name) settings.runtime.config.policies))

-- a name by which packets can meet a policy: `HOST`, `ANY`, or that of a zone with bindings
abbrev pub has_packets : List Zone → (name : List ℕ) → Bool
has_packets zones name = is_special name || list_any (λ (zone : Zone). bytes_eq zone.name name && is_active_zone zone) zones

-- one of the names of a side is such
abbrev pub is_active_side : List Zone → (names : List (List ℕ)) → Bool
is_active_side zones names = list_any (has_packets zones) names

-- both sides have such a name
abbrev pub is_active : List Zone → Policy → Bool
is_active zones policy = is_active_side zones policy.ingress && is_active_side zones policy.egress

-- a policy's name, and all its names of zones on both sides
abbrev pub sides : Policy → Active
sides policy = record { name = policy.name; first = policy.ingress; second = policy.egress }

-- `getActivePolicies()`
abbrev pub active_policies_member : Settings → Answered Settings
active_policies_member settings =
    replied settings (reply.ActivePolicies (map sides (filter (is_active settings.runtime.config.zones) settings.runtime.config.policies)))

-- `getPolicySettings(policy)`
unfoldable pub policy_settings_member : Settings → (policy : List ℕ) → Result (Answered Settings) Refusal
policy_settings_member settings policy = do
  found ← look_up settings.runtime.config policy
  Ok (replied settings (reply.PolicySettings found.policy))
