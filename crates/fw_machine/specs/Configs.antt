-- Calls on the permanent settings, each as its member says (firewalld.dbus(5), interface `org.fedoraproject.FirewallD1.config`).
use Rattle.std.specs.Prelude.{Bool, true, false, Result, Ok}
use Rattle.fw_act.specs.Acts.{Answered}
use Rattle.fw_calls.specs.declared.call.ConfigCall.{ConfigCall}
use Rattle.fw_calls.specs.declared.call.ConfigCall.TheVariants as config
use Rattle.fw_calls.specs.declared.reply.Refusal.{Refusal}
use Rattle.fw_config_members.specs.Adding.{add_policy_member, add_zone_member}
use Rattle.fw_config_members.specs.Asking.{policy_by_name_member, policy_names_member, zone_by_name_member, zone_names_member}
use Rattle.fw_settings.specs.declared.settings.Settings.{Settings}

unfoldable pub config_called : Settings → ConfigCall → Result (Answered Settings) Refusal
config_called settings config.ZoneNames = Ok (zone_names_member settings)
config_called settings config.PolicyNames = Ok (policy_names_member settings)
config_called settings (config.ZoneByName zone) = zone_by_name_member settings zone
config_called settings (config.PolicyByName policy) = policy_by_name_member settings policy
config_called settings (config.AddZone name dict) = add_zone_member settings name dict
config_called settings (config.AddPolicy name dict) = add_policy_member settings name dict

-- whether a call only asks
unfoldable pub config_asks : ConfigCall → Bool
config_asks config.ZoneNames = true
config_asks config.PolicyNames = true
config_asks (config.ZoneByName zone) = true
config_asks (config.PolicyByName policy) = true
config_asks (config.AddZone name dict) = false
config_asks (config.AddPolicy name dict) = false
