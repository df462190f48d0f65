-- Calls on a zone or a policy of the permanent settings, each as its member says (firewalld.dbus(5), interfaces
-- `org.fedoraproject.FirewallD1.config.zone` and `org.fedoraproject.FirewallD1.config.policy`).
use Rattle.std.specs.Prelude.{ℕ, Bool, true, false, Result}
use Rattle.fw_act.specs.Acts.{Answered}
use Rattle.fw_calls.specs.declared.call.ObjectCall.{ObjectCall}
use Rattle.fw_calls.specs.declared.call.ObjectCall.TheVariants as object
use Rattle.fw_calls.specs.declared.reply.Refusal.{Refusal}
use Rattle.fw_object_members.specs.Policies.{policy_settings_member, remove_policy_member, update_policy_member}
use Rattle.fw_object_members.specs.Zones.{remove_zone_member, update_zone_member, zone_settings_member}
use Rattle.fw_settings.specs.declared.settings.Settings.{Settings}

unfoldable pub zone_object_called : Settings → (number : ℕ) → ObjectCall → Result (Answered Settings) Refusal
zone_object_called settings number object.Settings = zone_settings_member settings number
zone_object_called settings number (object.Update dict) = update_zone_member settings number dict
zone_object_called settings number object.Remove = remove_zone_member settings number

unfoldable pub policy_object_called : Settings → (number : ℕ) → ObjectCall → Result (Answered Settings) Refusal
policy_object_called settings number object.Settings = policy_settings_member settings number
policy_object_called settings number (object.Update dict) = update_policy_member settings number dict
policy_object_called settings number object.Remove = remove_policy_member settings number

-- whether a call only asks
unfoldable pub object_asks : ObjectCall → Bool
object_asks object.Settings = true
object_asks (object.Update dict) = false
object_asks object.Remove = false
