-- Calls on policies in force, each as its member says (firewalld.dbus(5), interface `org.fedoraproject.FirewallD1.policy`).
use Rattle.std.specs.Prelude.{Bool, true, false, Result, Ok}
use Rattle.fw_act.specs.Acts.{Answered}
use Rattle.fw_calls.specs.declared.call.PolicyCall.{PolicyCall}
use Rattle.fw_calls.specs.declared.call.PolicyCall.TheVariants as policy
use Rattle.fw_calls.specs.declared.reply.Refusal.{Refusal}
use Rattle.fw_policy_members.specs.Asking.{active_policies_member, policies_member, policy_settings_member}
use Rattle.fw_policy_members.specs.Updates.{set_policy_settings_member}
use Rattle.fw_settings.specs.declared.settings.Settings.{Settings}

unfoldable pub policy_called : Settings → PolicyCall → Result (Answered Settings) Refusal
policy_called settings policy.Policies = Ok (policies_member settings)
policy_called settings policy.ActivePolicies = Ok (active_policies_member settings)
policy_called settings (policy.Settings name) = policy_settings_member settings name
policy_called settings (policy.SetSettings name dict) = set_policy_settings_member settings name dict

-- whether a call only asks
unfoldable pub policy_asks : PolicyCall → Bool
policy_asks policy.Policies = true
policy_asks policy.ActivePolicies = true
policy_asks (policy.Settings name) = true
policy_asks (policy.SetSettings name dict) = false
