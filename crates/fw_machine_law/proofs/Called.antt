-- Calls keep the settings valid, by interface.
use Rattle.std.proofs.Common.{◌≡◌, ℕ, ◌≤◌, List, Ok, subst}
use Rattle.fw_act.specs.Acts.{Answered, found_or}
use Rattle.fw_calls.specs.declared.call.BindingWord.{BindingWord}
use Rattle.fw_calls.specs.declared.call.Call.{Call}
use Rattle.fw_calls.specs.declared.call.Call.TheVariants as call
use Rattle.fw_calls.specs.declared.call.ConfigCall.{ConfigCall}
use Rattle.fw_calls.specs.declared.call.ConfigCall.TheVariants as config
use Rattle.fw_calls.specs.declared.call.IpsetCall.{IpsetCall}
use Rattle.fw_calls.specs.declared.call.ObjectCall.{ObjectCall}
use Rattle.fw_calls.specs.declared.call.ObjectCall.TheVariants as object
use Rattle.fw_calls.specs.declared.call.PolicyCall.{PolicyCall}
use Rattle.fw_calls.specs.declared.call.PolicyCall.TheVariants as policy
use Rattle.fw_calls.specs.declared.call.RootCall.{RootCall}
use Rattle.fw_calls.specs.declared.call.RootCall.TheVariants as root
use Rattle.fw_calls.specs.declared.call.SettingVerb.{SettingVerb}
use Rattle.fw_calls.specs.declared.call.SettingWords.{SettingWords}
use Rattle.fw_calls.specs.declared.call.ZoneCall.{ZoneCall}
use Rattle.fw_calls.specs.declared.call.ZoneCall.TheVariants as zone
use Rattle.fw_calls.specs.declared.dict.Dict.{Dict}
use Rattle.fw_calls.specs.declared.member.BindingVerb.{BindingVerb}
use Rattle.fw_calls.specs.declared.member.Verb.{Verb}
use Rattle.fw_config_members.specs.Adding.{add_policy_member, add_zone_member}
use Rattle.fw_config_members.specs.Asking.{policy_by_name_member, zone_by_name_member}
use Rattle.fw_config_members.specs.Paths.{policy_number, zone_number}
use Rattle.fw_dicts_valid.proofs.Steps.{inner, ok, then_ok}
use Rattle.fw_ipset_members.specs.Members.{ipset_member}
use Rattle.fw_kept_valid.specs.Timeouts.{IsTimed}
use Rattle.fw_machine.specs.Configs.{config_called}
use Rattle.fw_machine.specs.Machine.{called}
use Rattle.fw_machine.specs.Objects.{policy_object_called, zone_object_called}
use Rattle.fw_machine.specs.Policies.{policy_called}
use Rattle.fw_machine.specs.Roots.{root_called}
use Rattle.fw_machine.specs.Zones.{zone_called}
use Rattle.fw_machine_law.specs.Ranges.{AreInRange, IsCallInRange, IsZoneInRange}
use Rattle.fw_model.specs.declared.code.Code.TheVariants as code
use Rattle.fw_object_members.specs.Objects.{policy_meant, zone_meant}
use Rattle.fw_object_members.specs.Policies as policy_objects
use Rattle.fw_object_members.specs.Policies.{remove_policy_member, update_policy_member}
use Rattle.fw_object_members.specs.Zones as zone_objects
use Rattle.fw_object_members.specs.Zones.{remove_zone_member, update_zone_member}
use Rattle.fw_policy_members.specs.Asking.{policy_settings_member}
use Rattle.fw_policy_members.specs.Updates.{set_policy_settings_member}
use Rattle.fw_root_members.specs.Changing.{disable_panic_member, enable_panic_member, reload_member, set_default_zone_member, set_log_denied_member}
use Rattle.fw_root_members.specs.Numbering.{to_permanent_member}
use Rattle.fw_settings.specs.Valid.{AreValid, last_number}
use Rattle.fw_settings.specs.declared.settings.Settings.{Settings}
use Rattle.fw_zone_members.specs.Asking.{zone_settings_member}
use Rattle.fw_zone_members.specs.Bindings.{binding_member, zone_of_member}
use Rattle.fw_zone_members.specs.Inversion.{inversion_member}
use Rattle.fw_zone_members.specs.Settings.{setting_member}
use Rattle.fw_zone_settings.specs.Updates.{set_zone_settings_member}

-- the laws of members on zones in force
pub record ZoneLaws : Type 0 where
  pub setting : (settings : Settings) (verb : SettingVerb) (zone : List ℕ) (words : SettingWords) (answered : Answered Settings) → AreValid settings → IsTimed verb
      → setting_member settings verb zone words ≡ Ok answered → AreValid answered.after
  pub inversion : (settings : Settings) (verb : Verb) (zone : List ℕ) (answered : Answered Settings) → AreValid settings → inversion_member settings verb zone ≡ Ok answered → AreValid answered.after
  pub binding : (settings : Settings) (verb : BindingVerb) (zone : List ℕ) (word : BindingWord) (answered : Answered Settings) → AreValid settings
      → binding_member settings verb zone word ≡ Ok answered → AreValid answered.after
  pub zone_of : (settings : Settings) (word : BindingWord) (answered : Answered Settings) → AreValid settings → zone_of_member settings word ≡ Ok answered → AreValid answered.after
  pub zone_settings : (settings : Settings) (zone : List ℕ) (answered : Answered Settings) → AreValid settings → zone_settings_member settings zone ≡ Ok answered → AreValid answered.after
  pub set_settings : (settings : Settings) (zone : List ℕ) (dict : Dict) (answered : Answered Settings) → AreValid settings
      → set_zone_settings_member settings zone dict ≡ Ok answered → AreValid answered.after

-- of those on policies in force
pub record PolicyLaws : Type 0 where
  pub policy_settings : (settings : Settings) (policy : List ℕ) (answered : Answered Settings) → AreValid settings → policy_settings_member settings policy ≡ Ok answered → AreValid answered.after
  pub set_settings : (settings : Settings) (policy : List ℕ) (dict : Dict) (answered : Answered Settings) → AreValid settings
      → set_policy_settings_member settings policy dict ≡ Ok answered → AreValid answered.after

-- of those on the firewall as a whole
pub record RootLaws : Type 0 where
  pub set_default_zone : (settings : Settings) (zone : List ℕ) (answered : Answered Settings) → AreValid settings → set_default_zone_member settings zone ≡ Ok answered → AreValid answered.after
  pub set_log_denied : (settings : Settings) (value : List ℕ) (answered : Answered Settings) → AreValid settings → set_log_denied_member settings value ≡ Ok answered → AreValid answered.after
  pub enable_panic : (settings : Settings) (answered : Answered Settings) → AreValid settings → enable_panic_member settings ≡ Ok answered → AreValid answered.after
  pub disable_panic : (settings : Settings) (answered : Answered Settings) → AreValid settings → disable_panic_member settings ≡ Ok answered → AreValid answered.after
  pub reload : (settings : Settings) → AreValid settings → AreValid (reload_member settings).after
  pub to_permanent : (settings : Settings) → AreValid settings → settings.next_zone ≤ last_number → settings.next_policy ≤ last_number → AreValid (to_permanent_member settings).after

-- of those that add to the permanent settings
pub record ConfigLaws : Type 0 where
  pub add_zone : (settings : Settings) (name : List ℕ) (dict : Dict) (answered : Answered Settings) → AreValid settings → settings.next_zone ≤ last_number
      → add_zone_member settings name dict ≡ Ok answered → AreValid answered.after
  pub add_policy : (settings : Settings) (name : List ℕ) (dict : Dict) (answered : Answered Settings) → AreValid settings → settings.next_policy ≤ last_number
      → add_policy_member settings name dict ≡ Ok answered → AreValid answered.after

-- and of those on permanent objects
pub record ZoneObjectLaws : Type 0 where
  pub update : (settings : Settings) (number : ℕ) (dict : Dict) (answered : Answered Settings) → AreValid settings → update_zone_member settings number dict ≡ Ok answered → AreValid answered.after
  pub remove : (settings : Settings) (number : ℕ) (answered : Answered Settings) → AreValid settings → remove_zone_member settings number ≡ Ok answered → AreValid answered.after

pub record PolicyObjectLaws : Type 0 where
  pub update : (settings : Settings) (number : ℕ) (dict : Dict) (answered : Answered Settings) → AreValid settings → update_policy_member settings number dict ≡ Ok answered → AreValid answered.after
  pub remove : (settings : Settings) (number : ℕ) (answered : Answered Settings) → AreValid settings → remove_policy_member settings number ≡ Ok answered → AreValid answered.after

-- an answer that is there, whose settings are valid
done : (answer answered : Answered Settings) → AreValid answer.after → ok answer ≡ ok answered → AreValid answered.after
done answer answered valid is = subst (λ (answered : Answered Settings). AreValid answered.after) (inner answer answered is) valid

pub zone_calls_valid : ZoneLaws → (settings : Settings) (call : ZoneCall) (answered : Answered Settings) → AreValid settings → IsZoneInRange call → zone_called settings call ≡ Ok answered → AreValid answered.after
unfolding zone_called IsZoneInRange
zone_calls_valid laws settings (zone.Setting verb name words) answered valid timed is = laws.setting settings verb name words answered valid timed is
zone_calls_valid laws settings (zone.Inversion verb name) answered valid timed is = laws.inversion settings verb name answered valid is
zone_calls_valid laws settings (zone.Binding verb name word) answered valid timed is = laws.binding settings verb name word answered valid is
zone_calls_valid laws settings (zone.ZoneOf word) answered valid timed is = laws.zone_of settings word answered valid is
zone_calls_valid laws settings zone.Zones answered valid timed is = done _ answered valid is
zone_calls_valid laws settings zone.ActiveZones answered valid timed is = done _ answered valid is
zone_calls_valid laws settings (zone.Settings name) answered valid timed is = laws.zone_settings settings name answered valid is
zone_calls_valid laws settings (zone.SetSettings name dict) answered valid timed is = laws.set_settings settings name dict answered valid is

pub policy_calls_valid : PolicyLaws → (settings : Settings) (call : PolicyCall) (answered : Answered Settings) → AreValid settings → policy_called settings call ≡ Ok answered → AreValid answered.after
unfolding policy_called
policy_calls_valid laws settings policy.Policies answered valid is = done _ answered valid is
policy_calls_valid laws settings policy.ActivePolicies answered valid is = done _ answered valid is
policy_calls_valid laws settings (policy.Settings name) answered valid is = laws.policy_settings settings name answered valid is
policy_calls_valid laws settings (policy.SetSettings name dict) answered valid is = laws.set_settings settings name dict answered valid is

pub root_calls_valid : RootLaws → (settings : Settings) (call : RootCall) (answered : Answered Settings) → AreValid settings → AreInRange settings → root_called settings call ≡ Ok answered → AreValid answered.after
unfolding root_called
root_calls_valid laws settings root.DefaultZone answered valid range is = done _ answered valid is
root_calls_valid laws settings (root.SetDefaultZone zone) answered valid range is = laws.set_default_zone settings zone answered valid is
root_calls_valid laws settings root.LogDenied answered valid range is = done _ answered valid is
root_calls_valid laws settings (root.SetLogDenied value) answered valid range is = laws.set_log_denied settings value answered valid is
root_calls_valid laws settings root.PanicMode answered valid range is = done _ answered valid is
root_calls_valid laws settings root.EnablePanicMode answered valid range is = laws.enable_panic settings answered valid is
root_calls_valid laws settings root.DisablePanicMode answered valid range is = laws.disable_panic settings answered valid is
root_calls_valid laws settings root.Services answered valid range is = done _ answered valid is
root_calls_valid laws settings root.Reload answered valid range is = done _ answered (laws.reload settings valid) is
root_calls_valid laws settings root.CompleteReload answered valid range is = done _ answered (laws.reload settings valid) is
root_calls_valid laws settings root.RuntimeToPermanent answered valid range is = done _ answered (laws.to_permanent settings valid range.zone range.policy) is

pub config_calls_valid : ConfigLaws → (settings : Settings) (call : ConfigCall) (answered : Answered Settings) → AreValid settings → AreInRange settings → config_called settings call ≡ Ok answered → AreValid answered.after
unfolding config_called zone_by_name_member policy_by_name_member
config_calls_valid laws settings config.ZoneNames answered valid range is = done _ answered valid is
config_calls_valid laws settings config.PolicyNames answered valid range is = done _ answered valid is
config_calls_valid laws settings (config.ZoneByName name) answered valid range is =
    let number = then_ok _ (found_or code.InvalidZone name (zone_number settings name)) answered is in
    done _ answered valid number.2
config_calls_valid laws settings (config.PolicyByName name) answered valid range is =
    let number = then_ok _ (found_or code.InvalidPolicy name (policy_number settings name)) answered is in
    done _ answered valid number.2
config_calls_valid laws settings (config.AddZone name dict) answered valid range is = laws.add_zone settings name dict answered valid range.zone is
config_calls_valid laws settings (config.AddPolicy name dict) answered valid range is = laws.add_policy settings name dict answered valid range.policy is

pub zone_object_calls_valid : ZoneObjectLaws → (settings : Settings) (number : ℕ) (call : ObjectCall) (answered : Answered Settings) → AreValid settings → zone_object_called settings number call ≡ Ok answered → AreValid answered.after
unfolding zone_object_called zone_objects.zone_settings_member
zone_object_calls_valid laws settings number object.Settings answered valid is =
    let found = then_ok _ (zone_meant settings number) answered is in
    done _ answered valid found.2
zone_object_calls_valid laws settings number (object.Update dict) answered valid is = laws.update settings number dict answered valid is
zone_object_calls_valid laws settings number object.Remove answered valid is = laws.remove settings number answered valid is

pub policy_object_calls_valid : PolicyObjectLaws → (settings : Settings) (number : ℕ) (call : ObjectCall) (answered : Answered Settings) → AreValid settings → policy_object_called settings number call ≡ Ok answered → AreValid answered.after
unfolding policy_object_called policy_objects.policy_settings_member
policy_object_calls_valid laws settings number object.Settings answered valid is =
    let found = then_ok _ (policy_meant settings number) answered is in
    done _ answered valid found.2
policy_object_calls_valid laws settings number (object.Update dict) answered valid is = laws.update settings number dict answered valid is
policy_object_calls_valid laws settings number object.Remove answered valid is = laws.remove settings number answered valid is

-- the laws of calls by their interfaces
pub record CallLaws : Type 0 where
  pub zone : (settings : Settings) (call : ZoneCall) (answered : Answered Settings) → AreValid settings → IsZoneInRange call → zone_called settings call ≡ Ok answered → AreValid answered.after
  pub policy : (settings : Settings) (call : PolicyCall) (answered : Answered Settings) → AreValid settings → policy_called settings call ≡ Ok answered → AreValid answered.after
  pub ipset : (settings : Settings) (call : IpsetCall) (answered : Answered Settings) → AreValid settings → ipset_member settings call ≡ Ok answered → AreValid answered.after
  pub root : (settings : Settings) (call : RootCall) (answered : Answered Settings) → AreValid settings → AreInRange settings → root_called settings call ≡ Ok answered → AreValid answered.after
  pub config : (settings : Settings) (call : ConfigCall) (answered : Answered Settings) → AreValid settings → AreInRange settings → config_called settings call ≡ Ok answered → AreValid answered.after
  pub zone_object : (settings : Settings) (number : ℕ) (call : ObjectCall) (answered : Answered Settings) → AreValid settings → zone_object_called settings number call ≡ Ok answered → AreValid answered.after
  pub policy_object : (settings : Settings) (number : ℕ) (call : ObjectCall) (answered : Answered Settings) → AreValid settings → policy_object_called settings number call ≡ Ok answered → AreValid answered.after

pub calls_valid : CallLaws → (settings : Settings) (call : Call) (answered : Answered Settings) → AreValid settings → AreInRange settings → IsCallInRange call → called settings call ≡ Ok answered → AreValid answered.after
unfolding called IsCallInRange
calls_valid laws settings (call.Zone one) answered valid range told is = laws.zone settings one answered valid told is
calls_valid laws settings (call.Policy one) answered valid range told is = laws.policy settings one answered valid is
calls_valid laws settings (call.Ipset one) answered valid range told is = laws.ipset settings one answered valid is
calls_valid laws settings (call.Root one) answered valid range told is = laws.root settings one answered valid range is
calls_valid laws settings (call.Config one) answered valid range told is = laws.config settings one answered valid range is
calls_valid laws settings (call.ConfigZone number one) answered valid range told is = laws.zone_object settings number one answered valid is
calls_valid laws settings (call.ConfigPolicy number one) answered valid range told is = laws.policy_object settings number one answered valid is
