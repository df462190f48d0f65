-- The numbers of the next zone and of the next policy stay in their range.
use Rattle.std.proofs.Common.{◌≡◌, ℕ, ◌≤◌, Bool, true, false, not, if◌then◌else◌, codes, List, Option, None, Some, Result, Ok, refl, sym, subst}
use Rattle.std.specs.Str.{bytes_eq}
use Rattle.fw_act.specs.Acts.{Answered, found_or, refused_as, replied, required}
use Rattle.fw_calls.specs.declared.call.BindingWord.{BindingWord}
use Rattle.fw_calls.specs.declared.call.Call.{Call}
use Rattle.fw_calls.specs.declared.call.Call.TheVariants as call
use Rattle.fw_calls.specs.declared.call.ConfigCall.{ConfigCall}
use Rattle.fw_calls.specs.declared.call.ConfigCall.TheVariants as config
use Rattle.fw_calls.specs.declared.call.IpsetCall.{IpsetCall}
use Rattle.fw_calls.specs.declared.call.IpsetCall.TheVariants as ipset
use Rattle.fw_calls.specs.declared.call.ObjectCall.{ObjectCall}
use Rattle.fw_calls.specs.declared.call.ObjectCall.TheVariants as object
use Rattle.fw_calls.specs.declared.call.PolicyCall.{PolicyCall}
use Rattle.fw_calls.specs.declared.call.PolicyCall.TheVariants as policy
use Rattle.fw_calls.specs.declared.call.RootCall.{RootCall}
use Rattle.fw_calls.specs.declared.call.RootCall.TheVariants as root
use Rattle.fw_calls.specs.declared.call.SettingVerb.{SettingVerb}
use Rattle.fw_calls.specs.declared.call.SettingVerb.TheVariants as act
use Rattle.fw_calls.specs.declared.call.SettingWords.{SettingWords}
use Rattle.fw_calls.specs.declared.call.ZoneCall.{ZoneCall}
use Rattle.fw_calls.specs.declared.call.ZoneCall.TheVariants as zone
use Rattle.fw_calls.specs.declared.event.Event.{Event}
use Rattle.fw_calls.specs.declared.event.Event.TheVariants as event
use Rattle.fw_calls.specs.declared.member.BindingVerb.{BindingVerb}
use Rattle.fw_calls.specs.declared.member.BindingVerb.TheVariants as bind
use Rattle.fw_calls.specs.declared.member.Verb.{Verb}
use Rattle.fw_calls.specs.declared.member.Verb.TheVariants as flag
use Rattle.fw_calls.specs.declared.reply.Refusal.{Refusal}
use Rattle.fw_config_members.specs.Adding.{add_policy_member, add_zone_member, added_policy, added_zone, with_policy, with_zone}
use Rattle.fw_calls.specs.declared.dict.Dict.{Dict}
use Rattle.fw_config_members.specs.Asking.{policy_by_name_member, zone_by_name_member}
use Rattle.fw_config_members.specs.Paths.{policy_number, zone_number}
use Rattle.fw_dicts.specs.Policies.{policy_told}
use Rattle.fw_dicts.specs.Zones.{others, zone_told}
use Rattle.fw_dicts_valid.proofs.Steps.{inner, ok, then_ok}
use Rattle.fw_ipset_members.specs.Entries.{entry_call, set_entries}
use Rattle.fw_ipset_members.specs.Members as ipsets
use Rattle.fw_ipset_members.specs.Members.{in_set, ipset_member}
use Rattle.fw_machine.specs.Configs.{config_called}
use Rattle.fw_machine.specs.Machine.{called, step}
use Rattle.fw_machine.specs.Objects.{policy_object_called, zone_object_called}
use Rattle.fw_machine.specs.Policies.{policy_called}
use Rattle.fw_machine.specs.Roots.{root_called}
use Rattle.fw_machine.specs.Zones.{zone_called}
use Rattle.fw_machine_law.proofs.Stepped.{refused_or}
use Rattle.fw_machine_law.specs.Ranges.{AreInRange}
use Rattle.fw_model.specs.declared.code.Code.TheVariants as code
use Rattle.fw_model.specs.declared.ipset.IpSet.{IpSet}
use Rattle.fw_model.specs.declared.setting.Setting.{Setting}
use Rattle.fw_object_members.specs.Objects.{policy_meant, zone_meant}
use Rattle.fw_object_members.specs.Policies as policy_objects
use Rattle.fw_object_members.specs.Policies.{remove_policy_member, update_policy_member, with_policy_at, without_policy_at}
use Rattle.fw_object_members.specs.Zones as zone_objects
use Rattle.fw_object_members.specs.Zones.{removable_zone, remove_zone_member, update_zone_member, with_zone_at, without_zone_at}
use Rattle.fw_policy_members.specs.Asking.{policy_settings_member}
use Rattle.fw_policy_members.specs.Finding as policies
use Rattle.fw_policy_members.specs.Updates as policy_updates
use Rattle.fw_policy_members.specs.Updates.{set_policy_settings_member}
use Rattle.fw_root_members.specs.Changing.{disable_panic_member, enable_panic_member, has_zone, set_default_zone_member, set_log_denied_member}
use Rattle.fw_root_members.specs.LogDenied.{log_denied, same_log_denied}
use Rattle.fw_root_members.specs.Numbering.{to_permanent_member}
use Rattle.fw_root_members.specs.Reloading.{reloaded}
use Rattle.fw_roots_valid.proofs.Numbered.{behind_within}
use Rattle.fw_settings.specs.Valid.{AreValid, last_number}
use Rattle.fw_settings.specs.declared.settings.Settings.{Settings}
use Rattle.fw_time_links.specs.Linking.{comes, goes, holder_of, home, link_gone, link_up, linked, seen, some_has}
use Rattle.fw_time_links.specs.Ticking.{ticked}
use Rattle.fw_zone_edits.specs.Entries.{bound, unbound}
use Rattle.fw_zone_edits.specs.Settings.{added_at, removed_at}
use Rattle.fw_zone_edits.specs.Texts.{setting_text}
use Rattle.fw_zone_edits.specs.Zones.{Found}
use Rattle.fw_zone_members.specs.Asking.{zone_settings_member}
use Rattle.fw_zone_members.specs.Bindings.{add_binding, binding_member, change_binding, query_binding, remove_binding, zone_of_member}
use Rattle.fw_zone_members.specs.Inversion as inversion
use Rattle.fw_zone_members.specs.Inversion.{inversion_member}
use Rattle.fw_zone_members.specs.Reading.{entry_of, look_up, seconds_of, setting_of}
use Rattle.fw_zone_members.specs.Settings.{add_setting, query_setting, remove_setting, setting_member, with_found, without_found}
use Rattle.fw_zone_settings.specs.Updates as zone_updates
use Rattle.fw_zone_settings.specs.Updates.{set_zone_settings_member}

-- the numbers of the next zone and of the next policy are as they were
abbrev Stay : (settings after : Settings) → Type 0
Stay settings after = (after.next_zone ≡ settings.next_zone) × (after.next_policy ≡ settings.next_policy)

in_range : (settings after : Settings) → AreInRange settings → Stay settings after → AreInRange after
in_range settings after range stay = record {
  zone = subst (λ (number : ℕ). number ≤ last_number) (sym stay.0) range.zone;
  policy = subst (λ (number : ℕ). number ≤ last_number) (sym stay.1) range.policy;
}

-- an answer that is there, and whose numbers are as they were
stay : (settings : Settings) (answer answered : Answered Settings) → Stay settings answer.after → ok answer ≡ ok answered → Stay settings answered.after
stay settings answer answered kept is = subst (λ (answered : Answered Settings). Stay settings answered.after) (inner answer answered is) kept

-- members on zones in force
more_stays : (settings : Settings) (found : Found) (seconds : ℕ) (setting : Setting) (after : Settings) → with_found settings found seconds setting ≡ Ok after → Stay settings after
unfolding with_found
more_stays settings found seconds setting after is =
    let zones = then_ok _ (refused_as (setting_text setting) (added_at settings.runtime.config.zones found setting)) after is in
    subst (Stay settings) (inner _ after zones.2) (refl, refl)

less_stays : (settings : Settings) (found : Found) (setting : Setting) (after : Settings) → without_found settings found setting ≡ Ok after → Stay settings after
unfolding without_found
less_stays settings found setting after is =
    let zones = then_ok _ (refused_as (setting_text setting) (removed_at settings.runtime.config.zones found setting)) after is in
    subst (Stay settings) (inner _ after zones.2) (refl, refl)

setting_stays : (settings : Settings) (verb : SettingVerb) (name : List ℕ) (words : SettingWords) (answered : Answered Settings) → setting_member settings verb name words ≡ Ok answered → Stay settings answered.after
unfolding add_setting remove_setting query_setting
setting_stays settings (act.Add timeout) name words answered is =
    let found = then_ok _ (look_up settings.runtime.config name) answered is in
    let seconds = then_ok _ (seconds_of timeout) answered found.2 in
    let setting = then_ok _ (setting_of settings.runtime.config words) answered seconds.2 in
    let after = then_ok _ (with_found settings found.0 seconds.0 setting.0) answered setting.2 in
    stay settings _ answered (more_stays settings found.0 seconds.0 setting.0 after.0 after.1) after.2
setting_stays settings act.Remove name words answered is =
    let found = then_ok _ (look_up settings.runtime.config name) answered is in
    let setting = then_ok _ (setting_of settings.runtime.config words) answered found.2 in
    let after = then_ok _ (without_found settings found.0 setting.0) answered setting.2 in
    stay settings _ answered (less_stays settings found.0 setting.0 after.0 after.1) after.2
setting_stays settings act.Query name words answered is =
    let found = then_ok _ (look_up settings.runtime.config name) answered is in
    let setting = then_ok _ (setting_of settings.runtime.config words) answered found.2 in
    stay settings _ answered (refl, refl) setting.2

inversion_stays : (settings : Settings) (verb : Verb) (name : List ℕ) (answered : Answered Settings) → inversion_member settings verb name ≡ Ok answered → Stay settings answered.after
unfolding inversion_member
inversion_stays settings flag.Add name answered is =
    let found = then_ok _ (look_up settings.runtime.config name) answered is in
    let absent = then_ok _ (required (not found.0.zone.inversion) code.AlreadyEnabled inversion.subject) answered found.2 in
    stay settings _ answered (refl, refl) absent.2
inversion_stays settings flag.Remove name answered is =
    let found = then_ok _ (look_up settings.runtime.config name) answered is in
    let there = then_ok _ (required found.0.zone.inversion code.NotEnabled inversion.subject) answered found.2 in
    stay settings _ answered (refl, refl) there.2
inversion_stays settings flag.Query name answered is =
    let found = then_ok _ (look_up settings.runtime.config name) answered is in
    stay settings _ answered (refl, refl) found.2

binding_stays : (settings : Settings) (verb : BindingVerb) (name : List ℕ) (word : BindingWord) (answered : Answered Settings) → binding_member settings verb name word ≡ Ok answered → Stay settings answered.after
unfolding add_binding remove_binding query_binding change_binding
binding_stays settings bind.Add name word answered is =
    let found = then_ok _ (look_up settings.runtime.config name) answered is in
    let entry = then_ok _ (entry_of settings.runtime.config.ipsets word) answered found.2 in
    let zones = then_ok _ (refused_as word.text (bound settings.runtime.config.zones found.0 entry.0)) answered entry.2 in
    stay settings _ answered (refl, refl) zones.2
binding_stays settings bind.Remove name word answered is =
    let found = then_ok _ (look_up settings.runtime.config name) answered is in
    let entry = then_ok _ (entry_of settings.runtime.config.ipsets word) answered found.2 in
    let zones = then_ok _ (refused_as word.text (unbound settings.runtime.config.zones found.0 entry.0)) answered entry.2 in
    stay settings _ answered (refl, refl) zones.2
binding_stays settings bind.Query name word answered is =
    let found = then_ok _ (look_up settings.runtime.config name) answered is in
    let entry = then_ok _ (entry_of settings.runtime.config.ipsets word) answered found.2 in
    stay settings _ answered (refl, refl) entry.2
binding_stays settings bind.Change name word answered is =
    let found = then_ok _ (look_up settings.runtime.config name) answered is in
    let entry = then_ok _ (entry_of settings.runtime.config.ipsets word) answered found.2 in
    stay settings _ answered (refl, refl) entry.2

zone_of_stays : (settings : Settings) (word : BindingWord) (answered : Answered Settings) → zone_of_member settings word ≡ Ok answered → Stay settings answered.after
unfolding zone_of_member
zone_of_stays settings word answered is =
    let entry = then_ok _ (entry_of settings.runtime.config.ipsets word) answered is in
    stay settings _ answered (refl, refl) entry.2

zone_settings_stay : (settings : Settings) (name : List ℕ) (answered : Answered Settings) → zone_settings_member settings name ≡ Ok answered → Stay settings answered.after
unfolding zone_settings_member
zone_settings_stay settings name answered is =
    let found = then_ok _ (look_up settings.runtime.config name) answered is in
    stay settings _ answered (refl, refl) found.2

set_zone_settings_stays : (settings : Settings) (name : List ℕ) (dict : Dict) (answered : Answered Settings) → set_zone_settings_member settings name dict ≡ Ok answered → Stay settings answered.after
unfolding set_zone_settings_member
set_zone_settings_stays settings name dict answered is =
    let update = then_ok _ (zone_updates.update_of settings name dict) answered is in
    stay settings _ answered (refl, refl) update.2

zone_calls_stay : (settings : Settings) (call : ZoneCall) (answered : Answered Settings) → zone_called settings call ≡ Ok answered → Stay settings answered.after
unfolding zone_called
zone_calls_stay settings (zone.Setting verb name words) answered is = setting_stays settings verb name words answered is
zone_calls_stay settings (zone.Inversion verb name) answered is = inversion_stays settings verb name answered is
zone_calls_stay settings (zone.Binding verb name word) answered is = binding_stays settings verb name word answered is
zone_calls_stay settings (zone.ZoneOf word) answered is = zone_of_stays settings word answered is
zone_calls_stay settings zone.Zones answered is = stay settings _ answered (refl, refl) is
zone_calls_stay settings zone.ActiveZones answered is = stay settings _ answered (refl, refl) is
zone_calls_stay settings (zone.Settings name) answered is = zone_settings_stay settings name answered is
zone_calls_stay settings (zone.SetSettings name dict) answered is = set_zone_settings_stays settings name dict answered is

-- members on policies in force
policy_calls_stay : (settings : Settings) (call : PolicyCall) (answered : Answered Settings) → policy_called settings call ≡ Ok answered → Stay settings answered.after
unfolding policy_called policy_settings_member set_policy_settings_member
policy_calls_stay settings (policy.Settings name) answered is =
    let found = then_ok _ (policies.look_up settings.runtime.config name) answered is in
    stay settings _ answered (refl, refl) found.2
policy_calls_stay settings (policy.SetSettings name dict) answered is =
    let update = then_ok _ (policy_updates.update_of settings name dict) answered is in
    stay settings _ answered (refl, refl) update.2
policy_calls_stay settings policy.Policies answered is = stay settings _ answered (refl, refl) is
policy_calls_stay settings policy.ActivePolicies answered is = stay settings _ answered (refl, refl) is

-- members on ipsets
in_set_stays : (settings : Settings) (name : List ℕ) (did : IpSet → Result (Answered IpSet) Refusal) (answered : Answered Settings) → in_set settings name did ≡ Ok answered → Stay settings answered.after
unfolding in_set
in_set_stays settings name did answered is =
    let found = then_ok _ (ipsets.look_up settings.runtime.config name) answered is in
    let acted = then_ok _ (did found.0.set) answered found.2 in
    stay settings _ answered (refl, refl) acted.2

ipset_calls_stay : (settings : Settings) (call : IpsetCall) (answered : Answered Settings) → ipset_member settings call ≡ Ok answered → Stay settings answered.after
unfolding ipset_member
ipset_calls_stay settings ipset.Ipsets answered is = stay settings _ answered (refl, refl) is
ipset_calls_stay settings (ipset.HasIpset name) answered is = stay settings _ answered (refl, refl) is
ipset_calls_stay settings (ipset.Entry verb name text) answered is = in_set_stays settings name (entry_call verb text) answered is
ipset_calls_stay settings (ipset.Entries name) answered is =
    let found = then_ok _ (ipsets.look_up settings.runtime.config name) answered is in
    stay settings _ answered (refl, refl) found.2
ipset_calls_stay settings (ipset.SetEntries name texts) answered is = in_set_stays settings name (set_entries texts) answered is

-- members on the firewall as a whole
set_default_zone_stays : (settings : Settings) (name : List ℕ) (answered : Answered Settings) → set_default_zone_member settings name ≡ Ok answered → Stay settings answered.after
unfolding set_default_zone_member
set_default_zone_stays settings name answered is =
    let in_force = then_ok _ (required (has_zone settings.runtime.config name) code.InvalidZone name) answered is in
    let kept = then_ok _ (required (has_zone settings.permanent name) code.InvalidZone name) answered in_force.2 in
    let other = then_ok _ (required (not (bytes_eq settings.runtime.config.default_zone name)) code.ZoneAlreadySet name) answered kept.2 in
    stay settings _ answered (refl, refl) other.2

set_log_denied_stays : (settings : Settings) (value : List ℕ) (answered : Answered Settings) → set_log_denied_member settings value ≡ Ok answered → Stay settings answered.after
unfolding set_log_denied_member reloaded
set_log_denied_stays settings value answered is =
    let denied = then_ok _ (found_or code.InvalidValue value (log_denied value)) answered is in
    let other = then_ok _ (required (not (same_log_denied settings.runtime.config.log_denied denied.0)) code.AlreadySet value) answered denied.2 in
    stay settings _ answered (refl, refl) other.2

enable_panic_stays : (settings : Settings) (answered : Answered Settings) → enable_panic_member settings ≡ Ok answered → Stay settings answered.after
unfolding enable_panic_member
enable_panic_stays settings answered is =
    let off = then_ok _ (required (not settings.runtime.panic) code.AlreadyEnabled (codes "panic")) answered is in
    stay settings _ answered (refl, refl) off.2

disable_panic_stays : (settings : Settings) (answered : Answered Settings) → disable_panic_member settings ≡ Ok answered → Stay settings answered.after
unfolding disable_panic_member
disable_panic_stays settings answered is =
    let on = then_ok _ (required settings.runtime.panic code.NotEnabled (codes "panic")) answered is in
    stay settings _ answered (refl, refl) on.2

-- settings in force that become the permanent ones leave the numbers in their range
abbrev pub PermanentLaw : Type 0
PermanentLaw = (settings : Settings) → AreValid settings → settings.next_zone ≤ last_number → settings.next_policy ≤ last_number
    → ((to_permanent_member settings).after.next_zone ≤ last_number) × ((to_permanent_member settings).after.next_policy ≤ last_number)

-- an answer that is there, and whose numbers are in their range
ranged : (answer answered : Answered Settings) → AreInRange answer.after → ok answer ≡ ok answered → AreInRange answered.after
ranged answer answered range is = subst (λ (answered : Answered Settings). AreInRange answered.after) (inner answer answered is) range

root_calls_range : PermanentLaw → (settings : Settings) (call : RootCall) (answered : Answered Settings) → AreValid settings → AreInRange settings → root_called settings call ≡ Ok answered → AreInRange answered.after
unfolding root_called reloaded
root_calls_range law settings root.DefaultZone answered valid range is = ranged _ answered range is
root_calls_range law settings (root.SetDefaultZone name) answered valid range is = in_range settings answered.after range (set_default_zone_stays settings name answered is)
root_calls_range law settings root.LogDenied answered valid range is = ranged _ answered range is
root_calls_range law settings (root.SetLogDenied value) answered valid range is = in_range settings answered.after range (set_log_denied_stays settings value answered is)
root_calls_range law settings root.PanicMode answered valid range is = ranged _ answered range is
root_calls_range law settings root.EnablePanicMode answered valid range is = in_range settings answered.after range (enable_panic_stays settings answered is)
root_calls_range law settings root.DisablePanicMode answered valid range is = in_range settings answered.after range (disable_panic_stays settings answered is)
root_calls_range law settings root.Services answered valid range is = ranged _ answered range is
root_calls_range law settings root.Reload answered valid range is = in_range settings answered.after range (stay settings _ answered (refl, refl) is)
root_calls_range law settings root.CompleteReload answered valid range is = in_range settings answered.after range (stay settings _ answered (refl, refl) is)
root_calls_range law settings root.RuntimeToPermanent answered valid range is =
    let numbers = law settings valid range.zone range.policy in
    ranged (to_permanent_member settings) answered (record { zone = numbers.0; policy = numbers.1 }) is

-- members on the permanent settings
config_calls_range : (settings : Settings) (call : ConfigCall) (answered : Answered Settings) → AreInRange settings → config_called settings call ≡ Ok answered → AreInRange answered.after
unfolding config_called zone_by_name_member policy_by_name_member add_zone_member add_policy_member with_zone with_policy
config_calls_range settings config.ZoneNames answered range is = ranged _ answered range is
config_calls_range settings config.PolicyNames answered range is = ranged _ answered range is
config_calls_range settings (config.ZoneByName name) answered range is =
    let number = then_ok _ (found_or code.InvalidZone name (zone_number settings name)) answered is in
    ranged _ answered range number.2
config_calls_range settings (config.PolicyByName name) answered range is =
    let number = then_ok _ (found_or code.InvalidPolicy name (policy_number settings name)) answered is in
    ranged _ answered range number.2
config_calls_range settings (config.AddZone name dict) answered range is =
    let zone = then_ok _ (added_zone settings.permanent name dict) answered is in
    ranged _ answered (record { zone = behind_within settings.next_zone; policy = range.policy }) zone.2
config_calls_range settings (config.AddPolicy name dict) answered range is =
    let policy = then_ok _ (added_policy settings.permanent name dict) answered is in
    ranged _ answered (record { zone = range.zone; policy = behind_within settings.next_policy }) policy.2

-- members on permanent objects
zone_objects_stay : (settings : Settings) (number : ℕ) (call : ObjectCall) (answered : Answered Settings) → zone_object_called settings number call ≡ Ok answered → Stay settings answered.after
unfolding zone_object_called zone_objects.zone_settings_member update_zone_member remove_zone_member with_zone_at without_zone_at
zone_objects_stay settings number object.Settings answered is =
    let found = then_ok _ (zone_meant settings number) answered is in
    stay settings _ answered (refl, refl) found.2
zone_objects_stay settings number (object.Update dict) answered is =
    let found = then_ok _ (zone_meant settings number) answered is in
    let told = then_ok _ (zone_told settings.permanent (others settings.permanent.zones found.0.place) found.0.zone dict) answered found.2 in
    stay settings _ answered (refl, refl) told.2
zone_objects_stay settings number object.Remove answered is =
    let place = then_ok _ (removable_zone settings number) answered is in
    stay settings _ answered (refl, refl) place.2

policy_objects_stay : (settings : Settings) (number : ℕ) (call : ObjectCall) (answered : Answered Settings) → policy_object_called settings number call ≡ Ok answered → Stay settings answered.after
unfolding policy_object_called policy_objects.policy_settings_member update_policy_member remove_policy_member with_policy_at without_policy_at
policy_objects_stay settings number object.Settings answered is =
    let found = then_ok _ (policy_meant settings number) answered is in
    stay settings _ answered (refl, refl) found.2
policy_objects_stay settings number (object.Update dict) answered is =
    let found = then_ok _ (policy_meant settings number) answered is in
    let told = then_ok _ (policy_told settings.permanent found.0.policy dict) answered found.2 in
    stay settings _ answered (refl, refl) told.2
policy_objects_stay settings number object.Remove answered is =
    let found = then_ok _ (policy_meant settings number) answered is in
    stay settings _ answered (refl, refl) found.2

pub called_numbers : PermanentLaw → (settings : Settings) (call : Call) (answered : Answered Settings) → AreValid settings → AreInRange settings → called settings call ≡ Ok answered → AreInRange answered.after
unfolding called
called_numbers law settings (call.Zone one) answered valid range is = in_range settings answered.after range (zone_calls_stay settings one answered is)
called_numbers law settings (call.Policy one) answered valid range is = in_range settings answered.after range (policy_calls_stay settings one answered is)
called_numbers law settings (call.Ipset one) answered valid range is = in_range settings answered.after range (ipset_calls_stay settings one answered is)
called_numbers law settings (call.Root one) answered valid range is = root_calls_range law settings one answered valid range is
called_numbers law settings (call.Config one) answered valid range is = config_calls_range settings one answered range is
called_numbers law settings (call.ConfigZone number one) answered valid range is = in_range settings answered.after range (zone_objects_stay settings number one answered is)
called_numbers law settings (call.ConfigPolicy number one) answered valid range is = in_range settings answered.after range (policy_objects_stay settings number one answered is)

-- links that come and go
link_stays : (settings : Settings) (up : Bool) (name : List ℕ) → Stay settings (linked settings up name).after
unfolding link_up link_gone
link_stays settings true name = by (some_has name settings.runtime.config.zones) (home settings.runtime.config.zones settings.permanent.zones name)
  where
    came : (found : Option Found) → Stay settings (comes settings name found).after
    came None = (refl, refl)
    came (Some found) = (refl, refl)

    by : (known : Bool) (found : Option Found) → Stay settings (if known then replied settings seen else comes settings name found).after
    by true found = (refl, refl)
    by false found = came found
link_stays settings false name = by (some_has name settings.permanent.zones) (holder_of settings.runtime.config.zones name)
  where
    went : (found : Option Found) → Stay settings (goes settings name found).after
    went None = (refl, refl)
    went (Some found) = (refl, refl)

    by : (known : Bool) (found : Option Found) → Stay settings (if known then replied settings seen else goes settings name found).after
    by true found = (refl, refl)
    by false found = went found

tick_stays : (settings : Settings) (told : ℕ) → Stay settings (ticked settings told).after
unfolding ticked
tick_stays settings told = (refl, refl)

pub step_numbers : ((settings : Settings) (call : Call) (answered : Answered Settings) → AreValid settings → AreInRange settings → called settings call ≡ Ok answered → AreInRange answered.after)
    → (settings : Settings) (event : Event) → AreValid settings → AreInRange settings → AreInRange (step settings event).after
unfolding step
step_numbers law settings event.Open valid range = range
step_numbers law settings (event.Call session call) valid range = refused_or AreInRange settings (called settings call) range (λ answered is. law settings call answered valid range is)
step_numbers law settings (event.Tick session now) valid range = in_range settings (ticked settings now).after range (tick_stays settings now)
step_numbers law settings (event.Link session up name) valid range = in_range settings (linked settings up name).after range (link_stays settings up name)
step_numbers law settings (event.Shut session) valid range = range
