-- Calls on zones in force, each as its member says (firewalld.dbus(5), interface `org.fedoraproject.FirewallD1.zone`).
use Rattle.std.specs.Prelude.{Bool, true, false, Result, Ok}
use Rattle.fw_act.specs.Acts.{Answered}
use Rattle.fw_calls.specs.declared.call.SettingVerb.{SettingVerb}
use Rattle.fw_calls.specs.declared.call.SettingVerb.TheVariants as act
use Rattle.fw_calls.specs.declared.call.ZoneCall.{ZoneCall}
use Rattle.fw_calls.specs.declared.call.ZoneCall.TheVariants as zone
use Rattle.fw_calls.specs.declared.member.BindingKind.{BindingKind}
use Rattle.fw_calls.specs.declared.member.BindingVerb.{BindingVerb}
use Rattle.fw_calls.specs.declared.member.BindingVerb.TheVariants as bind
use Rattle.fw_calls.specs.declared.member.Verb.{Verb}
use Rattle.fw_calls.specs.declared.member.Verb.TheVariants as verb
use Rattle.fw_calls.specs.declared.reply.Refusal.{Refusal}
use Rattle.fw_settings.specs.declared.settings.Settings.{Settings}
use Rattle.fw_zone_members.specs.Asking.{active_zones_member, zone_settings_member, zones_member}
use Rattle.fw_zone_members.specs.Bindings.{binding_member, zone_of_member}
use Rattle.fw_zone_members.specs.Flags.{is_interface, is_plain}
use Rattle.fw_zone_members.specs.Inversion.{inversion_member}
use Rattle.fw_zone_members.specs.Settings.{setting_member}
use Rattle.fw_zone_settings.specs.Updates.{set_zone_settings_member}

unfoldable pub zone_called : Settings → ZoneCall → Result (Answered Settings) Refusal
zone_called settings (zone.Setting verb name words) = setting_member settings verb name words
zone_called settings (zone.Inversion verb name) = inversion_member settings verb name
zone_called settings (zone.Binding verb name word) = binding_member settings verb name word
zone_called settings (zone.ZoneOf word) = zone_of_member settings word
zone_called settings zone.Zones = Ok (zones_member settings)
zone_called settings zone.ActiveZones = Ok (active_zones_member settings)
zone_called settings (zone.Settings name) = zone_settings_member settings name
zone_called settings (zone.SetSettings name dict) = set_zone_settings_member settings name dict

-- whether a call only asks
abbrev pub asks_setting : SettingVerb → Bool
asks_setting (act.Add timeout) = false
asks_setting act.Remove = false
asks_setting act.Query = true

abbrev pub asks_binding : BindingVerb → Bool
asks_binding bind.Add = false
asks_binding bind.Remove = false
asks_binding bind.Query = true
asks_binding bind.Change = false

abbrev pub asks_flag : Verb → Bool
asks_flag verb.Add = false
asks_flag verb.Remove = false
asks_flag verb.Query = true

unfoldable pub zone_asks : ZoneCall → Bool
zone_asks (zone.Setting verb name words) = asks_setting verb
zone_asks (zone.Inversion verb name) = asks_flag verb
zone_asks (zone.Binding verb name word) = asks_binding verb
zone_asks (zone.ZoneOf word) = true
zone_asks zone.Zones = true
zone_asks zone.ActiveZones = true
zone_asks (zone.Settings name) = true
zone_asks (zone.SetSettings name dict) = false

-- whether a call is a query that takes no memory
abbrev pub setting_takes_none : SettingVerb → (plain : Bool) → Bool
setting_takes_none (act.Add timeout) plain = false
setting_takes_none act.Remove plain = false
setting_takes_none act.Query plain = plain

abbrev pub binding_takes_none : BindingVerb → BindingKind → Bool
binding_takes_none bind.Add kind = false
binding_takes_none bind.Remove kind = false
binding_takes_none bind.Query kind = is_interface kind
binding_takes_none bind.Change kind = false

unfoldable pub zone_takes_none : ZoneCall → Bool
zone_takes_none (zone.Setting verb name words) = setting_takes_none verb (is_plain words)
zone_takes_none (zone.Inversion verb name) = false
zone_takes_none (zone.Binding verb name word) = binding_takes_none verb word.kind
zone_takes_none (zone.ZoneOf word) = false
zone_takes_none zone.Zones = false
zone_takes_none zone.ActiveZones = false
zone_takes_none (zone.Settings name) = false
zone_takes_none (zone.SetSettings name dict) = false
