-- The call that a member and its arguments make (firewalld.dbus(5)). There is one exactly where the arguments are of the member's
-- types; of a member of a config object the first is the object's number.
use Rattle.std.specs.Prelude.{ℕ, ℤ, List, [], ◌∷◌, Option, None, Some}
use Rattle.fw_text.specs.Steps.{◌>>=◌}
use Rattle.fw_calls.specs.declared.argument.Argument.{Argument}
use Rattle.fw_calls.specs.declared.argument.Argument.TheVariants as argument
use Rattle.fw_calls.specs.declared.call.Call.{Call}
use Rattle.fw_calls.specs.declared.call.Call.TheVariants.{Zone as zone_call, Policy as policy_call, Ipset as ipset_call, Root as root_call, Config as config_call, ConfigZone as config_zone_call, ConfigPolicy as config_policy_call}
use Rattle.fw_calls.specs.declared.call.ConfigCall.TheVariants as config
use Rattle.fw_calls.specs.declared.call.IpsetCall.TheVariants as ipset
use Rattle.fw_calls.specs.declared.call.ObjectCall.{ObjectCall}
use Rattle.fw_calls.specs.declared.call.ObjectCall.TheVariants as object
use Rattle.fw_calls.specs.declared.call.PolicyCall.TheVariants as policy
use Rattle.fw_calls.specs.declared.call.RootCall.TheVariants as root
use Rattle.fw_calls.specs.declared.call.SettingVerb.{SettingVerb}
use Rattle.fw_calls.specs.declared.call.SettingVerb.TheVariants as act
use Rattle.fw_calls.specs.declared.call.SettingWords.{SettingWords}
use Rattle.fw_calls.specs.declared.call.SettingWords.TheVariants as words
use Rattle.fw_calls.specs.declared.call.ZoneCall.TheVariants as zone
use Rattle.fw_calls.specs.declared.dict.Dict.{Dict}
use Rattle.fw_calls.specs.declared.member.ConfigMember.{ConfigMember}
use Rattle.fw_calls.specs.declared.member.ConfigMember.TheVariants as config_member
use Rattle.fw_calls.specs.declared.member.IpsetMember.{IpsetMember}
use Rattle.fw_calls.specs.declared.member.IpsetMember.TheVariants as ipset_member
use Rattle.fw_calls.specs.declared.member.Member.{Member}
use Rattle.fw_calls.specs.declared.member.Member.TheVariants as member
use Rattle.fw_calls.specs.declared.member.ObjectMember.{ObjectMember}
use Rattle.fw_calls.specs.declared.member.ObjectMember.TheVariants as object_member
use Rattle.fw_calls.specs.declared.member.PolicyMember.{PolicyMember}
use Rattle.fw_calls.specs.declared.member.PolicyMember.TheVariants as policy_member
use Rattle.fw_calls.specs.declared.member.RootMember.{RootMember}
use Rattle.fw_calls.specs.declared.member.RootMember.TheVariants as root_member
use Rattle.fw_calls.specs.declared.member.SettingKind.{SettingKind}
use Rattle.fw_calls.specs.declared.member.SettingKind.TheVariants as kind
use Rattle.fw_calls.specs.declared.member.Verb.{Verb}
use Rattle.fw_calls.specs.declared.member.Verb.TheVariants as verb
use Rattle.fw_calls.specs.declared.member.ZoneMember.{ZoneMember}
use Rattle.fw_calls.specs.declared.member.ZoneMember.TheVariants as zone_member

-- what an argument is, and the arguments behind it
abbrev pub Read : Type 0 → Type 0
Read X = X × List Argument

-- the next argument where it is a text
unfoldable pub next_text : List Argument → Option (Read (List ℕ))
next_text [] = None
next_text (argument.Text text ∷ others) = Some (text, others)
next_text (argument.Number number ∷ others) = None
next_text (argument.Int number ∷ others) = None
next_text (argument.Texts texts ∷ others) = None
next_text (argument.Dict dict ∷ others) = None

-- the next argument where it is the number of an object
unfoldable pub next_number : List Argument → Option (Read ℕ)
next_number [] = None
next_number (argument.Text text ∷ others) = None
next_number (argument.Number number ∷ others) = Some (number, others)
next_number (argument.Int number ∷ others) = None
next_number (argument.Texts texts ∷ others) = None
next_number (argument.Dict dict ∷ others) = None

-- the next argument where it is a number
unfoldable pub next_int : List Argument → Option (Read ℤ)
next_int [] = None
next_int (argument.Text text ∷ others) = None
next_int (argument.Number number ∷ others) = None
next_int (argument.Int number ∷ others) = Some (number, others)
next_int (argument.Texts texts ∷ others) = None
next_int (argument.Dict dict ∷ others) = None

-- the next argument where it is a list of texts
unfoldable pub next_texts : List Argument → Option (Read (List (List ℕ)))
next_texts [] = None
next_texts (argument.Text text ∷ others) = None
next_texts (argument.Number number ∷ others) = None
next_texts (argument.Int number ∷ others) = None
next_texts (argument.Texts texts ∷ others) = Some (texts, others)
next_texts (argument.Dict dict ∷ others) = None

-- the next argument where it is a dict
unfoldable pub next_dict : List Argument → Option (Read Dict)
next_dict [] = None
next_dict (argument.Text text ∷ others) = None
next_dict (argument.Number number ∷ others) = None
next_dict (argument.Int number ∷ others) = None
next_dict (argument.Texts texts ∷ others) = None
next_dict (argument.Dict dict ∷ others) = Some (dict, others)

-- what was made, where no argument is left
unfoldable pub at_end : {X : Type 0} → X → List Argument → Option X
at_end made [] = Some made
at_end made (argument ∷ others) = None

abbrev pub setting_words : SettingKind → List Argument → Option (Read SettingWords)
setting_words kind.Service arguments = do
  name ← next_text arguments
  Some (words.Service name.0, name.1)
setting_words kind.Port arguments = do
  port ← next_text arguments
  protocol ← next_text port.1
  Some (words.Port port.0 protocol.0, protocol.1)
setting_words kind.SourcePort arguments = do
  port ← next_text arguments
  protocol ← next_text port.1
  Some (words.SourcePort port.0 protocol.0, protocol.1)
setting_words kind.Protocol arguments = do
  protocol ← next_text arguments
  Some (words.Protocol protocol.0, protocol.1)
setting_words kind.IcmpBlock arguments = do
  name ← next_text arguments
  Some (words.IcmpBlock name.0, name.1)
setting_words kind.Masquerade arguments = Some (words.Masquerade, arguments)
setting_words kind.ForwardPort arguments = do
  port ← next_text arguments
  protocol ← next_text port.1
  to_port ← next_text protocol.1
  to_address ← next_text to_port.1
  Some (words.ForwardPort port.0 protocol.0 to_port.0 to_address.0, to_address.1)
setting_words kind.RichRule arguments = do
  rule ← next_text arguments
  Some (words.RichRule rule.0, rule.1)

-- what is done with a setting; one that is added has a timeout
abbrev pub setting_verb : Verb → List Argument → Option (Read SettingVerb)
setting_verb verb.Add arguments = do
  timeout ← next_int arguments
  Some (act.Add timeout.0, timeout.1)
setting_verb verb.Remove arguments = Some (act.Remove, arguments)
setting_verb verb.Query arguments = Some (act.Query, arguments)

unfoldable pub zone_call_of : ZoneMember → List Argument → Option Call
zone_call_of (zone_member.Setting verb kind) arguments = do
  name ← next_text arguments
  setting ← setting_words kind name.1
  act ← setting_verb verb setting.1
  at_end (zone_call (zone.Setting act.0 name.0 setting.0)) act.1
zone_call_of (zone_member.Inversion verb) arguments = do
  name ← next_text arguments
  at_end (zone_call (zone.Inversion verb name.0)) name.1
zone_call_of (zone_member.Binding verb kind) arguments = do
  name ← next_text arguments
  entry ← next_text name.1
  at_end (zone_call (zone.Binding verb name.0 (record { kind = kind; text = entry.0 }))) entry.1
zone_call_of (zone_member.ZoneOf kind) arguments = do
  entry ← next_text arguments
  at_end (zone_call (zone.ZoneOf (record { kind = kind; text = entry.0 }))) entry.1
zone_call_of zone_member.Zones arguments = at_end (zone_call zone.Zones) arguments
zone_call_of zone_member.ActiveZones arguments = at_end (zone_call zone.ActiveZones) arguments
zone_call_of zone_member.Settings arguments = do
  name ← next_text arguments
  at_end (zone_call (zone.Settings name.0)) name.1
zone_call_of zone_member.SetSettings arguments = do
  name ← next_text arguments
  settings ← next_dict name.1
  at_end (zone_call (zone.SetSettings name.0 settings.0)) settings.1

unfoldable pub policy_call_of : PolicyMember → List Argument → Option Call
policy_call_of policy_member.Policies arguments = at_end (policy_call policy.Policies) arguments
policy_call_of policy_member.ActivePolicies arguments = at_end (policy_call policy.ActivePolicies) arguments
policy_call_of policy_member.Settings arguments = do
  name ← next_text arguments
  at_end (policy_call (policy.Settings name.0)) name.1
policy_call_of policy_member.SetSettings arguments = do
  name ← next_text arguments
  settings ← next_dict name.1
  at_end (policy_call (policy.SetSettings name.0 settings.0)) settings.1

unfoldable pub ipset_call_of : IpsetMember → List Argument → Option Call
ipset_call_of ipset_member.Ipsets arguments = at_end (ipset_call ipset.Ipsets) arguments
ipset_call_of ipset_member.HasIpset arguments = do
  name ← next_text arguments
  at_end (ipset_call (ipset.HasIpset name.0)) name.1
ipset_call_of (ipset_member.Entry verb) arguments = do
  name ← next_text arguments
  entry ← next_text name.1
  at_end (ipset_call (ipset.Entry verb name.0 entry.0)) entry.1
ipset_call_of ipset_member.Entries arguments = do
  name ← next_text arguments
  at_end (ipset_call (ipset.Entries name.0)) name.1
ipset_call_of ipset_member.SetEntries arguments = do
  name ← next_text arguments
  entries ← next_texts name.1
  at_end (ipset_call (ipset.SetEntries name.0 entries.0)) entries.1

unfoldable pub root_call_of : RootMember → List Argument → Option Call
root_call_of root_member.DefaultZone arguments = at_end (root_call root.DefaultZone) arguments
root_call_of root_member.SetDefaultZone arguments = do
  name ← next_text arguments
  at_end (root_call (root.SetDefaultZone name.0)) name.1
root_call_of root_member.LogDenied arguments = at_end (root_call root.LogDenied) arguments
root_call_of root_member.SetLogDenied arguments = do
  value ← next_text arguments
  at_end (root_call (root.SetLogDenied value.0)) value.1
root_call_of root_member.PanicMode arguments = at_end (root_call root.PanicMode) arguments
root_call_of root_member.EnablePanicMode arguments = at_end (root_call root.EnablePanicMode) arguments
root_call_of root_member.DisablePanicMode arguments = at_end (root_call root.DisablePanicMode) arguments
root_call_of root_member.Services arguments = at_end (root_call root.Services) arguments
root_call_of root_member.Reload arguments = at_end (root_call root.Reload) arguments
root_call_of root_member.CompleteReload arguments = at_end (root_call root.CompleteReload) arguments
root_call_of root_member.RuntimeToPermanent arguments = at_end (root_call root.RuntimeToPermanent) arguments

unfoldable pub config_call_of : ConfigMember → List Argument → Option Call
config_call_of config_member.ZoneNames arguments = at_end (config_call config.ZoneNames) arguments
config_call_of config_member.PolicyNames arguments = at_end (config_call config.PolicyNames) arguments
config_call_of config_member.ZoneByName arguments = do
  name ← next_text arguments
  at_end (config_call (config.ZoneByName name.0)) name.1
config_call_of config_member.PolicyByName arguments = do
  name ← next_text arguments
  at_end (config_call (config.PolicyByName name.0)) name.1
config_call_of config_member.AddZone arguments = do
  name ← next_text arguments
  settings ← next_dict name.1
  at_end (config_call (config.AddZone name.0 settings.0)) settings.1
config_call_of config_member.AddPolicy arguments = do
  name ← next_text arguments
  settings ← next_dict name.1
  at_end (config_call (config.AddPolicy name.0 settings.0)) settings.1

unfoldable pub object_call_of : ObjectMember → List Argument → Option ObjectCall
object_call_of object_member.Settings arguments = at_end object.Settings arguments
object_call_of object_member.Update arguments = do
  settings ← next_dict arguments
  at_end (object.Update settings.0) settings.1
object_call_of object_member.Remove arguments = at_end object.Remove arguments

abbrev pub config_zone_call_of : ObjectMember → List Argument → Option Call
config_zone_call_of member arguments = do
  object ← next_number arguments
  call ← object_call_of member object.1
  Some (config_zone_call object.0 call)

abbrev pub config_policy_call_of : ObjectMember → List Argument → Option Call
config_policy_call_of member arguments = do
  object ← next_number arguments
  call ← object_call_of member object.1
  Some (config_policy_call object.0 call)

unfoldable pub call_of : Member → List Argument → Option Call
call_of (member.Zone member) arguments = zone_call_of member arguments
call_of (member.Policy member) arguments = policy_call_of member arguments
call_of (member.Ipset member) arguments = ipset_call_of member arguments
call_of (member.Root member) arguments = root_call_of member arguments
call_of (member.Config member) arguments = config_call_of member arguments
call_of (member.ConfigZone member) arguments = config_zone_call_of member arguments
call_of (member.ConfigPolicy member) arguments = config_policy_call_of member arguments
