-- Members that bind interfaces and sources to zones (firewalld.dbus(5), `addInterface`, `changeZoneOfSource` and their kin).
use Rattle.std.specs.Prelude.{ℕ, List, Result, Ok, find}
use Rattle.fw_act.specs.Acts.{Answered, ◌>>=◌, changed, refused_as, replied}
use Rattle.fw_calls.specs.declared.call.BindingWord.{BindingWord}
use Rattle.fw_calls.specs.declared.member.BindingVerb.{BindingVerb}
use Rattle.fw_calls.specs.declared.member.BindingVerb.TheVariants as verb
use Rattle.fw_calls.specs.declared.reply.Refusal.{Refusal}
use Rattle.fw_calls.specs.declared.reply.Reply.TheVariants as reply
use Rattle.fw_settings.specs.Parts.{with_zones}
use Rattle.fw_settings.specs.declared.settings.Settings.{Settings}
use Rattle.fw_zone_edits.specs.Entries.{bound, holder, lists, moved, unbound}
use Rattle.fw_zone_edits.specs.Signals.{bound_kind, entry_signal, moved_kind, unbound_kind}
use Rattle.fw_zone_members.specs.Reading.{entry_of, look_up}

-- `addX(zone, entry)`
unfoldable pub add_binding : Settings → (zone : List ℕ) → BindingWord → Result (Answered Settings) Refusal
add_binding settings zone word = do
  found ← look_up settings.runtime.config zone
  entry ← entry_of settings.runtime.config.ipsets word
  zones ← refused_as word.text (bound settings.runtime.config.zones found entry)
  Ok (changed (entry_signal (bound_kind entry) found.zone.name entry) (reply.Text found.zone.name) (with_zones settings zones))

-- `removeX(zone, entry)`
unfoldable pub remove_binding : Settings → (zone : List ℕ) → BindingWord → Result (Answered Settings) Refusal
remove_binding settings zone word = do
  found ← look_up settings.runtime.config zone
  entry ← entry_of settings.runtime.config.ipsets word
  zones ← refused_as word.text (unbound settings.runtime.config.zones found entry)
  Ok (changed (entry_signal (unbound_kind entry) found.zone.name entry) (reply.Text found.zone.name) (with_zones settings zones))

-- `queryX(zone, entry)`
unfoldable pub query_binding : Settings → (zone : List ℕ) → BindingWord → Result (Answered Settings) Refusal
query_binding settings zone word = do
  found ← look_up settings.runtime.config zone
  entry ← entry_of settings.runtime.config.ipsets word
  Ok (replied settings (reply.Bool (lists entry found.zone)))

-- `changeZoneOfX(zone, entry)`: the entry goes to the zone, whichever had it; the signal comes also where the zone has it already
unfoldable pub change_binding : Settings → (zone : List ℕ) → BindingWord → Result (Answered Settings) Refusal
change_binding settings zone word = do
  found ← look_up settings.runtime.config zone
  entry ← entry_of settings.runtime.config.ipsets word
  Ok (changed (entry_signal (moved_kind entry) found.zone.name entry) (reply.Text found.zone.name)
      (with_zones settings (moved settings.runtime.config.zones found entry)))

abbrev pub binding_member : Settings → BindingVerb → (zone : List ℕ) → BindingWord → Result (Answered Settings) Refusal
binding_member settings verb.Add zone word = add_binding settings zone word
binding_member settings verb.Remove zone word = remove_binding settings zone word
binding_member settings verb.Query zone word = query_binding settings zone word
binding_member settings verb.Change zone word = change_binding settings zone word

-- `getZoneOfX(entry)`: the zone that has an entry, or an empty text
unfoldable pub zone_of_member : Settings → BindingWord → Result (Answered Settings) Refusal
zone_of_member settings word = do
  entry ← entry_of settings.runtime.config.ipsets word
  Ok (replied settings (reply.Text (holder (find (lists entry) settings.runtime.config.zones))))
