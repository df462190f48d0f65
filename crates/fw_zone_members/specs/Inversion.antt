-- Members on the inversion of a zone's ICMP blocks (firewalld.dbus(5), `addIcmpBlockInversion` and its kin).
use Rattle.std.specs.Prelude.{ℕ, Bool, true, false, not, codes, List, [], ◌∷◌, Result, Ok, slice_set}
use Rattle.fw_act.specs.Acts.{Answered, ◌>>=◌, changed, replied, required}
use Rattle.fw_calls.specs.declared.member.Verb.{Verb}
use Rattle.fw_calls.specs.declared.member.Verb.TheVariants as verb
use Rattle.fw_calls.specs.declared.reply.Refusal.{Refusal}
use Rattle.fw_calls.specs.declared.reply.Reply.TheVariants as reply
use Rattle.fw_calls.specs.declared.signal.Arg.TheVariants as arg
use Rattle.fw_calls.specs.declared.signal_kind.SignalKind.{SignalKind}
use Rattle.fw_calls.specs.declared.signal_kind.SignalKind.TheVariants as signal
use Rattle.fw_model.specs.declared.code.Code.TheVariants as code
use Rattle.fw_settings.specs.Parts.{with_zones}
use Rattle.fw_settings.specs.declared.settings.Settings.{Settings}
use Rattle.fw_zone_edits.specs.Zones.{Found}
use Rattle.fw_zone_members.specs.Reading.{look_up}

abbrev pub subject : List ℕ
subject = codes "icmp-block-inversion"

-- the zone with inversion or without, and the signal of it
abbrev pub inverted : Settings → Found → SignalKind → Bool → Answered Settings
inverted settings found kind inversion =
    changed (record { kind = kind; args = arg.Text found.zone.name ∷ [] }) (reply.Text found.zone.name)
    (with_zones settings (slice_set settings.runtime.config.zones found.place (record found.zone { inversion = inversion })))

unfoldable pub inversion_member : Settings → Verb → (zone : List ℕ) → Result (Answered Settings) Refusal
inversion_member settings verb.Add zone = do
  found ← look_up settings.runtime.config zone
  absent ← required (not found.zone.inversion) code.AlreadyEnabled subject
  Ok (inverted settings found signal.ZoneIcmpBlockInversionAdded true)
inversion_member settings verb.Remove zone = do
  found ← look_up settings.runtime.config zone
  there ← required found.zone.inversion code.NotEnabled subject
  Ok (inverted settings found signal.ZoneIcmpBlockInversionRemoved false)
inversion_member settings verb.Query zone = do
  found ← look_up settings.runtime.config zone
  Ok (replied settings (reply.Bool found.zone.inversion))
