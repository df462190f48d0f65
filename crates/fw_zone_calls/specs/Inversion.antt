-- Calls on the inversion of a zone's ICMP blocks (firewalld.dbus(5), `addIcmpBlockInversion` and its kin).
use Rattle.std.specs.Prelude.{ℕ, Bool, true, false, if◌then◌else◌, codes, List, [], ◌∷◌, Result, Ok, Err}
use Rattle.fw_call.specs.declared.member.Verb.{Verb}
use Rattle.fw_call.specs.declared.member.Verb.TheVariants as verb
use Rattle.fw_model.specs.declared.code.Code.TheVariants as code
use Rattle.fw_model.specs.declared.zone.Zone.{Zone}
use Rattle.fw_told.specs.declared.told.Reply.TheVariants as reply
use Rattle.fw_told.specs.declared.told.SignalKind.{SignalKind}
use Rattle.fw_told.specs.declared.told.SignalKind.TheVariants as signal
use Rattle.fw_told.specs.declared.told.Value.TheVariants as value
use Rattle.fw_answer.specs.Refusals.{Answered, refused}
use Rattle.fw_answer.specs.declared.refusal.Refusal.{Refusal}

abbrev pub subject : List ℕ
subject = codes "icmp-block-inversion"

-- the zone with inversion or without, and the signal of it
abbrev pub inverted : Zone → SignalKind → Bool → Answered Zone
inverted zone kind inversion = record {
  signals = record { kind = kind; values = value.Text zone.name ∷ [] } ∷ [];
  reply = reply.Ok (value.Text zone.name ∷ []);
  after = record zone { inversion = inversion };
}

abbrev pub inversion_call : Zone → Verb → Result (Answered Zone) Refusal
inversion_call zone verb.Add =
    if zone.inversion then refused code.AlreadyEnabled subject
    else Ok (inverted zone signal.ZoneIcmpBlockInversionAdded true)
inversion_call zone verb.Remove =
    if zone.inversion then Ok (inverted zone signal.ZoneIcmpBlockInversionRemoved false)
    else refused code.NotEnabled subject
inversion_call zone verb.Query =
    Ok (record { signals = []; reply = reply.Ok (value.Bool zone.inversion ∷ []); after = zone })
