-- A call on one ipset is a call on the settings.
use Rattle.std.proofs.Common.{◌≡◌, ℕ, List, Some, Result, Ok, Err, OnErr, slice_get, slice_set, ap, ◌∙◌}
use Rattle.fw_answer.proofs.Places.{set_as_it_was}
use Rattle.fw_act.specs.Acts.{Acts, Answered, result_and_then}
use Rattle.fw_act.specs.declared.answer.Answer.{Answer}
use Rattle.fw_act.specs.declared.stop.Stop.{Stop}
use Rattle.fw_act.specs.declared.stop.Stop.TheVariants as stop
use Rattle.fw_calls.specs.declared.reply.Refusal.{Refusal}
use Rattle.fw_ipset_members.specs.Members.{in_set, look_up}
use Rattle.fw_ipset_members.specs.Sets.{Found}
use Rattle.fw_model.specs.declared.ipset.IpSet.{IpSet}
use Rattle.fw_settings.specs.Parts.{with_ipsets}
use Rattle.fw_settings.specs.declared.settings.Settings.{Settings}

abbrev with_set : Settings → (place : ℕ) → IpSet → Settings
with_set settings place set = with_ipsets settings (slice_set settings.runtime.config.ipsets place set)

abbrev put_back : Settings → Found → Answered IpSet → Result (Answered Settings) Refusal
put_back settings found answered = Ok (record { signals = answered.signals; reply = answered.reply; after = with_set settings found.place answered.after })

-- the ipset is found, and then the call on it
found_in : (settings : Settings) (name : List ℕ) (act : IpSet → Result (Answered IpSet) Refusal) (found : Found) (answered : Result (Answered IpSet) Refusal) → look_up settings.runtime.config name ≡ Ok found → act found.set ≡ answered → in_set settings name act ≡ result_and_then (put_back settings found) answered
unfolding in_set
found_in settings name act found answered meant is =
    ap (λ (looked : Result Found Refusal). result_and_then (λ one. result_and_then (put_back settings one) (act one.set)) looked) meant
    ∙ ap (λ (done : Result (Answered IpSet) Refusal). result_and_then (put_back settings found) done) is

pub set_acts : (settings : Settings) (name : List ℕ) (act : IpSet → Result (Answered IpSet) Refusal) (found : Found) (set : IpSet) (result : Result Answer Stop) → look_up settings.runtime.config name ≡ Ok found → Acts set result (act found.set) → Acts (with_set settings found.place set) result (in_set settings name act)
set_acts settings name act found set (Ok answer) meant is = found_in settings name act found _ meant is
set_acts settings name act found set (Err (stop.Refused refusal)) meant is = found_in settings name act found (Err refusal) meant is
set_acts settings name act found set (Err stop.Memory) meant is = tt

pub set_kept : (settings : Settings) (found : Found) (set : IpSet) (result : Result Answer Stop) → slice_get settings.runtime.config.ipsets found.place ≡ Some found.set → OnErr result (set ≡ found.set) → OnErr result (with_set settings found.place set ≡ settings)
set_kept settings found set (Ok answer) at kept = kept
set_kept settings found set (Err error) at kept =
    ap (λ s. with_set settings found.place s) kept
    ∙ ap (λ sets. with_ipsets settings sets) (set_as_it_was settings.runtime.config.ipsets found.place found.set at)

-- a call that only asks leaves the settings as they are
pub set_asked : (settings : Settings) (name : List ℕ) (act : IpSet → Result (Answered IpSet) Refusal) (found : Found) (answer : Answer) → look_up settings.runtime.config name ≡ Ok found
    → slice_get settings.runtime.config.ipsets found.place ≡ Some found.set → act found.set ≡ Ok (record { signals = answer.signals; reply = answer.reply; after = found.set })
    → in_set settings name act ≡ Ok (record { signals = answer.signals; reply = answer.reply; after = settings })
set_asked settings name act found answer meant at is =
    found_in settings name act found (Ok (record { signals = answer.signals; reply = answer.reply; after = found.set })) meant is
    ∙ ap told (ap (λ sets. with_ipsets settings sets) (set_as_it_was settings.runtime.config.ipsets found.place found.set at))
  where
    told : Settings → Result (Answered Settings) Refusal
    told after = Ok (record { signals = answer.signals; reply = answer.reply; after = after })
