-- Events keep the settings valid.
use Rattle.std.proofs.Common.{◌≡◌, ℕ, ◌≤◌, Bool, List, [], ◌∷◌, Result, Ok, Err, refl, sym, subst}
use Rattle.fw_act.specs.Acts.{Answered}
use Rattle.fw_calls.specs.declared.applied.Applied.{Applied}
use Rattle.fw_calls.specs.declared.applied.Applied.TheVariants as applied
use Rattle.fw_calls.specs.declared.call.Call.{Call}
use Rattle.fw_calls.specs.declared.event.Entry.{Entry}
use Rattle.fw_calls.specs.declared.event.Event.{Event}
use Rattle.fw_calls.specs.declared.event.Event.TheVariants as event
use Rattle.fw_calls.specs.declared.reply.Refusal.{Refusal}
use Rattle.fw_machine.specs.Machine.{called, step}
use Rattle.fw_machine_law.specs.Histories.{Leaves}
use Rattle.fw_machine_law.specs.Histories.Leaves.{enters, nothing}
use Rattle.fw_machine_law.specs.Ranges.{AreInRange, IsCallInRange, IsInRange}
use Rattle.fw_proposals.specs.Proposals.{Proposes, or_refused}
use Rattle.fw_settings.specs.Settling.{kept_alone, next_settings, settled}
use Rattle.fw_settings.specs.Valid.{AreValid, last_time}
use Rattle.fw_settings.specs.declared.proposal.Proposal.{Proposal}
use Rattle.fw_settings.specs.declared.settings.Settings.{Settings}
use Rattle.fw_time_links.specs.Linking.{linked}
use Rattle.fw_time_links.specs.Ticking.{ticked}
use Rattle.fw_valid.specs.Each.{Each}

-- the laws of events by their kinds
pub record EventLaws : Type 0 where
  pub called_valid : (settings : Settings) (call : Call) (answered : Answered Settings) → AreValid settings → AreInRange settings → IsCallInRange call → called settings call ≡ Ok answered → AreValid answered.after
  pub tick : (settings : Settings) (told : ℕ) → AreValid settings → told ≤ last_time → AreValid (ticked settings told).after
  pub link : (settings : Settings) (up : Bool) (name : List ℕ) → AreValid settings → AreValid (linked settings up name).after

-- a refusal changes nothing
pub refused_or : (P : Settings → Type 0) (settings : Settings) (did : Result (Answered Settings) Refusal) → P settings → ((answered : Answered Settings) → did ≡ Ok answered → P answered.after) → P (or_refused settings did).after
refused_or P settings (Ok answered) kept goes = goes answered refl
refused_or P settings (Err refusal) kept goes = kept

pub step_valid : EventLaws → (settings : Settings) (event : Event) → AreValid settings → AreInRange settings → IsInRange event → AreValid (step settings event).after
unfolding step IsInRange
step_valid laws settings event.Open valid range told = valid
step_valid laws settings (event.Call session call) valid range told =
    refused_or AreValid settings (called settings call) valid (λ answered is. laws.called_valid settings call answered valid range told is)
step_valid laws settings (event.Tick session now) valid range told = laws.tick settings now valid told
step_valid laws settings (event.Link session up name) valid range told = laws.link settings up name valid
step_valid laws settings (event.Shut session) valid range told = valid

-- where the commit failed, the settings in force and the timers stay
kept_valid : (settings next : Settings) → AreValid settings → AreValid next → AreValid (kept_alone settings next)
kept_valid settings next valid also = record {
  permanent = also.permanent;
  runtime = valid.runtime;
  timers = valid.timers;
  now = also.now;
  zones = also.zones;
  policies = also.policies;
}

kept_in_range : (settings next : Settings) → AreInRange next → AreInRange (kept_alone settings next)
kept_in_range settings next range = record { zone = range.zone; policy = range.policy }

-- what holds of the settings before and of those proposed holds of what is left
left : (P : Settings → Type 0) (settings : Settings) (proposal : Proposal) (save commit : Applied) → P settings → P (next_settings settings proposal) → P (kept_alone settings (next_settings settings proposal))
    → P (settled settings proposal save commit).settings
left P settings proposal applied.Failed commit old new kept = old
left P settings proposal applied.Skipped applied.Failed old new kept = kept
left P settings proposal applied.Skipped applied.Skipped old new kept = new
left P settings proposal applied.Skipped applied.Done old new kept = new
left P settings proposal applied.Done applied.Failed old new kept = kept
left P settings proposal applied.Done applied.Skipped old new kept = new
left P settings proposal applied.Done applied.Done old new kept = new

-- the laws of what an event is to do
pub record StepLaws : Type 0 where
  pub valid : (settings : Settings) (event : Event) → AreValid settings → AreInRange settings → IsInRange event → AreValid (step settings event).after
  pub numbers : (settings : Settings) (event : Event) → AreValid settings → AreInRange settings → AreInRange (step settings event).after

pub settled_valid : StepLaws → (settings : Settings) (event : Event) (proposal : Proposal) (save commit : Applied) → AreValid settings → AreInRange settings → IsInRange event
    → Proposes settings (step settings event) proposal
    → AreValid (settled settings proposal save commit).settings × AreInRange (settled settings proposal save commit).settings
settled_valid laws settings event proposal save commit valid range told proposes =
    let next = next_settings settings proposal in
    let new = subst AreValid (sym proposes.next) (laws.valid settings event valid range told) in
    let numbers = subst AreInRange (sym proposes.next) (laws.numbers settings event valid range) in
    (left AreValid settings proposal save commit valid new (kept_valid settings next valid new), left AreInRange settings proposal save commit range numbers (kept_in_range settings next numbers))

pub record SettledLaw : Type 0 where
  pub settled_is : (settings : Settings) (event : Event) (proposal : Proposal) (save commit : Applied) → AreValid settings → AreInRange settings → IsInRange event
      → Proposes settings (step settings event) proposal
      → AreValid (settled settings proposal save commit).settings × AreInRange (settled settings proposal save commit).settings

pub history_valid : SettledLaw → (settings last : Settings) (entries : List Entry) → AreValid settings → AreInRange settings → Each (λ (entry : Entry). IsInRange entry.event) entries
    → Leaves settings entries last → AreValid last × AreInRange last
history_valid law settings last [] valid range told nothing = (valid, range)
history_valid law settings last (entry ∷ entries) valid range told (enters _ proposal proposes rest) =
    let one = law.settled_is settings entry.event proposal entry.save entry.commit valid range told.0 proposes in
    history_valid law (settled settings proposal entry.save entry.commit).settings last entries one.0 one.1 told.1 rest
