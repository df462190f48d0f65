-- What an event needs is there, over a history with more room.
use Rattle.std.proofs.Common.{arith, ◌≡◌, ◌≤◌, ◌<◌, ◌+◌, ◌-◌, ◌*◌, ◌^◌, min, ℕ, suc, List, [], ◌∷◌, ◌++◌, length, drop, true, false, Bool, refl, ap, sym, ◌∙◌, subst}
use Rattle.std.specs.List.{sum_by}
use Rattle.fw_calls.specs.Weight.{event_size, signal_size, weight}
use Rattle.fw_calls.specs.declared.event.Entry.{Entry}
use Rattle.fw_calls.specs.declared.event.Event.{Event}
use Rattle.fw_calls.specs.declared.signal.Signal.{Signal}
use Rattle.fw_daemon.specs.Daemons.{most_before}
use Rattle.fw_daemon.specs.Outside.{IsReadyFor}
use Rattle.fw_history.specs.History.{IsHistory, IsPlanned, IsSame, Recorded, left}
use Rattle.fw_journal.specs.Journal.{joined, weights}
use Rattle.fw_machine.specs.Machine.{step}
use Rattle.fw_model.specs.declared.runtime.Runtime.{Runtime}
use Rattle.fw_proposals.specs.Proposals.{Proposes}
use Rattle.fw_replay.specs.Replay.{played, signals_of}
use Rattle.fw_settings.specs.Starting.{started}
use Rattle.fw_settings.specs.declared.proposal.Proposal.{Proposal}
use Rattle.fw_settings.specs.declared.settings.Settings.{Settings}
use Rattle.nf_kernel.specs.Installed.{Kernel}
use Rattle.nf_rules.specs.declared.ruleset.Ruleset.{Ruleset}

pub planned_over : (old middle : Recorded) (event : Event) (from : ℕ) (proposal : Proposal) (told : List Signal) (earlier : ℕ)
    → IsSame old middle → IsPlanned old event from proposal told earlier → IsPlanned middle event from proposal told earlier
planned_over old middle event from proposal told earlier same is = record {
  proposes = subst (λ (now : Settings). Proposes now (step now event) proposal) (sym same.settings) is.proposes;
  told_is = is.told_is ∙ ap (λ (all : List (List Signal)). joined (drop from all) ++ proposal.signals) (sym same.told);
  earlier_is = is.earlier_is ∙ ap (λ (all : List (List Signal)). length (joined (drop from all))) (sym same.told);
  fits =
      subst (λ (now : Settings). weight event (step now event).signals ≤ left middle) (sym same.settings)
      (subst (λ (limit : ℕ). weight event (step old.settings event).signals ≤ limit - weights middle.journal.entries middle.journal.told) (sym same.limit)
      (subst (λ (entries : List Entry). weight event (step old.settings event).signals ≤ old.limit - weights entries middle.journal.told) (sym same.entries)
      (subst (λ (all : List (List Signal)). weight event (step old.settings event).signals ≤ old.limit - weights old.journal.entries all) (sym same.told) is.fits)));
}

weighs_something : (event : Event) (signals : List Signal) → 64 ≤ weight event signals
weighs_something event signals =
    let some : (size more : ℕ) → 64 ≤ min ((64 + size) + more) (2 ^ 64 - 1) = λ size more. omega arith in
    some (event_size event) (sum_by signal_size signals)

few_for : (entries : List Entry) (told : List (List Signal)) → length told ≡ length entries → 64 * length entries ≤ weights entries told
unfolding weights
few_for [] told same = omega arith
few_for (entry ∷ entries) [] same = absurd (omega (arith, same))
few_for (entry ∷ entries) (signals ∷ told) same =
    let more : (one two count : ℕ) → 64 ≤ one → 64 * count ≤ two → 64 * suc count ≤ one + two = λ one two count some others. omega (arith, some, others) in
    more (weight entry.event signals) (weights entries told) (length entries) (weighs_something entry.event signals) (few_for entries told (omega (arith, same)))

signals_long : (first : Settings) (entries : List Entry) → length (signals_of first entries) ≡ length entries
unfolding signals_of
signals_long first [] = refl
signals_long first (entry ∷ others) = ap suc (signals_long (played first entry).settings others)

-- the journal has few entries
pub few : (history : Recorded) → IsHistory history → length history.journal.entries ≤ 2 ^ 34
few history is =
    let same : length history.journal.told ≡ length history.journal.entries = ap length is.told ∙ signals_long (started history.first) history.journal.entries in
    let all : 64 * length history.journal.entries ≤ weights history.journal.entries history.journal.told = few_for history.journal.entries history.journal.told same in
    omega (arith, all, is.weight, is.limit)

-- so one call more may be asked for
pub not_many : (before count : ℕ) → before ≤ most_before + 1 + count → count ≤ 2 ^ 34 → before < 2 ^ 62
not_many before count at_most short = omega (arith, at_most, short)

asked_again : (needed : Bool) (makes : Runtime → Ruleset → Type 0) (runtime : Runtime) (before now : Kernel) → IsReadyFor needed makes runtime before now → now.asked ≡ before.asked
asked_again true makes runtime before now ready = ap (λ (those : Kernel). those.asked) ready.is
asked_again false makes runtime before now ready = ap (λ (those : Kernel). those.asked) ready

pub few_asked : (needed : Bool) (makes : Runtime → Ruleset → Type 0) (runtime : Runtime) (before now : Kernel) (count : ℕ) → IsReadyFor needed makes runtime before now
    → before.asked ≤ most_before + 1 + count → count ≤ 2 ^ 34 → now.asked < 2 ^ 62
few_asked needed makes runtime before now count ready at_most short =
    let same : now.asked ≡ before.asked = asked_again needed makes runtime before now ready in
    let less : before.asked < 2 ^ 62 = not_many before.asked count at_most short in
    omega (arith, same, less)
