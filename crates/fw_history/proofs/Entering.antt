-- A history with one entry more.
use Rattle.std.proofs.Common.{◌≡◌, ◌⊎◌, false, inl, inr, ◌≤◌, ◌+◌, ◌-◌, ◌^◌, min, ℕ, List, [], ◌∷◌, ◌++◌, length, drop, take, arith, refl, ap, sym, ◌∙◌, subst, append_assoc, append-nil}
use Rattle.std.proofs.lemmas.List.{drop-append-le, take-append-le, take_all}
use Rattle.std.specs.List.{sum_by}
use Rattle.fw_calls.specs.Weight.{event_size, signal_size, weight}
use Rattle.fw_calls.specs.declared.applied.Applied.{Applied}
use Rattle.fw_calls.specs.declared.applied.Applied.TheVariants as applied
use Rattle.fw_calls.specs.declared.event.Entry.{Entry}
use Rattle.fw_calls.specs.declared.event.Event.{Event}
use Rattle.fw_calls.specs.declared.reply.Reply.{Reply}
use Rattle.fw_calls.specs.declared.signal.Signal.{Signal}
use Rattle.fw_history.specs.History.{AreResults, IsEntered, IsHistory, IsPlanned, Recorded, entry_of, left, needed, told_where}
use Rattle.fw_journal.proofs.Behind.{weights_behind}
use Rattle.fw_journal.specs.Journal.{Written, joined, weights}
use Rattle.fw_machine.specs.Machine.{step}
use Rattle.fw_proposals.specs.Proposals.{Proposes}
use Rattle.fw_replay.proofs.Behind.{legal_behind, replay_behind, signals_behind}
use Rattle.fw_replay.proofs.Proposed.{settled_is}
use Rattle.fw_replay.specs.Legal.{IsLegal, Legal, MayCome, session_of}
use Rattle.fw_replay.specs.Replay.{played, replay, settled_as, signals_of}
use Rattle.fw_settings.specs.Settling.{Settled, next_settings, settled}
use Rattle.fw_settings.specs.Starting.{started}
use Rattle.fw_settings.specs.Valid.{AreValid}
use Rattle.fw_settings.specs.declared.proposal.Proposal.{Proposal}
use Rattle.fw_settings.specs.declared.settings.Settings.{Settings}

-- an entry is legal that has the results of what was proposed
legal_entry : (settings : Settings) (entries : List Entry) (event : Event) (proposal : Proposal) (save commit : Applied)
    → MayCome entries event
    → Proposes settings (step settings event) proposal
    → AreResults proposal.needs_save proposal.needs_commit save commit
    → IsLegal settings entries (entry_of entries event save commit)
legal_entry settings entries event proposal save commit comes proposes results = record {
  session = refl;
  comes = comes;
  save = (λ skipped. proposes.save.0 (results.saved.0 skipped), λ same. results.saved.1 (proposes.save.1 same));
  commit = (λ skipped. forth (results.committed.0 skipped), λ same. results.committed.1 (back same));
} where
  forth : (proposal.needs_commit ≡ false) ⊎ (save ≡ applied.Failed) → ((step settings event).after.runtime ≡ settings.runtime) ⊎ (save ≡ applied.Failed)
  forth (inl none) = inl (proposes.commit.0 none)
  forth (inr failed) = inr failed

  back : ((step settings event).after.runtime ≡ settings.runtime) ⊎ (save ≡ applied.Failed) → (proposal.needs_commit ≡ false) ⊎ (save ≡ applied.Failed)
  back (inl same) = inl (proposes.commit.1 same)
  back (inr failed) = inr failed

-- what is told of an event is what it is to tell, or nothing
told_whether : (settings : Settings) (event : Event) (save commit : Applied)
    → ((settled_as settings (step settings event) save commit).signals ≡ (step settings event).signals) ⊎ ((settled_as settings (step settings event) save commit).signals ≡ [])
unfolding settled_as
told_whether settings event applied.Failed commit = inr refl
told_whether settings event applied.Skipped applied.Failed = inr refl
told_whether settings event applied.Done applied.Failed = inr refl
told_whether settings event applied.Skipped applied.Skipped = inl refl
told_whether settings event applied.Done applied.Skipped = inl refl
told_whether settings event applied.Skipped applied.Done = inl refl
told_whether settings event applied.Done applied.Done = inl refl

light_alone : (event : Event) (signals : List Signal) → weight event [] ≤ weight event signals
light_alone event signals =
    let less : (size more most : ℕ) → min (size + 0) most ≤ min (size + more) most = λ size more most. omega arith in
    less (64 + event_size event) (sum_by signal_size signals) (2 ^ 64 - 1)

-- so it weighs no more than was asked for
light : (event : Event) (signals own : List Signal) → (own ≡ signals) ⊎ (own ≡ []) → weight event own ≤ weight event signals
light event signals own (inl same) = let is : weight event own ≡ weight event signals = ap (weight event) same in omega (arith, is)
light event signals own (inr none) = subst (λ (those : List Signal). weight event those ≤ weight event signals) (sym none) (light_alone event signals)

joined_behind : (told : List (List Signal)) (own : List Signal) → joined (told ++ own ∷ []) ≡ joined told ++ own
unfolding joined
joined_behind [] own = append-nil own
joined_behind (first ∷ told) own = ap (λ (rest : List Signal). first ++ rest) (joined_behind told own) ∙ sym (append_assoc first (joined told) own)

told_from_behind : (told : List (List Signal)) (own : List Signal) (from : ℕ) → from ≤ length told
    → joined (drop from (told ++ own ∷ [])) ≡ joined (drop from told) ++ own
told_from_behind told own from within = ap joined (drop-append-le from told (own ∷ []) within) ∙ joined_behind (drop from told) own

front : (behind own told : List Signal) (earlier : ℕ) → told ≡ behind ++ own → earlier ≡ length behind → take earlier told ≡ behind ++ []
front behind own told earlier is count =
    ap (take earlier) is ∙ ap (λ (so_many : ℕ). take so_many (behind ++ own)) count
    ∙ take-append-le (length behind) behind own (omega arith) ∙ take_all (length behind) behind (omega arith) ∙ sym (append-nil behind)

-- what the session is told, by what became of the save and the commit
told_is : (settings : Settings) (event : Event) (behind told : List Signal) (earlier : ℕ) (save commit : Applied)
    → told ≡ behind ++ (step settings event).signals
    → earlier ≡ length behind
    → told_where told earlier save commit ≡ behind ++ (settled_as settings (step settings event) save commit).signals
unfolding settled_as
told_is settings event behind told earlier applied.Failed commit is count = front behind _ told earlier is count
told_is settings event behind told earlier applied.Skipped applied.Failed is count = front behind _ told earlier is count
told_is settings event behind told earlier applied.Done applied.Failed is count = front behind _ told earlier is count
told_is settings event behind told earlier applied.Skipped applied.Skipped is count = is
told_is settings event behind told earlier applied.Done applied.Skipped is count = is
told_is settings event behind told earlier applied.Skipped applied.Done is count = is
told_is settings event behind told earlier applied.Done applied.Done is count = is

-- What is known where an event is entered.
pub record AtEntering (old : Recorded) (event : Event) (proposal : Proposal) (save commit : Applied) (settings : Settings) (own : List Signal) (reply : Reply) (journal : Written) : Type 0 where
  pub was : IsHistory old
  pub comes : MayCome old.journal.entries event
  pub proposes : Proposes old.settings (step old.settings event) proposal
  pub fits : needed old event ≤ left old
  pub results : AreResults proposal.needs_save proposal.needs_commit save commit
  pub settled_is : settled old.settings proposal save commit ≡ record { reply = reply; signals = own; settings = settings }
  pub valid : AreValid settings
  pub even : length old.journal.told ≡ length old.journal.entries
  pub entries : journal.entries ≡ old.journal.entries ++ entry_of old.journal.entries event save commit ∷ []
  pub told : journal.told ≡ old.journal.told ++ own ∷ []

left_of : {old : Recorded} {event : Event} {proposal : Proposal} {save commit : Applied} {settings : Settings} {own : List Signal} {reply : Reply} {journal : Written}
    → AtEntering old event proposal save commit settings own reply journal
    → record { reply = reply; signals = own; settings = settings } ≡ settled_as old.settings (step old.settings event) save commit
left_of {old} {event} {proposal} {save} {commit} at =
    sym at.settled_is ∙ settled_is old.settings (step old.settings event) proposal save commit at.proposes

-- what an event weighs fits behind the others
pub weighs_within : (old : Recorded) (event : Event) (own : List Signal)
    → IsHistory old → needed old event ≤ left old
    → (own ≡ (step old.settings event).signals) ⊎ (own ≡ [])
    → weights old.journal.entries old.journal.told + weight event own ≤ old.limit
weighs_within old event own was fits whether =
    let less : weight event own ≤ weight event (step old.settings event).signals = light event (step old.settings event).signals own whether in
    let sum : (before more most limit : ℕ) → more ≤ most → most ≤ limit - before → before ≤ limit → before + more ≤ limit = λ before more most limit one two three. omega (arith, one, two, three) in
    sum (weights old.journal.entries old.journal.told) (weight event own) (needed old event) old.limit less fits was.weight

pub entered_history : (old : Recorded) (event : Event) (proposal : Proposal) (save commit : Applied) (settings : Settings) (own : List Signal) (reply : Reply) (journal : Written)
    → AtEntering old event proposal save commit settings own reply journal
    → IsHistory (record { first = old.first; settings = settings; journal = journal; limit = old.limit })
entered_history old event proposal save commit settings own reply journal at =
    let entry : Entry = entry_of old.journal.entries event save commit in
    let is : record { reply = reply; signals = own; settings = settings } ≡ played old.settings entry = left_of at in
    let over : played old.settings entry ≡ played (replay (started old.first) old.journal.entries) entry = ap (λ (now : Settings). played now entry) at.was.settings in
    record {
      settings =
          ap (λ (left : Settled). left.settings) (is ∙ over) ∙ sym (replay_behind (started old.first) old.journal.entries entry)
          ∙ ap (replay (started old.first)) (sym at.entries);
      told =
          at.told ∙ ap (λ (told : List (List Signal)). told ++ own ∷ []) at.was.told
          ∙ ap (λ (left : Settled). signals_of (started old.first) old.journal.entries ++ left.signals ∷ []) (is ∙ over)
          ∙ sym (signals_behind (started old.first) old.journal.entries entry) ∙ ap (signals_of (started old.first)) (sym at.entries);
      legal =
          subst (Legal (started old.first)) (sym at.entries)
          (legal_behind (started old.first) old.journal.entries entry at.was.legal
          (subst (λ (now : Settings). IsLegal now old.journal.entries entry) at.was.settings
          (legal_entry old.settings old.journal.entries event proposal save commit at.comes at.proposes at.results)));
      valid = at.valid;
      limit = at.was.limit;
      weight =
          let whether : (own ≡ (step old.settings event).signals) ⊎ (own ≡ []) =
          subst (λ (left : Settled). (left.signals ≡ (step old.settings event).signals) ⊎ (left.signals ≡ [])) (sym is) (told_whether old.settings event save commit) in
          subst (λ (told : List (List Signal)). weights journal.entries told ≤ old.limit) (sym at.told)
          (subst (λ (entries : List Entry). weights entries (old.journal.told ++ own ∷ []) ≤ old.limit) (sym at.entries)
          (subst (λ (sum : ℕ). sum ≤ old.limit) (sym (weights_behind old.journal.entries old.journal.told entry own at.even))
          (weighs_within old event own at.was at.fits whether)));
    }

pub entered_as : (old new : Recorded) (event : Event) (from : ℕ) (proposal : Proposal) (told : List Signal) (earlier : ℕ) (save commit : Applied) (settings : Settings) (own : List Signal) (reply : Reply) (journal : Written) (place : ℕ)
    → AtEntering old event proposal save commit settings own reply journal
    → record { first = old.first; settings = settings; journal = journal; limit = old.limit } ≡ new
    → from ≤ length old.journal.entries
    → IsPlanned old event from proposal told earlier
    → place ≡ length old.journal.entries
    → old.journal.spare ≤ journal.spare + 1
    → IsEntered old new event from save commit place (told_where told earlier save commit) reply
entered_as old new event from proposal told earlier save commit settings own reply journal place at is_new within planned place_is spare =
    let entry : Entry = entry_of old.journal.entries event save commit in
    let is : record { reply = reply; signals = own; settings = settings } ≡ played old.settings entry = left_of at in
    let own_is : own ≡ (played old.settings entry).signals = ap (λ (left : Settled). left.signals) is in
    subst (λ (those : Recorded). IsEntered old those event from save commit place (told_where told earlier save commit) reply) is_new
    (record {
      place_is = place_is;
      entries = at.entries;
      settings = ap (λ (left : Settled). left.settings) is;
      told = at.told ∙ ap (λ (signals : List Signal). old.journal.told ++ signals ∷ []) own_is;
      signals_are =
          told_is old.settings event (joined (drop from old.journal.told)) told earlier save commit
          (planned.told_is ∙ ap (λ (signals : List Signal). joined (drop from old.journal.told) ++ signals) planned.proposes.signals) planned.earlier_is
          ∙ ap (λ (signals : List Signal). joined (drop from old.journal.told) ++ signals) (sym own_is)
          ∙ sym (told_from_behind old.journal.told own from (omega (arith, within, at.even)))
          ∙ ap (λ (all : List (List Signal)). joined (drop from all)) (sym at.told);
      reply_is = ap (λ (left : Settled). left.reply) is;
      first = refl;
      limit = refl;
      spare = spare;
    })

abbrev the_entry : ℕ → Event → Applied → Applied → Entry
the_entry session event save commit = record { session = session; event = event; save = save; commit = commit }

-- What is known there, from what the calls of it say.
pub at_entering : (old : Recorded) (event : Event) (from : ℕ) (proposal : Proposal) (told : List Signal) (earlier : ℕ) (save commit : Applied) (settings : Settings) (own : List Signal) (reply : Reply) (journal : Written) (session place : ℕ)
    → IsHistory old
    → MayCome old.journal.entries event
    → AreResults proposal.needs_save proposal.needs_commit save commit
    → IsPlanned old event from proposal told earlier
    → AreValid (step old.settings event).after
    → settled old.settings proposal save commit ≡ record { reply = reply; signals = own; settings = settings }
    → (AreValid old.settings → AreValid (next_settings old.settings proposal) → AreValid settings)
    → length old.journal.told ≡ length old.journal.entries
    → place ≡ length old.journal.entries
    → session ≡ session_of place event
    → journal.entries ≡ old.journal.entries ++ record { session = session; event = event; save = save; commit = commit } ∷ []
    → journal.told ≡ old.journal.told ++ own ∷ []
    → AtEntering old event proposal save commit settings own reply journal
at_entering old event from proposal told earlier save commit settings own reply journal session place was comes results planned next settled_is valid even place_is session_is entries told_is = record {
  was = was;
  comes = comes;
  proposes = planned.proposes;
  fits = planned.fits;
  results = results;
  settled_is = settled_is;
  valid = valid was.valid (subst AreValid (sym planned.proposes.next) next);
  even = even;
  entries =
      entries
      ∙ ap (λ (whose : ℕ). old.journal.entries ++ the_entry whose event save commit ∷ [])
      (session_is ∙ ap (λ (at : ℕ). session_of at event) place_is);
  told = told_is;
}
