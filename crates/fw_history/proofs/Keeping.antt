-- Histories that begin, and that stay as they are.
use Rattle.std.proofs.Common.{◌≡◌, ◌≤◌, [], arith, refl, ap, sym, ◌∙◌, subst}
use Rattle.fw_history.specs.History.{IsHistory, IsSame, Recorded, highest_limit}
use Rattle.fw_journal.specs.Journal.{weights}
use Rattle.fw_model.specs.declared.config.Config.{Config}
use Rattle.fw_replay.specs.Legal.{Legal, LegalBehind}
use Rattle.fw_replay.specs.Replay.{replay, signals_of}
use Rattle.fw_settings.specs.Starting.{started}
use Rattle.fw_settings.specs.Valid.{AreValid}

legal_first : (first : Config) → Legal (started first) []
unfolding LegalBehind
legal_first first = tt

replayed_first : (first : Config) → started first ≡ replay (started first) []
unfolding replay
replayed_first first = refl

told_first : (first : Config) → [] ≡ signals_of (started first) []
unfolding signals_of
told_first first = refl

weighs_nothing : weights [] [] ≤ 0
unfolding weights
weighs_nothing = omega arith

-- one that begins
pub begins : (history : Recorded)
    → history.settings ≡ started history.first
    → history.journal.entries ≡ []
    → history.journal.told ≡ []
    → AreValid (started history.first)
    → history.limit ≤ highest_limit
    → IsHistory history
begins history settings entries told valid limit = record {
  settings = settings ∙ replayed_first history.first ∙ ap (replay (started history.first)) (sym entries);
  told = told ∙ told_first history.first ∙ ap (signals_of (started history.first)) (sym entries);
  legal = subst (Legal (started history.first)) (sym entries) (legal_first history.first);
  valid = subst AreValid (sym settings) valid;
  limit = limit;
  weight =
      let light : weights history.journal.entries history.journal.told ≤ 0 =
      subst (λ those. weights those history.journal.told ≤ 0) (sym entries) (subst (λ those. weights [] those ≤ 0) (sym told) weighs_nothing) in
      omega (arith, light);
}

-- one that is as before
pub stays : (old new : Recorded) → IsSame old new → IsHistory old → IsHistory new
stays old new same was = record {
  settings = same.settings ∙ was.settings ∙ ap (λ first. replay (started first) old.journal.entries) (sym same.first) ∙ ap (replay (started new.first)) (sym same.entries);
  told = same.told ∙ was.told ∙ ap (λ first. signals_of (started first) old.journal.entries) (sym same.first) ∙ ap (signals_of (started new.first)) (sym same.entries);
  legal = subst (Legal (started new.first)) (sym same.entries) (subst (λ first. Legal (started first) old.journal.entries) (sym same.first) was.legal);
  valid = subst AreValid (sym same.settings) was.valid;
  limit = subst (λ limit. limit ≤ highest_limit) (sym same.limit) was.limit;
  weight =
      subst (λ limit. weights new.journal.entries new.journal.told ≤ limit) (sym same.limit)
      (subst (λ those. weights those new.journal.told ≤ old.limit) (sym same.entries)
      (subst (λ those. weights old.journal.entries those ≤ old.limit) (sym same.told) was.weight));
}
