-- A daemon that has carried an event out is one again.
use Rattle.std.proofs.Common.{arith, ◌≡◌, ◌↔◌, ◌⊎◌, inl, inr, ◌≤◌, ◌+◌, ℕ, List, [], ◌∷◌, ◌++◌, length, length-append, Bool, true, false, Option, None, Some, IfSome, refl, ap, sym, ◌∙◌, subst, option_map}
use Rattle.fw_act.specs.Acts.{Answered}
use Rattle.fw_calls.specs.declared.applied.Applied.{Applied}
use Rattle.fw_calls.specs.declared.applied.Applied.TheVariants as applied
use Rattle.fw_calls.specs.declared.event.Entry.{Entry}
use Rattle.fw_calls.specs.declared.event.Event.{Event}
use Rattle.fw_calls.specs.declared.reply.Reply.{Reply}
use Rattle.fw_calls.specs.declared.signal.Signal.{Signal}
use Rattle.fw_daemon.proofs.Left.{counted_on, failures_behind, permanent_is, permanent_stays, runtime_is, runtime_same, runtime_stays, tried_at_most}
use Rattle.fw_daemon.specs.Acting.{IsCarriedOut}
use Rattle.fw_daemon.specs.Daemons.{Counted, IsHandled, Served, Sound, failed, failures, most_before}
use Rattle.fw_daemon.specs.Outside.{Holds, IsCommittedTo, IsInstalledAs, IsReadyFor, IsSaved, IsTextFor, Says}
use Rattle.fw_history.specs.History.{IsEntered, IsHistory, IsSame, Recorded, entry_of}
use Rattle.fw_keeper.specs.Kept.{Kept}
use Rattle.fw_machine.specs.Machine.{step}
use Rattle.fw_model.specs.declared.config.Config.{Config}
use Rattle.fw_model.specs.declared.runtime.Runtime.{Runtime}
use Rattle.fw_replay.specs.Replay.{settled_as}
use Rattle.fw_settings.specs.declared.settings.Settings.{Settings}
use Rattle.nf_goal.specs.Compiles.{Compiles}
use Rattle.nf_kernel.specs.Installed.{Kernel, with_staged}
use Rattle.nf_kernel.specs.declared.kernel.Ready.{Ready}
use Rattle.nf_rules.specs.declared.ruleset.Ruleset.{Ruleset}

-- an event that is entered over a history with more room is entered over the history
entered_over : (old middle new : Recorded) (event : Event) (from : ℕ) (save commit : Applied) (place : ℕ) (signals : List Signal) (reply : Reply)
    → IsSame old middle → IsEntered middle new event from save commit place signals reply → IsEntered old new event from save commit place signals reply
entered_over old middle new event from save commit place signals reply same is = record {
  place_is = is.place_is ∙ ap length same.entries;
  entries = is.entries ∙ ap (λ (entries : List Entry). entries ++ entry_of entries event save commit ∷ []) same.entries;
  settings = is.settings ∙ ap (λ (now : Settings). (settled_as now (step now event) save commit).settings) same.settings;
  told =
      is.told ∙ ap (λ (told : List (List Signal)). told ++ (settled_as middle.settings (step middle.settings event) save commit).signals ∷ []) same.told
      ∙ ap (λ (now : Settings). old.journal.told ++ (settled_as now (step now event) save commit).signals ∷ []) same.settings;
  signals_are = is.signals_are;
  reply_is = is.reply_is ∙ ap (λ (now : Settings). (settled_as now (step now event) save commit).reply) same.settings;
  first = is.first ∙ same.first;
  limit = is.limit ∙ same.limit;
  spare = omega (arith, is.spare, same.spare);
}

-- What is known once an event is carried out.
pub record AtCarried {B K C : Type 0} (kernel : B → Kernel) (kept : K → Kept) (makes : C → Runtime → Ruleset → Type 0) (old new : Served B K C) (middle : Recorded) (staged : Kernel)
    (event : Event) (text : Option (List ℕ)) (needs_save needs_commit : Bool) (from place : ℕ) (signals : List Signal) (reply : Reply) : Type 0 where
  pub sound : Sound kernel kept makes old
  pub same : IsSame old.history middle
  pub carried : IsCarriedOut middle new.history staged (kernel new.backend) (kept old.keeper) (kept new.keeper) event text needs_commit from place signals reply
  pub save_needed : (needs_save ≡ false) ↔ ((step old.history.settings event).after.permanent ≡ old.history.settings.permanent)
  pub commit_needed : (needs_commit ≡ false) ↔ ((step old.history.settings event).after.runtime ≡ old.history.settings.runtime)
  pub text_for : IsTextFor needs_save (step old.history.settings event).after.permanent text
  pub ready_for : IsReadyFor needs_commit (makes old.compiler) (step old.history.settings event).after.runtime (kernel old.backend) staged
  pub history : IsHistory new.history
  pub compiler_is : new.compiler ≡ old.compiler
  pub backend_faults_are : new.backend_faults ≡ old.backend_faults
  pub keeper_faults_are : new.keeper_faults ≡ old.keeper_faults

-- a commit that isn't needed
untouched : (before staged now : Kernel) (commit : Applied) → before.staged ≡ None → staged ≡ before → now ≡ staged → commit ≡ applied.Skipped → IsInstalledAs before now commit
untouched before staged now commit none same idle skipped =
    subst (λ (result : Applied). IsInstalledAs before now result) (sym skipped)
    (subst (λ (those : Kernel). IsInstalledAs before those applied.Skipped) (sym (idle ∙ same))
    (record {
      asked = omega arith;
      failing = refl;
      staged = none;
      blamed = λ is. absurd cc;
      blameless = λ is. refl;
      told = λ is. absurd (is refl);
      left = λ is. refl;
    }))

-- what a commit makes of the kernel, whether it is needed or not
installed_as : (needed : Bool) (makes : Runtime → Ruleset → Type 0) (runtime : Runtime) (before staged now : Kernel) (save commit : Applied)
    → before.staged ≡ None
    → IsReadyFor needed makes runtime before staged
    → ((commit ≡ applied.Skipped) ↔ ((needed ≡ false) ⊎ (save ≡ applied.Failed)))
    → (needed ≡ true → (ready : Ready) (was : Kernel) → was.staged ≡ None → staged ≡ with_staged (Some ready) was → IsCommittedTo ready.after was now commit)
    → (needed ≡ false → now ≡ staged)
    → IsInstalledAs before now commit
installed_as true makes runtime before staged now save commit none ready skipped committed idle = (committed refl ready.ready before none ready.is).installed
installed_as false makes runtime before staged now save commit none ready skipped committed idle = untouched before staged now commit none ready (idle refl) (skipped.1 (inl refl))

-- What holds of the settings in force and what is installed holds afterwards, where it holds of what was made ready.
in_force : (P : Runtime → Ruleset → Type 0) (needed : Bool) (makes : Runtime → Ruleset → Type 0) (settings : Settings) (done : Answered Settings) (before staged now : Kernel) (save commit : Applied)
    → before.staged ≡ None
    → IsReadyFor needed makes done.after.runtime before staged
    → ((commit ≡ applied.Skipped) ↔ ((needed ≡ false) ⊎ (save ≡ applied.Failed)))
    → (needed ≡ true → (ready : Ready) (was : Kernel) → was.staged ≡ None → staged ≡ with_staged (Some ready) was → IsCommittedTo ready.after was now commit)
    → (needed ≡ false → now ≡ staged)
    → ((needed ≡ false) ↔ (done.after.runtime ≡ settings.runtime))
    → P settings.runtime before.installed
    → ((rules : Ruleset) → makes done.after.runtime rules → Compiles rules done.after.runtime → P done.after.runtime rules)
    → P (settled_as settings done save commit).settings.runtime now.installed
in_force P false makes settings done before staged now save commit none ready skipped committed idle needs was made =
    subst (λ (runtime : Runtime). P runtime now.installed) (runtime_same settings done save commit (needs.0 refl))
    (subst (λ (those : Kernel). P settings.runtime those.installed) (sym (idle refl ∙ ready)) was)
in_force P true makes settings done before staged now save applied.Done none ready skipped committed idle needs was made =
    let to : IsCommittedTo ready.ready.after before now applied.Done = committed refl ready.ready before none ready.is in
    subst (λ (runtime : Runtime). P runtime now.installed) (runtime_is settings done save applied.Done refl (λ failed. not_both (skipped.1 (inr failed))))
    (subst (λ (rules : Ruleset). P done.after.runtime rules) (sym (to.done refl)) (made ready.ready.after ready.made ready.compiles)) where
      not_both : applied.Done ≡ applied.Skipped → ⊥
      not_both is = absurd cc
in_force P true makes settings done before staged now save applied.Failed none ready skipped committed idle needs was made =
    let to : IsCommittedTo ready.ready.after before now applied.Failed = committed refl ready.ready before none ready.is in
    subst (λ (runtime : Runtime). P runtime now.installed) (runtime_stays settings done save applied.Failed (inl refl))
    (subst (λ (rules : Ruleset). P settings.runtime rules) (sym (to.installed.left (λ is. absurd cc))) was)
in_force P true makes settings done before staged now save applied.Skipped none ready skipped committed idle needs was made =
    let to : IsCommittedTo ready.ready.after before now applied.Skipped = committed refl ready.ready before none ready.is in
    subst (λ (runtime : Runtime). P runtime now.installed) (runtime_stays settings done save applied.Skipped (only_failed (skipped.0 refl)))
    (subst (λ (rules : Ruleset). P settings.runtime rules) (sym (to.installed.left (λ is. absurd cc))) was) where
      only_failed : (true ≡ false) ⊎ (save ≡ applied.Failed) → (applied.Skipped ≡ applied.Failed) ⊎ (save ≡ applied.Failed)
      only_failed (inl no_way) = absurd cc
      only_failed (inr failed) = inr failed

-- a text that is held afterwards says what is kept
kept_on : (needed : Bool) (settings : Settings) (done : Answered Settings) (text : Option (List ℕ)) (before now : Kept) (save commit : Applied)
    → IsSaved text before now save
    → IsTextFor needed done.after.permanent text
    → ((needed ≡ false) ↔ (done.after.permanent ≡ settings.permanent))
    → IfSome before.held (λ held. Holds held settings.permanent)
    → IfSome now.held (λ held. Holds held (settled_as settings done save commit).settings.permanent)
kept_on needed settings done text before now applied.Failed commit saved text_for needs was =
    subst (λ (those : Option (Option (List ℕ))). IfSome those (λ held. Holds held (settled_as settings done applied.Failed commit).settings.permanent)) (sym (saved.kept.left (λ is. absurd cc)))
    (subst (λ (config : Config). IfSome before.held (λ held. Holds held config)) (permanent_stays settings done applied.Failed commit refl) was)
kept_on true settings done None before now save commit saved text_for needs was = elim text_for [ ]
kept_on true settings done (Some written) before now applied.Skipped commit saved text_for needs was = absurd (let is : Some written ≡ None = saved.skipped.0 refl in cc)
kept_on true settings done (Some written) before now applied.Done commit saved text_for needs was =
    subst (λ (those : Option (Option (List ℕ))). IfSome those (λ held. Holds held (settled_as settings done applied.Done commit).settings.permanent)) (sym (saved.held written refl refl))
    (told before.held) where
      told : (was_held : Option (Option (List ℕ))) → IfSome (option_map (λ was. Some written) was_held) (λ held. Holds held (settled_as settings done applied.Done commit).settings.permanent)
      told None = tt
      told (Some those) = subst (λ (config : Config). Says written config) (permanent_is settings done applied.Done commit (λ is. absurd cc)) (inr text_for)
kept_on false settings done None before now applied.Done commit saved text_for needs was = absurd (let is : applied.Done ≡ applied.Skipped = saved.skipped.1 refl in cc)
kept_on false settings done None before now applied.Skipped commit saved text_for needs was =
    subst (λ (those : Option (Option (List ℕ))). IfSome those (λ held. Holds held (settled_as settings done applied.Skipped commit).settings.permanent)) (sym (saved.kept.left (λ is. absurd cc)))
    (subst (λ (config : Config). IfSome before.held (λ held. Holds held config)) (sym (needs.0 refl) ∙ permanent_is settings done applied.Skipped commit (λ is. absurd cc)) was)
kept_on false settings done (Some written) before now save commit saved text_for needs was = elim text_for [ ]

pub sound_again : {B K C : Type 0} (kernel : B → Kernel) (kept : K → Kept) (makes : C → Runtime → Ruleset → Type 0) (old new : Served B K C) (middle : Recorded) (staged : Kernel)
    (event : Event) (text : Option (List ℕ)) (needs_save needs_commit : Bool) (from place : ℕ) (signals : List Signal) (reply : Reply)
    → AtCarried kernel kept makes old new middle staged event text needs_save needs_commit from place signals reply
    → Sound kernel kept makes new
sound_again {C = C} kernel kept makes old new middle staged event text needs_save needs_commit from place signals reply at =
    let done : Answered Settings = step old.history.settings event in
    let save : Applied = at.carried.save in
    let commit : Applied = at.carried.commit in
    let entered : IsEntered old.history new.history event from save commit place signals reply =
    entered_over old.history middle new.history event from save commit place signals reply at.same at.carried.entered in
    let installed : IsInstalledAs (kernel old.backend) (kernel new.backend) commit =
    installed_as needs_commit (makes old.compiler) done.after.runtime (kernel old.backend) staged (kernel new.backend) save commit at.sound.staged at.ready_for at.carried.skipped at.carried.committed at.carried.idle in
    let entry : Entry = entry_of old.history.journal.entries event save commit in
    let longer : length new.history.journal.entries ≡ length old.history.journal.entries + 1 = ap length entered.entries ∙ length-append old.history.journal.entries (entry ∷ []) in
    record {
      history = at.history;
      made =
          subst (λ (compiler : C). makes compiler new.history.settings.runtime (kernel new.backend).installed) (sym at.compiler_is)
          (subst (λ (settings : Settings). makes old.compiler settings.runtime (kernel new.backend).installed) (sym entered.settings)
          (in_force (makes old.compiler) needs_commit (makes old.compiler) old.history.settings done (kernel old.backend) staged (kernel new.backend) save commit
          at.sound.staged at.ready_for at.carried.skipped at.carried.committed at.carried.idle at.commit_needed at.sound.made (λ rules is_made compiles. is_made)));
      compiles =
          subst (λ (settings : Settings). Compiles (kernel new.backend).installed (settings.runtime)) (sym entered.settings)
          (in_force (λ runtime rules. Compiles rules runtime) needs_commit (makes old.compiler) old.history.settings done (kernel old.backend) staged (kernel new.backend) save commit
          at.sound.staged at.ready_for at.carried.skipped at.carried.committed at.carried.idle at.commit_needed at.sound.compiles (λ rules is_made compiles. compiles));
      staged = installed.staged;
      text =
          subst (λ (settings : Settings). IfSome (kept new.keeper).held (λ held. Holds held settings.permanent)) (sym entered.settings)
          (kept_on needs_save old.history.settings done text (kept old.keeper) (kept new.keeper) save commit at.carried.saved at.text_for at.save_needed at.sound.text);
      commits_failed =
          subst (λ (entries : List Entry). Counted new.backend_faults (failures (λ one. one.commit) entries) (kernel new.backend).faults) (sym entered.entries)
          (subst (λ (count : ℕ). Counted new.backend_faults count (kernel new.backend).faults) (sym (failures_behind (λ one. one.commit) old.history.journal.entries entry))
          (subst (λ (first : ℕ). Counted first (failures (λ one. one.commit) old.history.journal.entries + failed commit) (kernel new.backend).faults) (sym at.backend_faults_are)
          (counted_on old.backend_faults (failures (λ one. one.commit) old.history.journal.entries) (kernel old.backend).faults (kernel new.backend).faults commit at.sound.commits_failed installed.blamed installed.blameless)));
      saves_failed =
          subst (λ (entries : List Entry). Counted new.keeper_faults (failures (λ one. one.save) entries) (kept new.keeper).faults) (sym entered.entries)
          (subst (λ (count : ℕ). Counted new.keeper_faults count (kept new.keeper).faults) (sym (failures_behind (λ one. one.save) old.history.journal.entries entry))
          (subst (λ (first : ℕ). Counted first (failures (λ one. one.save) old.history.journal.entries + failed save) (kept new.keeper).faults) (sym at.keeper_faults_are)
          (counted_on old.keeper_faults (failures (λ one. one.save) old.history.journal.entries) (kept old.keeper).faults (kept new.keeper).faults save at.sound.saves_failed at.carried.saved.kept.blamed at.carried.saved.kept.blameless)));
      asked =
          subst (λ (count : ℕ). (kernel new.backend).asked ≤ most_before + 1 + count) (sym longer)
          (tried_at_most (kernel old.backend).asked (kernel new.backend).asked (most_before + 1) (length old.history.journal.entries) commit at.sound.asked installed.asked);
      calls =
          subst (λ (count : ℕ). (kept new.keeper).calls ≤ most_before + 1 + count) (sym longer)
          (tried_at_most (kept old.keeper).calls (kept new.keeper).calls (most_before + 1) (length old.history.journal.entries) save at.sound.calls at.carried.saved.kept.calls);
    }

pub handled_as : {B K C : Type 0} (kernel : B → Kernel) (kept : K → Kept) (makes : C → Runtime → Ruleset → Type 0) (old new : Served B K C) (middle : Recorded) (staged : Kernel)
    (event : Event) (text : Option (List ℕ)) (needs_save needs_commit : Bool) (from place : ℕ) (signals : List Signal) (reply : Reply)
    → AtCarried kernel kept makes old new middle staged event text needs_save needs_commit from place signals reply
    → IsHandled kernel kept old new event from place signals reply
handled_as kernel kept makes old new middle staged event text needs_save needs_commit from place signals reply at = record {
  save = at.carried.save;
  commit = at.carried.commit;
  entered = entered_over old.history middle new.history event from at.carried.save at.carried.commit place signals reply at.same at.carried.entered;
  saves = at.carried.saved.kept;
  commits =
      installed_as needs_commit (makes old.compiler) (step old.history.settings event).after.runtime (kernel old.backend) staged (kernel new.backend) at.carried.save at.carried.commit
      at.sound.staged at.ready_for at.carried.skipped at.carried.committed at.carried.idle;
  compiler_is = at.compiler_is;
  backend_faults_are = at.backend_faults_are;
  keeper_faults_are = at.keeper_faults_are;
}
