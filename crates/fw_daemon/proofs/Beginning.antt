-- How a daemon begins.
use Rattle.std.proofs.Common.{arith, ◌≡◌, ◌≤◌, ◌+◌, ℕ, List, [], length, Option, None, Some, Result, Ok, Err, IfSome, OnOk, OnErr, ap, sym, ◌∙◌, subst}
use Rattle.fw_base.specs.Causes.{Rose}
use Rattle.fw_calls.specs.declared.applied.Applied.{Applied}
use Rattle.fw_calls.specs.declared.event.Entry.{Entry}
use Rattle.fw_daemon.specs.Daemons.{Counted, Served, Sound, failures, most_before}
use Rattle.fw_daemon.specs.Opening.{IsBegun, IsInstalled, IsLoaded, IsNotBegun}
use Rattle.fw_daemon.specs.Outside.{Holds, IsReady}
use Rattle.fw_daemon.specs.declared.opening.OpenError.{OpenError}
use Rattle.fw_daemon.specs.declared.opening.OpenError.TheVariants as refused
use Rattle.fw_history.specs.History.{IsHistory, Recorded}
use Rattle.fw_keeper.specs.Kept.{Kept}
use Rattle.fw_model.specs.declared.config.Config.{Config}
use Rattle.fw_model.specs.declared.runtime.Runtime.{Runtime}
use Rattle.fw_settings.specs.Starting.{started}
use Rattle.fw_settings.specs.declared.settings.Settings.{Settings}
use Rattle.nf_goal.specs.Compiles.{Compiles}
use Rattle.nf_kernel.specs.Installed.{Kernel, with_staged}
use Rattle.nf_kernel.specs.declared.kernel.Ready.{Ready}
use Rattle.nf_rules.specs.declared.ruleset.Ruleset.{Ruleset}

-- the kernel failed
pub not_installed : {X : Type 0} (makes : Runtime → Ruleset → Type 0) (runtime : Runtime) (before staged now : Kernel) (kept later : Kept) (result : Result X OpenError) (why : OpenError)
    → IsReady makes runtime before staged
    → ((ready : Ready) (was : Kernel) → staged ≡ with_staged (Some ready) was → IsInstalled ready.after was now result)
    → result ≡ Err why
    → why ≡ refused.NotInstalled
    → later.held ≡ kept.held
    → IsNotBegun before now kept later why
not_installed {X} makes runtime before staged now kept later result why ready installed is why_is held =
    let done : IsInstalled ready.ready.after before now result = installed ready.ready before ready.is in
    subst (λ (which : OpenError). IsNotBegun before now kept later which) (sym why_is)
    (record {
      installed = subst (λ (those : Result X OpenError). OnErr those (now.installed ≡ before.installed)) is done.refused_is;
      staged = done.staged;
      held = held;
      blames = subst (λ (those : Result X OpenError). OnErr those (Rose before.faults now.faults)) is done.blamed;
    })

first_holds : (held text : Option (List ℕ)) (config : Config) → text ≡ held → Holds text config → Holds held config
first_holds held text config same holds = subst (λ (those : Option (List ℕ)). Holds those config) same holds

holds_where : (told : Option (Option (List ℕ))) (text : Option (List ℕ)) (config : Config) → IfSome told (λ held. text ≡ held) → Holds text config → IfSome told (λ held. Holds held config)
holds_where None text config given holds = tt
holds_where (Some held) text config given holds = first_holds held text config given holds

-- it begins
pub begun : {X Y : Type 0} (makes : Runtime → Ruleset → Type 0) (before staged now : Kernel) (kept later : Kept) (limit : ℕ) (history : Recorded) (text : Option (List ℕ)) (first : Config) (loaded : Result Y OpenError) (result : Result X OpenError) (nothing : X)
    → IsLoaded kept later loaded
    → IfSome kept.held (λ held. text ≡ held)
    → Holds text first
    → history.first ≡ first
    → history.settings ≡ started first
    → history.journal.entries ≡ []
    → history.limit ≡ limit
    → IsReady makes history.settings.runtime before staged
    → ((ready : Ready) (was : Kernel) → staged ≡ with_staged (Some ready) was → IsInstalled ready.after was now result)
    → result ≡ Ok nothing
    → IsBegun makes before now kept later limit history
begun {X} makes before staged now kept later limit history text first loaded result nothing load given holds first_is settings entries limit_is ready installed is =
    let done : IsInstalled ready.ready.after before now result = installed ready.ready before ready.is in
    let there : now.installed ≡ ready.ready.after = subst (λ (those : Result X OpenError). OnOk those (now.installed ≡ ready.ready.after)) is done.done in
    record {
      holds = subst (λ (config : Config). IfSome kept.held (λ held. Holds held config)) (sym first_is) (holds_where kept.held text first given holds);
      settings = settings ∙ ap started (sym first_is);
      entries = entries;
      limit_is = limit_is;
      made = subst (λ (rules : Ruleset). makes history.settings.runtime rules) (sym there) ready.made;
      compiles = subst (λ (rules : Ruleset). Compiles rules history.settings.runtime) (sym there) ready.compiles;
      staged = done.staged;
      asked = done.asked;
      calls = load.calls;
      held = load.held;
    }

no_failures : (result_of : Entry → Applied) (entries : List Entry) (first : ℕ) → entries ≡ [] → Counted first (failures result_of entries) first
unfolding failures
no_failures result_of entries first none =
    subst (λ (those : List Entry). Counted first (failures result_of those) first) (sym none) (at_first first) where
      at_first : (count : ℕ) → Counted count 0 count
      at_first count = omega arith

none_asked : (before now count : ℕ) → before ≤ most_before → now ≡ before + 1 → now ≤ most_before + 1 + count
none_asked before now count at_most is = omega (arith, at_most, is)

held_first : (was now : Option (Option (List ℕ))) (first kept_now : Config) → now ≡ was → kept_now ≡ first
    → IfSome was (λ held. Holds held first) → IfSome now (λ held. Holds held kept_now)
held_first was now first kept_now same is holds =
    subst (λ (those : Option (Option (List ℕ))). IfSome those (λ held. Holds held kept_now)) (sym same)
    (subst (λ (config : Config). IfSome was (λ held. Holds held config)) (sym is) holds)

-- what holds of a daemon that begins
pub sound_first : {B K C : Type 0} (kernel : B → Kernel) (kept : K → Kept) (makes : C → Runtime → Ruleset → Type 0) (daemon : Served B K C) (before : Kernel) (kept_before : Kept) (limit : ℕ)
    → IsBegun (makes daemon.compiler) before (kernel daemon.backend) kept_before (kept daemon.keeper) limit daemon.history
    → IsHistory daemon.history
    → before.asked ≤ most_before
    → kept_before.calls ≤ most_before
    → daemon.backend_faults ≡ (kernel daemon.backend).faults
    → daemon.keeper_faults ≡ (kept daemon.keeper).faults
    → Sound kernel kept makes daemon
sound_first kernel kept makes daemon before kept_before limit begun history asked calls backend_faults keeper_faults = record {
  history = history;
  made = begun.made;
  compiles = begun.compiles;
  staged = begun.staged;
  text = held_first kept_before.held (kept daemon.keeper).held daemon.history.first daemon.history.settings.permanent begun.held (ap (λ (settings : Settings). settings.permanent) begun.settings) begun.holds;
  commits_failed =
      subst (λ (count : ℕ). Counted count (failures (λ one. one.commit) daemon.history.journal.entries) (kernel daemon.backend).faults) (sym backend_faults)
      (no_failures (λ one. one.commit) daemon.history.journal.entries (kernel daemon.backend).faults begun.entries);
  saves_failed =
      subst (λ (count : ℕ). Counted count (failures (λ one. one.save) daemon.history.journal.entries) (kept daemon.keeper).faults) (sym keeper_faults)
      (no_failures (λ one. one.save) daemon.history.journal.entries (kept daemon.keeper).faults begun.entries);
  asked = none_asked before.asked (kernel daemon.backend).asked (length daemon.history.journal.entries) asked begun.asked;
  calls = none_asked kept_before.calls (kept daemon.keeper).calls (length daemon.history.journal.entries) calls begun.calls;
}
