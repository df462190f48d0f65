-- How a daemon begins (this project's own), and why it may not.
use Rattle.std.specs.Prelude.{◌≡◌, ◌≢◌, ◌↔◌, ℕ, ◌+◌, List, [], Option, None, Some, Result, Err, IfSome, IsOk, OnOk, OnErr}
use Rattle.std.specs.List.{Contains}
use Rattle.fw_base.specs.Causes.{Rose}
use Rattle.fw_daemon.specs.Outside.{Holds}
use Rattle.fw_daemon.specs.declared.opening.OpenError.{OpenError}
use Rattle.fw_daemon.specs.declared.opening.OpenError.TheVariants as refused
use Rattle.fw_history.specs.History.{Recorded}
use Rattle.fw_keeper.specs.Kept.{Kept}
use Rattle.fw_model.specs.declared.runtime.Runtime.{Runtime}
use Rattle.fw_restore.specs.Reads.{IsFirstFault}
use Rattle.fw_restore.specs.declared.error.ConfigError.TheVariants as fault
use Rattle.fw_settings.specs.Starting.{started}
use Rattle.nf_goal.specs.Compiles.{Compiles}
use Rattle.nf_kernel.specs.Installed.{Kernel}
use Rattle.nf_rules.specs.declared.ruleset.Ruleset.{Ruleset}

-- Why a text isn't accepted: for its first fault. Want of memory says nothing.
abbrev pub IsBadText : List ℕ → OpenError → Type 0
IsBadText text refused.StoreFault = ⊥
IsBadText text (refused.BadConfig error) = IsFirstFault text error × (error ≢ fault.Memory)
IsBadText text refused.NotInstalled = ⊥
IsBadText text refused.Memory = Unit {0}

-- Why what a keeper holds isn't. The built-in settings, where it holds none, are accepted.
abbrev pub IsBad : Option (List ℕ) → OpenError → Type 0
IsBad None refused.StoreFault = ⊥
IsBad None (refused.BadConfig error) = ⊥
IsBad None refused.NotInstalled = ⊥
IsBad None refused.Memory = Unit {0}
IsBad (Some text) error = IsBadText text error

-- why nothing was loaded
abbrev pub IsNotLoaded : OpenError → Type 0
IsNotLoaded refused.StoreFault = Unit {0}
IsNotLoaded (refused.BadConfig error) = ⊥
IsNotLoaded refused.NotInstalled = ⊥
IsNotLoaded refused.Memory = Unit {0}

-- The text was loaded, or the load failed, which is the keeper's own fault.
pub record IsLoaded {X : Type 0} (before now : Kept) (result : Result X OpenError) : Type 0 where
  pub calls : now.calls ≡ before.calls + 1
  pub failing : now.failing ≡ before.failing
  pub held : now.held ≡ before.held
  -- the count of faults rose where it failed, and else stays
  pub blamed : result ≡ Err refused.StoreFault → Rose before.faults now.faults
  pub blameless : IsOk result → now.faults ≡ before.faults
  pub told : IfSome before.failing (λ numbers. (result ≡ Err refused.StoreFault) ↔ Contains numbers now.calls)

-- What was staged is installed, or what was is still, which is the kernel's own fault; nothing is staged any more.
pub record IsInstalled {X : Type 0} (ruleset_ready : Ruleset) (before now : Kernel) (result : Result X OpenError) : Type 0 where
  pub asked : now.asked ≡ before.asked + 1
  pub staged : now.staged ≡ None
  pub done : OnOk result (now.installed ≡ ruleset_ready)
  pub refused_is : OnErr result (now.installed ≡ before.installed)
  pub blamed : OnErr result (Rose before.faults now.faults)

-- The history begins with what the keeper holds, and the ruleset of its settings is installed.
pub record IsBegun (makes : Runtime → Ruleset → Type 0) (kernel later : Kernel) (kept later_kept : Kept) (limit : ℕ) (history : Recorded) : Type 0 where
  pub holds : IfSome kept.held (λ held. Holds held history.first)
  pub settings : history.settings ≡ started history.first
  pub entries : history.journal.entries ≡ []
  pub limit_is : history.limit ≡ limit
  pub made : makes history.settings.runtime later.installed
  pub compiles : Compiles later.installed history.settings.runtime
  pub staged : later.staged ≡ None
  pub asked : later.asked ≡ kernel.asked + 1
  pub calls : later_kept.calls ≡ kept.calls + 1
  pub held : later_kept.held ≡ kept.held

-- who is to blame that none begins
abbrev pub Blames : (kernel later : Kernel) (kept later_kept : Kept) → OpenError → Type 0
Blames kernel later kept later_kept refused.StoreFault = Rose kept.faults later_kept.faults
Blames kernel later kept later_kept (refused.BadConfig error) = IfSome kept.held (λ held. IsBad held (refused.BadConfig error))
Blames kernel later kept later_kept refused.NotInstalled = Rose kernel.faults later.faults
Blames kernel later kept later_kept refused.Memory = Unit {0}

-- None begins: what was installed and what is held stay, and nothing is staged.
pub record IsNotBegun (kernel later : Kernel) (kept later_kept : Kept) (why : OpenError) : Type 0 where
  pub installed : later.installed ≡ kernel.installed
  pub staged : later.staged ≡ None
  pub held : later_kept.held ≡ kept.held
  pub blames : Blames kernel later kept later_kept why
