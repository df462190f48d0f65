-- What an event asks of the keeper of the permanent settings and of the kernel, and what they make of it (this project's own).
use Rattle.std.specs.Prelude.{◌≡◌, ◌≢◌, ◌↔◌, ◌⊎◌, ℕ, ◌+◌, List, Bool, true, false, Option, None, Some, IfSome}
use Rattle.std.specs.List.{Contains}
use Rattle.std.specs.Option.{option_map}
use Rattle.fw_base.specs.Causes.{Rose}
use Rattle.fw_calls.specs.declared.applied.Applied.{Applied}
use Rattle.fw_calls.specs.declared.applied.Applied.TheVariants as applied
use Rattle.fw_keeper.specs.Kept.{Kept}
use Rattle.fw_model.specs.declared.config.Config.{Config}
use Rattle.fw_model.specs.declared.runtime.Runtime.{Runtime}
use Rattle.fw_restore.specs.Reads.{Reads}
use Rattle.fw_service.specs.Configs.{built_in_config}
use Rattle.fw_store.specs.Objects.{config_data}
use Rattle.nf_goal.specs.Compiles.{Compiles}
use Rattle.nf_kernel.specs.Installed.{Kernel, with_staged}
use Rattle.nf_kernel.specs.declared.kernel.Ready.{Ready}
use Rattle.nf_rules.specs.declared.ruleset.Ruleset.{Ruleset}
use Rattle.serde_json.specs.Read.{read}
use Rattle.serde_json.specs.Written.{compact_text}

-- A text that was written of permanent settings: the compact text of their JSON value, which is read as that value.
pub record IsWritten (text : List ℕ) (config : Config) : Type 0 where
  pub text_is : text ≡ compact_text (config_data config)
  pub read_back : read text ≡ Some (config_data config)

-- A text says the permanent settings: it reads as them, or it was written of them.
abbrev pub Says : List ℕ → Config → Type 0
Says text config = Reads text config ⊎ IsWritten text config

-- What a keeper holds is the permanent settings; where it holds none they are the built-in ones.
abbrev pub Holds : Option (List ℕ) → Config → Type 0
Holds None config = config ≡ built_in_config
Holds (Some text) config = Says text config

-- A text is there exactly where a save is needed, and was written of the permanent settings.
abbrev pub IsTextFor : (needed : Bool) → Config → Option (List ℕ) → Type 0
IsTextFor true config None = ⊥
IsTextFor true config (Some text) = IsWritten text config
IsTextFor false config None = Unit {0}
IsTextFor false config (Some text) = ⊥

-- whether a save or a commit was tried
abbrev pub tries : Applied → ℕ
tries applied.Skipped = 0
tries applied.Done = 1
tries applied.Failed = 1

-- What a save changes of what is seen of a keeper, but for what it holds.
pub record IsKeptAs (before now : Kept) (save : Applied) : Type 0 where
  -- it is counted where it was tried
  pub calls : now.calls ≡ before.calls + tries save
  pub failing : now.failing ≡ before.failing
  -- it failed only where the count of faults rose, and else that stays
  pub blamed : save ≡ applied.Failed → Rose before.faults now.faults
  pub blameless : save ≢ applied.Failed → now.faults ≡ before.faults
  -- where the calls that fail are told, it fails exactly at these
  pub told : save ≢ applied.Skipped → IfSome before.failing (λ numbers. (save ≡ applied.Failed) ↔ Contains numbers now.calls)
  -- one that failed or was skipped leaves what was held
  pub left : save ≢ applied.Done → now.held ≡ before.held

-- Where a text is asked to be saved, or none.
pub record IsSaved (text : Option (List ℕ)) (before now : Kept) (save : Applied) : Type 0 where
  pub kept : IsKeptAs before now save
  -- it is skipped exactly where there is none
  pub skipped : (save ≡ applied.Skipped) ↔ (text ≡ None)
  -- a text that was saved is held
  pub held : (written : List ℕ) → text ≡ Some written → save ≡ applied.Done → now.held ≡ option_map (λ was. Some written) before.held

-- What is staged for a commit that is needed: a ruleset that the compiler makes of the settings and that compiles them.
pub record IsReady (makes : Runtime → Ruleset → Type 0) (runtime : Runtime) (before now : Kernel) : Type 0 where
  pub ready : Ready
  pub made : makes runtime ready.after
  pub compiles : Compiles ready.after runtime
  pub is : now ≡ with_staged (Some ready) before

-- Where none is needed nothing is staged.
abbrev pub IsReadyFor : (needed : Bool) → (makes : Runtime → Ruleset → Type 0) → Runtime → (before now : Kernel) → Type 0
IsReadyFor true makes runtime before now = IsReady makes runtime before now
IsReadyFor false makes runtime before now = now ≡ before

-- What a commit changes of what is seen of a kernel in which nothing was staged.
pub record IsInstalledAs (before now : Kernel) (commit : Applied) : Type 0 where
  -- it is counted where it was tried
  pub asked : now.asked ≡ before.asked + tries commit
  pub failing : now.failing ≡ before.failing
  pub staged : now.staged ≡ None
  -- it failed only where the count of faults rose, and else that stays
  pub blamed : commit ≡ applied.Failed → Rose before.faults now.faults
  pub blameless : commit ≢ applied.Failed → now.faults ≡ before.faults
  -- where the commits that fail are told, it fails exactly at these
  pub told : commit ≢ applied.Skipped → IfSome before.failing (λ numbers. (commit ≡ applied.Failed) ↔ Contains numbers now.asked)
  -- one that failed or was skipped leaves what was installed
  pub left : commit ≢ applied.Done → now.installed ≡ before.installed

-- Where a ruleset was ready for it: it is installed once it is done.
pub record IsCommittedTo (ruleset_ready : Ruleset) (before now : Kernel) (commit : Applied) : Type 0 where
  pub installed : IsInstalledAs before now commit
  pub done : commit ≡ applied.Done → now.installed ≡ ruleset_ready
