-- The law of panic mode.
use Rattle.std.specs.Prelude.{◌≡◌, true}
use Rattle.fw_model.specs.declared.runtime.Runtime.{Runtime}
use Rattle.lower_panic.specs.Panic.{panic_rules}
use Rattle.nf_goal.specs.Compiles.{Compiles}

-- In panic mode its ruleset does with every packet what the settings say.
abbrev pub PanicRulesCompile : Type 0
PanicRulesCompile = (runtime : Runtime) → runtime.panic ≡ true → Compiles panic_rules runtime
