-- The rulesets that the compiler makes.
use Rattle.std.specs.Prelude.{◌≡◌, [], Bool, true, false}
use Rattle.fw_model.specs.declared.config.Config.{Config}
use Rattle.lower_all.specs.Joined.{AreJoined, AreSetsOf}
use Rattle.lower_panic.specs.Panic.{panic_rules}
use Rattle.nf_rules.specs.declared.ruleset.Ruleset.{Ruleset}

-- the chains of the hooks and of settings, a set for each ipset, and no map
pub record IsCompiled (config : Config) (rules : Ruleset) : Type 0 where
  pub chains : AreJoined config rules.chains
  pub sets : AreSetsOf config rules.sets
  pub no_map : rules.maps ≡ []

-- in panic mode, and else
abbrev pub IsMade : (panic : Bool) → Config → Ruleset → Type 0
IsMade true config rules = rules ≡ panic_rules
IsMade false config rules = IsCompiled config rules
