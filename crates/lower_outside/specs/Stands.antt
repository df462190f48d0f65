-- What the chains of a block ask of a ruleset that they stand in, and how far they lead.
use Rattle.std.specs.Prelude.{◌≡◌, ◌≤◌, ℕ, List, None, IsTrue}
use Rattle.std.specs.List.{list_all}
use Rattle.fw_model.specs.declared.config.Config.{Config}
use Rattle.fw_zone.specs.Lists.{IsIn}
use Rattle.lower_match.specs.Stands.{EachHasSet}
use Rattle.lower_zone.specs.Evaluates.{EachIsThere}
use Rattle.nf_rules.specs.declared.chain.Chain.{Chain}
use Rattle.nf_rules.specs.declared.ruleset.Ruleset.{Ruleset}
use Rattle.nf_sound.specs.Sound.{Path, rule_stands}

pub record StandAlone (config : Config) (chains : List Chain) (name : List ℕ) : Type 0 where
  -- one of them has the name by which the block is led to
  pub entry : Chain
  pub entry_is_in : IsIn entry chains
  pub entry_named : entry.name ≡ name
  -- where they and the sets of all ipsets are there, all that their rules name is there
  pub stand : (rules : Ruleset) → EachIsThere chains rules → EachHasSet config.ipsets rules
      → IsTrue (list_all (λ chain. list_all (rule_stands rules) chain.rules) chains)
  -- no path from one of them has more than one link
  pub short : (rules : Ruleset) → EachIsThere chains rules
      → (chain : Chain) → IsIn chain chains → (links : ℕ) → Path rules chain.name links → links ≤ 1
  -- none is a base chain
  pub no_base : (chain : Chain) → IsIn chain chains → chain.base ≡ None
