-- The chains of the settings of a zone or a policy, outside the filter.
use Rattle.std.specs.Prelude.{List, ℕ}
use Rattle.fw_model.specs.declared.config.Config.{Config}
use Rattle.fw_model.specs.declared.rules.Rules.{Rules}
use Rattle.fw_verdict.specs.Changes.{ChangeItem}
use Rattle.fw_verdict.specs.Sides.{side_items}
use Rattle.fw_verdict.specs.declared.sides.Side.{Side}
use Rattle.lower_outside.specs.Does.{Changes, KeepPackets}
use Rattle.lower_outside.specs.Names.{NamesDiffer, block_name}
use Rattle.lower_outside.specs.Stands.{StandAlone}
use Rattle.nf_rules.specs.declared.chain.Chain.{Chain}

-- They do what a list of changes does, and name nothing else but the sets of ipsets.
pub record DoSteps (config : Config) (of : Side) (block : List ℕ) (items : List ChangeItem) (chains : List Chain) : Type 0 where
  pub changes : Changes config chains (block_name of block) items
  pub keep : KeepPackets items
  pub stands : StandAlone config chains (block_name of block)

-- They do what the settings do on that side, and have names of their own.
pub record AreBlock (config : Config) (of : Side) (block : List ℕ) (rules : Rules) (chains : List Chain) : Type 0 where
  pub does : DoSteps config of block (side_items config of rules) chains
  pub names : NamesDiffer of block chains
