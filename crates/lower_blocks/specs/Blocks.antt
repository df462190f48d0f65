-- The chains of the settings of zones and policies, one block behind another.
use Rattle.std.specs.Prelude.{ℕ, List, [], ◌∷◌, ◌++◌, false}
use Rattle.fw_model.specs.declared.config.Config.{Config}
use Rattle.fw_model.specs.declared.packet.Packet.{Packet}
use Rattle.fw_model.specs.declared.policy.Policy.{Policy}
use Rattle.fw_model.specs.declared.zone.Zone.{Zone}
use Rattle.fw_verdict.specs.Items.{items}
use Rattle.fw_verdict.specs.Walk.{Walked, walk}
use Rattle.lower_zone.specs.Evaluates.{Evaluates}
use Rattle.lower_zone.specs.Names.{NamesDiffer, block_name, policy_block, zone_block}
use Rattle.lower_zone.specs.Stands.{StandAlone}
use Rattle.nf_rules.specs.declared.chain.Chain.{Chain}

-- whose settings the chains of a block tell
pub data Told : Type 0 where
  of_zone : Zone → Told
  of_policy : Policy → Told

abbrev pub block_of : Told → List ℕ
block_of (of_zone zone) = zone_block zone.name
block_of (of_policy policy) = policy_block policy.name

-- what these settings do with a packet
abbrev pub walk_of : Config → Told → Packet → Walked
walk_of config (of_zone zone) = walk (items config zone.rules zone.inversion)
walk_of config (of_policy policy) = walk (items config policy.rules false)

-- The chains of a block: they do what its settings do, have names of their own, and name nothing else but the sets of ipsets.
pub record AreBlock (config : Config) (told : Told) (chains : List Chain) : Type 0 where
  pub evaluates : Evaluates config chains (block_name (block_of told)) (walk_of config told)
  pub names : NamesDiffer (block_of told) chains
  pub stands : StandAlone config chains (block_name (block_of told))

-- The chains of some blocks, one block behind another.
pub data AreBlocks (config : Config) : List Told → List Chain → Type 0 where
  none : AreBlocks config [] []
  one_more : (told : List Told) (last : Told) (chains block : List Chain)
      → AreBlocks config told chains
      → AreBlock config last block
      → AreBlocks config (told ++ last ∷ []) (chains ++ block)

-- The chains of these came behind the blocks that were there.
abbrev pub Behind : Config → List Told → List Chain → List Chain → Type 0
Behind config more old new = (told : List Told) → AreBlocks config told old → AreBlocks config (told ++ more) new
