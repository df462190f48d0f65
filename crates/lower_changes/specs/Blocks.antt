-- The chains of settings on a side, one block behind another.
use Rattle.std.specs.Prelude.{ℕ, List, [], ◌∷◌, ◌++◌}
use Rattle.fw_model.specs.declared.config.Config.{Config}
use Rattle.fw_model.specs.declared.rules.Rules.{Rules}
use Rattle.fw_verdict.specs.declared.sides.Side.{Side}
use Rattle.lower_blocks.specs.Blocks.{Told}
use Rattle.lower_blocks.specs.Blocks.Told.{of_policy, of_zone}
use Rattle.lower_outside.specs.Changing.{AreBlock}
use Rattle.lower_outside.specs.Names.{policy_block, zone_block}
use Rattle.nf_rules.specs.declared.chain.Chain.{Chain}

abbrev pub rules_of : Told → Rules
rules_of (of_zone zone) = zone.rules
rules_of (of_policy policy) = policy.rules

abbrev pub block_of : Side → Told → List ℕ
block_of of (of_zone zone) = zone_block of zone.name
block_of of (of_policy policy) = policy_block of policy.name

-- the chains of one
abbrev pub IsBlock : Config → Side → Told → List Chain → Type 0
IsBlock config of told chains = AreBlock config of (block_of of told) (rules_of told) chains

pub data AreBlocks (config : Config) (of : Side) : List Told → List Chain → Type 0 where
  none : AreBlocks config of [] []
  one_more : (told : List Told) (last : Told) (chains block : List Chain)
      → AreBlocks config of told chains
      → IsBlock config of last block
      → AreBlocks config of (told ++ last ∷ []) (chains ++ block)

-- The chains of these came behind the blocks that were there.
abbrev pub Behind : Config → Side → List Told → List Chain → List Chain → Type 0
Behind config of more old new = (told : List Told) → AreBlocks config of told old → AreBlocks config of (told ++ more) new
