-- The chains of a side: none where no settings do anything there, and else the base chain, the chains of zones, and those of settings.
use Rattle.std.specs.Prelude.{◌≡◌, List, [], ◌++◌}
use Rattle.fw_model.specs.declared.config.Config.{Config}
use Rattle.fw_model.specs.declared.policy.Policy.{Policy}
use Rattle.fw_model.specs.declared.zone.Zone.{Zone}
use Rattle.fw_valid.specs.Each.{Each}
use Rattle.fw_valid.specs.Valid.{AreWritten}
use Rattle.fw_verdict.specs.declared.sides.Side.{Side}
use Rattle.lower_changes.specs.Blocks.{AreBlocks}
use Rattle.lower_changes.specs.Chains.{IsHook}
use Rattle.lower_changes.specs.Needed.{needed}
use Rattle.nf_rules.specs.declared.chain.Chain.{Chain}

-- the settings of these zones and of all policies are as they can be written
pub record IsWritten (config : Config) (zones : List Zone) : Type 0 where
  pub of_zones : Each (λ (zone : Zone). AreWritten zone.rules) zones
  pub of_policies : Each (λ (policy : Policy). AreWritten policy.rules) config.policies

pub data IsSide (config : Config) (of : Side) (zones : List Zone) (chains : List Chain) : Type 0 where
  idle : chains ≡ [] → needed config of zones ≡ [] → IsSide config of zones chains
  full : (hook blocks : List Chain)
      → chains ≡ hook ++ blocks
      → IsHook config of zones hook
      → AreBlocks config of (needed config of zones) blocks
      → IsSide config of zones chains
