-- A ruleset in which the chains of the hooks stand, one base chain at each of the three.
use Rattle.std.specs.Prelude.{◌≡◌, ◌⊎◌, ℕ, List, codes, false, None, Some, IsSome}
use Rattle.fw_hits.specs.Bindings.{default_zone}
use Rattle.fw_model.specs.declared.config.Config.{Config}
use Rattle.fw_model.specs.declared.zone.Zone.{Zone}
use Rattle.fw_zone.specs.Lists.{IsIn}
use Rattle.lower_dispatch.specs.Uses.{IsUsed}
use Rattle.lower_hooks.specs.Chains.{ForwardWorks, InputWorks, OutputWorks, base_chain}
use Rattle.lower_hooks.specs.Zones.{ForwardStands, InputStands, OutputStands}
use Rattle.lower_match.specs.Lowers.{EachStands}
use Rattle.lower_zone.specs.Evaluates.{EachIsThere}
use Rattle.nf_rules.specs.declared.chain.Chain.{Chain}
use Rattle.nf_chains.specs.Hooks.{is_at, next_at}
use Rattle.nf_rules.specs.declared.chain.Hook.{Hook}
use Rattle.nf_rules.specs.declared.chain.Hook.TheVariants as hook
use Rattle.nf_rules.specs.declared.rule.Rule.{Rule}
use Rattle.nf_rules.specs.declared.ruleset.Ruleset.{Ruleset}

-- one base chain runs at a hook
pub record OneAt (rules : Ruleset) (name : List ℕ) (at : Hook) (made : List Rule) : Type 0 where
  pub first : next_at at None rules.chains ≡ Some (base_chain name at made)
  pub last : next_at at (Some (base_chain name at made)) rules.chains ≡ None

-- The base chains at input, forward and output, by their rules. Others may run at prerouting and postrouting.
pub record HasBases (rules : Ruleset) (input forward output : List Rule) : Type 0 where
  pub at_input : OneAt rules (codes "filter_INPUT") hook.Input input
  pub at_forward : OneAt rules (codes "filter_FORWARD") hook.Forward forward
  pub at_output : OneAt rules (codes "filter_OUTPUT") hook.Output output

-- a chain that runs at none of the three hooks
pub record IsElsewhere (chain : Chain) : Type 0 where
  pub input : is_at hook.Input chain.base ≡ false
  pub forward : is_at hook.Forward chain.base ≡ false
  pub output : is_at hook.Output chain.base ≡ false

-- Of these chains three are base chains at these hooks, and no other is.
abbrev pub AreBases : List Chain → (input forward output : List Rule) → Type 0
AreBases chains input forward output =
    (chain : Chain) → IsIn chain chains
    → IsElsewhere chain
    ⊎ ((chain ≡ base_chain (codes "filter_INPUT") hook.Input input)
    ⊎ ((chain ≡ base_chain (codes "filter_FORWARD") hook.Forward forward)
    ⊎ (chain ≡ base_chain (codes "filter_OUTPUT") hook.Output output)))

-- All that the way of a packet through the filter leads through.
pub record Works (config : Config) (rules : Ruleset) : Type 0 where
  pub zones : List Zone
  pub inputs : List Chain
  pub forwards : List Chain
  pub outputs : List Chain
  pub input : InputWorks config zones inputs
  pub forward : ForwardWorks config zones forwards
  pub output : OutputWorks config zones outputs
  pub inputs_there : EachIsThere inputs rules
  pub forwards_there : EachIsThere forwards rules
  pub outputs_there : EachIsThere outputs rules
  pub bases : HasBases rules input.rules forward.rules output.rules
  pub sets : EachStands config.ipsets rules.sets
  -- the zones that packets belong to
  pub used : (zone : Zone) → IsUsed config zone → IsIn zone zones
  pub default : IsSome (default_zone config)
  -- the chains of settings
  pub to_host : (zone : Zone) → IsIn zone zones → InputStands config zone rules
  pub to_zone : (from to : Zone) → IsIn from zones → IsIn to zones → ForwardStands config from to rules
  pub from_host : (zone : Zone) → IsIn zone zones → OutputStands config zone rules
