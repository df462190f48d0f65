-- Where the rules of the hooks lead, and what they ask of a ruleset that they stand in.
use Rattle.std.specs.Prelude.{◌≡◌, ℕ, List, ◌++◌, codes, Some, true, IsTrue, is_some}
use Rattle.std.specs.List.{list_all}
use Rattle.fw_model.specs.declared.config.Config.{Config}
use Rattle.fw_model.specs.declared.policy.Policy.{Policy}
use Rattle.fw_model.specs.declared.zone.Zone.{Zone}
use Rattle.fw_verdict.specs.Policies.{policies_at}
use Rattle.fw_verdict.specs.Policies.End.{at_host, in_zone}
use Rattle.fw_verdict.specs.declared.policies.Stage.TheVariants as stage
use Rattle.fw_zone.specs.Lists.{IsIn}
use Rattle.lower_dispatch.specs.Uses.{IsChainName}
use Rattle.lower_hooks.specs.Chains.{base_chain}
use Rattle.lower_hooks.specs.Names.{forward_start, input_start, output_start, pair_start}
use Rattle.lower_hooks.specs.Settings.{has_settings, has_walk}
use Rattle.lower_match.specs.Stands.{EachHasSet}
use Rattle.lower_zone.specs.Forms.{chain_named}
use Rattle.lower_zone.specs.Names.{block_name, policy_block, zone_block}
use Rattle.nf_chains.specs.Condition.{are_plain}
use Rattle.nf_rules.specs.declared.chain.Chain.{Chain}
use Rattle.nf_rules.specs.declared.chain.Hook.{Hook}
use Rattle.nf_rules.specs.declared.chain.Hook.TheVariants as hook
use Rattle.nf_rules.specs.declared.map.NfMap.{NfMap}
use Rattle.nf_rules.specs.declared.rule.Rule.{Rule}
use Rattle.nf_rules.specs.declared.ruleset.Ruleset.{Ruleset}
use Rattle.nf_sound.specs.Names.{chain_of}
use Rattle.nf_sound.specs.Sound.{IsIn as IsNameIn, rule_stands}
use Rattle.nf_sound.specs.Targets.{rule_targets}

-- Rules that lead to chains of certain names alone.
pub record Leads (config : Config) (To : List ℕ → Type 0) (made : List Rule) : Type 0 where
  -- where those chains are there, and each ipset has its set, all that the rules name is there
  pub stand : (table : Ruleset) → ((name : List ℕ) → To name → IsTrue (is_some (chain_of table.chains name)))
      → EachHasSet config.ipsets table → IsTrue (list_all (rule_stands table) made)
  -- they lead nowhere else
  pub targets : (maps : List NfMap) (name : List ℕ) → IsNameIn name (rule_targets maps made) → To name
  -- and mark and translate nothing
  pub plain : IsTrue (are_plain made)

-- the name of the chain of a zone's settings, where it has any
pub record IsZoneChain (zone : Zone) (name : List ℕ) : Type 0 where
  pub some : has_walk zone ≡ true
  pub is : name ≡ block_name (zone_block zone.name)

-- the name of the chain of a policy's settings, where it has any, for one of these policies
pub record IsPolicyChain (policies : List Policy) (name : List ℕ) : Type 0 where
  pub policy : Policy
  pub listed : IsIn policy policies
  pub some : has_settings policy.rules ≡ true
  pub is : name ≡ block_name (policy_block policy.name)

-- where the rules for packets of a zone to the host lead
pub data IsInputTarget (config : Config) (zone : Zone) (name : List ℕ) : Type 0 where
  before : IsPolicyChain (policies_at config stage.BeforeZone (in_zone (Some zone)) at_host) name → IsInputTarget config zone name
  settings : IsZoneChain zone name → IsInputTarget config zone name
  behind : IsPolicyChain (policies_at config stage.BehindZone (in_zone (Some zone)) at_host) name → IsInputTarget config zone name

-- those for packets from a zone to a zone
pub data IsForwardTarget (config : Config) (from to : Zone) (name : List ℕ) : Type 0 where
  before : IsPolicyChain (policies_at config stage.BeforeZone (in_zone (Some from)) (in_zone (Some to))) name → IsForwardTarget config from to name
  behind : IsPolicyChain (policies_at config stage.BehindZone (in_zone (Some from)) (in_zone (Some to))) name → IsForwardTarget config from to name

-- those for packets of the host to a zone
pub data IsOutputTarget (config : Config) (zone : Zone) (name : List ℕ) : Type 0 where
  before : IsPolicyChain (policies_at config stage.BeforeZone at_host (in_zone (Some zone))) name → IsOutputTarget config zone name
  behind : IsPolicyChain (policies_at config stage.BehindZone at_host (in_zone (Some zone))) name → IsOutputTarget config zone name

-- A chain of a name is there, whose rules lead to chains of certain names alone.
pub record HasLeads (config : Config) (To : List ℕ → Type 0) (name : List ℕ) (chains : List Chain) : Type 0 where
  pub rules : List Rule
  pub there : IsIn (chain_named name rules) chains
  pub leads : Leads config To rules

-- A base chain is there, whose rules lead to the chains of zones alone.
pub record BaseLeads (config : Config) (name : List ℕ) (at : Hook) (start : List ℕ) (chains : List Chain) : Type 0 where
  pub rules : List Rule
  pub there : IsIn (base_chain name at rules) chains
  pub leads : Leads config (IsChainName config start) rules

-- The chains at input: from the first the rules lead to those of zones, and from these to those of settings.
pub record InputLeads (config : Config) (zones : List Zone) (chains : List Chain) : Type 0 where
  pub base : BaseLeads config (codes "filter_INPUT") hook.Input input_start chains
  pub zone : (zone : Zone) → IsIn zone zones → HasLeads config (IsInputTarget config zone) (input_start ++ zone.name) chains

-- The chain for what is forwarded from a zone leads to those for the zones that it goes to, and these lead to those of settings.
pub record PairsLead (config : Config) (zones : List Zone) (from : Zone) (chains : List Chain) : Type 0 where
  pub first : HasLeads config (IsChainName config (pair_start from.name)) (forward_start ++ from.name) chains
  pub pairs : (to : Zone) → IsIn to zones → HasLeads config (IsForwardTarget config from to) (pair_start from.name ++ to.name) chains

-- Those at forward: from the first to those of the zones that packets come from, from these to those of the zones that they go to, and
-- from these to those of settings.
pub record ForwardLeads (config : Config) (zones : List Zone) (chains : List Chain) : Type 0 where
  pub base : BaseLeads config (codes "filter_FORWARD") hook.Forward forward_start chains
  pub from : (from : Zone) → IsIn from zones → HasLeads config (IsChainName config (pair_start from.name)) (forward_start ++ from.name) chains
  pub pair : (from to : Zone) → IsIn from zones → IsIn to zones
      → HasLeads config (IsForwardTarget config from to) (pair_start from.name ++ to.name) chains

-- Those at output, as those at input.
pub record OutputLeads (config : Config) (zones : List Zone) (chains : List Chain) : Type 0 where
  pub base : BaseLeads config (codes "filter_OUTPUT") hook.Output output_start chains
  pub zone : (zone : Zone) → IsIn zone zones → HasLeads config (IsOutputTarget config zone) (output_start ++ zone.name) chains
