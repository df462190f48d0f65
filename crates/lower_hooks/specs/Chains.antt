-- What the chains of the hooks do with packets: the steps of `Way.antt` from the filter on, as the evaluation of nft(8) has it.
use Rattle.std.specs.Prelude.{◌≡◌, ◌⊎◌, ℕ, pos, List, [], ◌++◌, codes, Option, None, Some}
use Rattle.fw_hits.specs.Bindings.{egress, ingress}
use Rattle.fw_model.specs.declared.config.Config.{Config}
use Rattle.fw_model.specs.declared.outcome.Verdict.{Verdict}
use Rattle.fw_model.specs.declared.packet.Packet.{Packet}
use Rattle.fw_model.specs.declared.zone.Zone.{Zone}
use Rattle.fw_verdict.specs.Walk.{Walked}
use Rattle.fw_verdict.specs.Way.{forwarded, from_host, to_host}
use Rattle.fw_zone.specs.Lists.{IsIn}
use Rattle.lower_dispatch.specs.Dispatch.{Dispatches}
use Rattle.lower_dispatch.specs.declared.direction.Direction.TheVariants as direction
use Rattle.lower_hooks.specs.Names.{forward_start, pair_start}
use Rattle.lower_hooks.specs.Work.{DoIn}
use Rattle.lower_hooks.specs.Zones.{ForwardStands, InputStands, OutputStands, zone_to_zone}
use Rattle.lower_zone.specs.Evaluates.{EachIsThere, Meeting, behind_lines}
use Rattle.lower_zone.specs.Forms.{chain_named}
use Rattle.nf_chains.specs.Evaluation.{Ends}
use Rattle.nf_chains.specs.Moments.{Moment}
use Rattle.nf_rules.specs.declared.chain.Chain.{Chain}
use Rattle.nf_rules.specs.declared.chain.ChainKind.TheVariants as kind
use Rattle.nf_rules.specs.declared.chain.Hook.{Hook}
use Rattle.nf_rules.specs.declared.chain.Hook.TheVariants as hook
use Rattle.nf_rules.specs.declared.rule.Rule.{Rule}
use Rattle.nf_rules.specs.declared.ruleset.Ruleset.{Ruleset}

-- a filter chain at a hook, in firewalld's place among the chains there
abbrev pub base_chain : List ℕ → Hook → List Rule → Chain
base_chain name at rules = record { name = name; base = Some (record { kind = kind.Filter; hook = at; priority = pos 10 }); rules = rules }

-- From a moment, the rules of a base chain end as a walk decides, with its lines behind those so far.
pub record EndAs (table : Ruleset) (leaving : Option (List ℕ)) (made : List Rule) (now : Moment) (walked : Walked) : Type 0 where
  pub verdict : Verdict
  pub looked_at : ℕ
  pub decides : walked.decided ≡ Some verdict
  pub ends : Ends table leaving [] made [] now verdict (behind_lines walked.logs looked_at now)

-- A chain of a name is there, whose rules do what a walk does.
pub record HasChain (config : Config) (Holds : Ruleset → Type 0) (walked : Packet → Walked) (name : List ℕ) (chains : List Chain) : Type 0 where
  pub rules : List Rule
  pub there : IsIn (chain_named name rules) chains
  pub work : DoIn config Holds rules walked

-- The chain for what is forwarded from a zone is there, and leads to those for the zones that it goes to.
pub record HasPairs (config : Config) (zones : List Zone) (from : Zone) (chains : List Chain) : Type 0 where
  pub rules : List Rule
  pub there : IsIn (chain_named (forward_start ++ from.name) rules) chains
  pub leads : Dispatches config direction.Egress (pair_start from.name) rules
  pub pairs : (to : Zone) → IsIn to zones
      → HasChain config (ForwardStands config from to) (zone_to_zone config from to) (pair_start from.name ++ to.name) chains

-- All are still there, and what came beside them is no base chain.
pub record Grows (old new : List Chain) : Type 0 where
  pub kept : (chain : Chain) → IsIn chain old → IsIn chain new
  pub plain : (chain : Chain) → IsIn chain new → IsIn chain old ⊎ (chain.base ≡ None)

-- A chain is there, and no other base chain.
pub record IsOnlyBase (base : Chain) (chains : List Chain) : Type 0 where
  pub there : IsIn base chains
  pub only : (chain : Chain) → IsIn chain chains → (base ≡ chain) ⊎ (chain.base ≡ None)

-- The chains at input do with the packets of these zones what is done with packets to the host.
pub record InputWorks (config : Config) (zones : List Zone) (chains : List Chain) : Type 0 where
  pub rules : List Rule
  pub base : IsOnlyBase (base_chain (codes "filter_INPUT") hook.Input rules) chains
  pub work : (table : Ruleset) (now : Moment) (zone : Zone)
      → EachIsThere chains table
      → Meeting config table now
      → ingress config now.packet ≡ Some zone
      → IsIn zone zones
      → InputStands config zone table
      → EndAs table None rules now (to_host config now.packet)

-- Those at forward do with packets from and to these zones what is done with packets that are forwarded.
pub record ForwardWorks (config : Config) (zones : List Zone) (chains : List Chain) : Type 0 where
  pub rules : List Rule
  pub base : IsOnlyBase (base_chain (codes "filter_FORWARD") hook.Forward rules) chains
  pub work : (table : Ruleset) (now : Moment) (name : List ℕ) (from to : Zone)
      → EachIsThere chains table
      → Meeting config table now
      → ingress config now.packet ≡ Some from
      → egress config now.packet name ≡ Some to
      → IsIn from zones
      → IsIn to zones
      → ForwardStands config from to table
      → EndAs table (Some name) rules now (forwarded config now.packet name)

-- Those at output do with packets to these zones what is done with packets of the host.
pub record OutputWorks (config : Config) (zones : List Zone) (chains : List Chain) : Type 0 where
  pub rules : List Rule
  pub base : IsOnlyBase (base_chain (codes "filter_OUTPUT") hook.Output rules) chains
  pub work : (table : Ruleset) (now : Moment) (name : List ℕ) (to : Zone)
      → EachIsThere chains table
      → Meeting config table now
      → egress config now.packet name ≡ Some to
      → IsIn to zones
      → OutputStands config to table
      → EndAs table (Some name) rules now (from_host config now.packet name)
