-- The rules of the chains of zones, one after another: jumps to the chains of settings, and what targets decide, behind lines of what
-- they deny.
use Rattle.std.specs.Prelude.{List, ℕ, [], ◌∷◌, ◌++◌, Bool, if◌then◌else◌, Option, None, Some}
use Rattle.std.specs.List.{flat_map}
use Rattle.fw_model.specs.declared.config.Config.{Config}
use Rattle.fw_model.specs.declared.outcome.Verdict.{Verdict}
use Rattle.fw_model.specs.declared.outcome.Verdict.TheVariants as verdict
use Rattle.fw_model.specs.declared.policy.Policy.{Policy}
use Rattle.fw_model.specs.declared.zone.Zone.{Zone}
use Rattle.fw_model.specs.declared.zone.ZoneTarget.{ZoneTarget}
use Rattle.fw_model.specs.declared.zone.ZoneTarget.TheVariants as target
use Rattle.fw_verdict.specs.Denied.{drop_prefix, final_prefix, forward_front, input_front, reject_prefix}
use Rattle.fw_verdict.specs.Policies.{End, decided_by_target, policies_at}
use Rattle.fw_verdict.specs.Policies.End.{at_host, in_zone}
use Rattle.fw_verdict.specs.Way.{stays_within, target_forwarded}
use Rattle.fw_verdict.specs.declared.policies.Stage.{Stage}
use Rattle.fw_verdict.specs.declared.policies.Stage.TheVariants as stage
use Rattle.lower_hooks.specs.Rules.{always, denial_rules, icmp_rules}
use Rattle.lower_hooks.specs.Settings.{has_settings, has_walk}
use Rattle.lower_zone.specs.Forms.{jump_to}
use Rattle.lower_zone.specs.Names.{block_name, policy_block, zone_block}
use Rattle.nf_rules.specs.declared.rule.Rule.{Rule}

-- a jump to the chain of some settings, where there are any
abbrev pub jump_where : Bool → List ℕ → List Rule
jump_where some name = if some then jump_to name ∷ [] else []

abbrev pub zone_jump : Zone → List Rule
zone_jump zone = jump_where (has_walk zone) (block_name (zone_block zone.name))

abbrev pub policy_jump : Policy → List Rule
policy_jump policy = jump_where (has_settings policy.rules) (block_name (policy_block policy.name))

-- what a target decides, if anything
abbrev pub decided_rules : Option Verdict → List Rule
decided_rules None = []
decided_rules (Some chosen) = always chosen

-- a policy: its settings, and then its target
abbrev pub policy_rules : Policy → List Rule
policy_rules policy = policy_jump policy ++ decided_rules (decided_by_target policy.target)

-- the policies from one end to another, at a stage
abbrev pub rules_at : Config → Stage → (from to : End) → List Rule
rules_at config stage from to = flat_map policy_rules (policies_at config stage from to)

-- the line before what a zone's target denies, where denied packets are told of
abbrev pub target_line : Config → (front name : List ℕ) → ZoneTarget → List Rule
target_line config front name target.Accept = []
target_line config front name target.Drop = denial_rules [] config.log_denied (drop_prefix front name)
target_line config front name target.Reject = denial_rules [] config.log_denied (reject_prefix front name)
target_line config front name target.Default = denial_rules [] config.log_denied final_prefix

-- the target of a zone, behind its line
abbrev pub target_rules : Config → (front : List ℕ) → Zone → List Rule
target_rules config front zone = target_line config front zone.name zone.target ++ always (target_forwarded zone.target)

-- under `default` ICMP to the host is accepted before
abbrev pub icmp_first : ZoneTarget → List Rule
icmp_first target.Accept = []
icmp_first target.Drop = []
icmp_first target.Reject = []
icmp_first target.Default = icmp_rules

-- what nothing else decided, to the host
abbrev pub input_end : Config → Zone → List Rule
input_end config zone = icmp_first zone.target ++ target_rules config input_front zone

-- what may stay within a zone
abbrev pub within_rules : (from to : Zone) → List Rule
within_rules from to = if stays_within (Some from) (Some to) then always verdict.Accept else []

-- from a zone to the host
abbrev pub input_rules : Config → Zone → List Rule
input_rules config zone =
    rules_at config stage.BeforeZone (in_zone (Some zone)) at_host
    ++ zone_jump zone
    ++ rules_at config stage.BehindZone (in_zone (Some zone)) at_host
    ++ input_end config zone

-- from a zone to a zone
abbrev pub forward_rules : Config → (from to : Zone) → List Rule
forward_rules config from to =
    rules_at config stage.BeforeZone (in_zone (Some from)) (in_zone (Some to))
    ++ within_rules from to
    ++ rules_at config stage.BehindZone (in_zone (Some from)) (in_zone (Some to))
    ++ target_rules config forward_front from

-- from the host to a zone
abbrev pub output_rules : Config → Zone → List Rule
output_rules config zone =
    rules_at config stage.BeforeZone at_host (in_zone (Some zone))
    ++ rules_at config stage.BehindZone at_host (in_zone (Some zone))
    ++ always verdict.Accept
