-- The rules of the chains of zones, one after another: jumps to the chains of settings.
use Rattle.std.specs.Prelude.{List, ℕ, [], ◌∷◌, ◌++◌, codes, Bool, if◌then◌else◌, Some}
use Rattle.std.specs.List.{flat_map}
use Rattle.fw_model.specs.declared.config.Config.{Config}
use Rattle.fw_model.specs.declared.policy.Policy.{Policy}
use Rattle.fw_model.specs.declared.zone.Zone.{Zone}
use Rattle.fw_verdict.specs.Sides.{policies_beside}
use Rattle.fw_verdict.specs.declared.policies.Stage.{Stage}
use Rattle.fw_verdict.specs.declared.policies.Stage.TheVariants as stage
use Rattle.fw_verdict.specs.declared.sides.Side.{Side}
use Rattle.fw_verdict.specs.declared.sides.Side.TheVariants as side
use Rattle.lower_outside.specs.Names.{block_name, policy_block, zone_block}
use Rattle.lower_outside.specs.Needed.{has_changes}
use Rattle.lower_zone.specs.Forms.{each, is, jump_to}
use Rattle.nf_rules.specs.declared.rule.Rule.{Rule}
use Rattle.nf_rules.specs.declared.statement.Stmt.TheVariants as stmt
use Rattle.nf_rules.specs.declared.test.Test.TheVariants as test

-- a jump to the chain of some settings, where they do anything on the side
abbrev pub jump_where : Bool → List ℕ → List Rule
jump_where some name = if some then jump_to name ∷ [] else []

abbrev pub zone_jump : Side → Zone → List Rule
zone_jump of zone = jump_where (has_changes of zone.rules) (block_name of (zone_block of zone.name))

abbrev pub policy_jump : Side → Policy → List Rule
policy_jump of policy = jump_where (has_changes of policy.rules) (block_name of (policy_block of policy.name))

-- the policies that take part at a stage
abbrev pub rules_at : Config → Side → Stage → Zone → List Rule
rules_at config of stage zone = flat_map (policy_jump of) (policies_beside config of stage (Some zone))

-- policies, the zone, policies
abbrev pub zone_rules : Config → Side → Zone → List Rule
zone_rules config of zone = rules_at config of stage.BeforeZone zone ++ (zone_jump of zone ++ rules_at config of stage.BehindZone zone)

-- What leaves by the loopback interface keeps its own address.
abbrev pub early : Side → List Rule
early side.Marked = []
early side.Translated = []
early side.Leaving = each (stmt.Accept ∷ []) ((is (test.Out (codes "lo")) ∷ []) ∷ [])
