-- Policies (firewalld.policies(5), firewalld.policy(5)): to which packets they apply, in which order, and what they do.
use Rattle.std.specs.Prelude.{ℕ, List, [], ◌∷◌, map, codes, int_lt, pos, Bool, false, ◌&&◌, ◌||◌, Option, None, Some}
use Rattle.std.specs.List.{filter, list_any}
use Rattle.std.specs.Str.{bytes_eq}
use Rattle.fw_addr.specs.declared.reject.RejectType.TheVariants.{IcmpxAdminProhibited}
use Rattle.fw_model.specs.declared.config.Config.{Config}
use Rattle.fw_model.specs.declared.outcome.Verdict.{Verdict}
use Rattle.fw_model.specs.declared.outcome.Verdict.TheVariants as verdict
use Rattle.fw_model.specs.declared.packet.Packet.{Packet}
use Rattle.fw_model.specs.declared.policy.Policy.{Policy}
use Rattle.fw_model.specs.declared.policy.PolicyTarget.{PolicyTarget}
use Rattle.fw_model.specs.declared.policy.PolicyTarget.TheVariants as target
use Rattle.fw_model.specs.declared.zone.Zone.{Zone}
use Rattle.fw_order.specs.Policies.{by_priority_and_name}
use Rattle.fw_verdict.specs.Items.{items}
use Rattle.fw_verdict.specs.Walk.{Walked, in_turn, silently, walk}
use Rattle.fw_verdict.specs.declared.policies.Stage.{Stage}
use Rattle.fw_verdict.specs.declared.policies.Stage.TheVariants as stage

-- where packets come from and go to: the host, or a zone (which is none only where the default zone isn't there)
pub data End : Type 0 where
  at_host : End
  in_zone : Option Zone → End

-- a side of a policy has this name
abbrev pub names : List ℕ → List (List ℕ) → Bool
names name side = list_any (λ one. bytes_eq one name) side

-- A side stands for an end that it names: a zone by its own name or as `ANY`, the host as `HOST`, which `ANY` isn't.
abbrev pub stands_for : List (List ℕ) → End → Bool
stands_for side at_host = names (codes "HOST") side
stands_for side (in_zone None) = false
stands_for side (in_zone (Some zone)) = names zone.name side || names (codes "ANY") side

-- a policy applies to packets from one end to another
abbrev pub applies : Policy → (from to : End) → Bool
applies policy from to = stands_for policy.ingress from && stands_for policy.egress to

-- Policies of negative priority come before the zone, those of positive priority behind it.
abbrev pub acts_at : Stage → Policy → Bool
acts_at stage.BeforeZone policy = int_lt policy.priority (pos 0)
acts_at stage.BehindZone policy = int_lt (pos 0) policy.priority

-- a policy acts at a stage on packets from one end to another
unfoldable pub acts_between : Stage → (from to : End) → Policy → Bool
acts_between stage from to policy = acts_at stage policy && applies policy from to

-- the policies that apply, in the order in which they act: by priority and then by name
abbrev pub policies_at : Config → Stage → (from to : End) → List Policy
policies_at config stage from to = by_priority_and_name (filter (acts_between stage from to) config.policies)

-- The target of a policy, for what nothing else in it decided: under `CONTINUE` what comes behind it decides.
abbrev pub decided_by_target : PolicyTarget → Option Verdict
decided_by_target target.Continue = None
decided_by_target target.Accept = Some verdict.Accept
decided_by_target target.Reject = Some (verdict.Reject IcmpxAdminProhibited)
decided_by_target target.Drop = Some verdict.Drop

-- What a policy does with a packet: its settings, as those of a zone do without inversion, and then its target.
abbrev pub policy_walk : Config → Packet → Policy → Walked
policy_walk config packet policy =
    in_turn (walk (items config policy.rules false) packet ∷ silently (decided_by_target policy.target) ∷ [])

-- what some policies do, one after another
abbrev pub walk_all : Config → Packet → List Policy → Walked
walk_all config packet policies = in_turn (map (policy_walk config packet) policies)

-- what the policies from one end to another do, at a stage
abbrev pub policies : Config → Stage → Packet → (from to : End) → Walked
policies config stage packet from to = walk_all config packet (policies_at config stage from to)
