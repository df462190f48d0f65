-- What the rules of the chains of zones do.
use Rattle.std.proofs.Common.{◌≡◌, ℕ, Bool, true, false, List, [], ◌∷◌, Option, None, Some, inl, inr, refl, sym, subst}
use Rattle.std.specs.Prelude.{if◌then◌else◌}
use Rattle.std.specs.List.{flat_map}
use Rattle.fw_model.specs.declared.config.Config.{Config}
use Rattle.fw_model.specs.declared.outcome.Verdict.{Verdict}
use Rattle.fw_model.specs.declared.outcome.Verdict.TheVariants as verdict
use Rattle.fw_model.specs.declared.packet.Packet.{Packet}
use Rattle.fw_model.specs.declared.policy.Policy.{Policy}
use Rattle.fw_model.specs.declared.zone.Zone.{Zone}
use Rattle.fw_model.specs.declared.zone.ZoneTarget.{ZoneTarget}
use Rattle.fw_model.specs.declared.zone.ZoneTarget.TheVariants as target
use Rattle.fw_verdict.specs.Items.{items}
use Rattle.fw_verdict.specs.Policies.{decided_by_target, policies_at, policy_walk, walk_all}
use Rattle.fw_verdict.specs.Policies.End.{at_host, in_zone}
use Rattle.fw_verdict.specs.Walk.{Walked, in_turn, nothing, silently, walk}
use Rattle.fw_verdict.specs.Denied.{denial, denial_item, drop_prefix, final_prefix, forward_front, input_front, is_told, reject_prefix}
use Rattle.fw_verdict.specs.Way.{decided_as, forward_walk, forwarded_end, icmp_accepted, policies_before, policies_behind, stays_within, target_forwarded, target_lines, to_host_end, zone_walk}
use Rattle.fw_verdict.specs.declared.policies.Stage.TheVariants as stage
use Rattle.lower_hooks.specs.Listed.{decided_rules, forward_rules, icmp_first, input_end, input_rules, jump_where, output_rules, policy_jump, policy_rules, rules_at, target_line, target_rules, within_rules, zone_jump}
use Rattle.lower_hooks.specs.Rules.{always, denial_rules}
use Rattle.lower_hooks.specs.Settings.{has_settings, has_walk}
use Rattle.lower_hooks.specs.Work.{DoIn, JumpDoes, PoliciesStand, PolicyStands}
use Rattle.lower_hooks.specs.Zones.{ForwardStands, InputStands, OutputStands, host_to_zone, zone_to_host, zone_to_zone}
use Rattle.lower_hooks.proofs.Deciding.{always_does, forwarded_can, icmp_does, target_can}
use Rattle.lower_hooks.proofs.Lines.{denial_does, line_when}
use Rattle.lower_hooks.proofs.Idle.{idle, idle_zone}
use Rattle.lower_hooks.proofs.Works.{does_both, does_four, does_nothing, does_three, does_two, does_where, jump_does, or_nothing}
use Rattle.lower_zone.proofs.Sequences.{nothing_done}
use Rattle.lower_zone.specs.Names.{block_name, policy_block, zone_block}
use Rattle.lower_zone.specs.Verdicts.{can_decide}
use Rattle.lower_zone.specs.Work.{Do}
use Rattle.nf_rules.specs.declared.ruleset.Ruleset.{Ruleset}

module _ (config : Config) where
  module _ (Holds : Ruleset → Type 0) where
    always_in : (chosen : Verdict) → ((packet : Packet) → can_decide chosen packet ≡ true) → DoIn config Holds (always chosen) (λ packet. silently (Some chosen))
    always_in chosen can table leaving now holds meeting = always_does table leaving chosen now (can now.packet)

    decided_in : (decided : Option Verdict) → ((chosen : Verdict) (packet : Packet) → decided ≡ Some chosen → can_decide chosen packet ≡ true)
        → DoIn config Holds (decided_rules decided) (λ packet. silently decided)
    decided_in None can = does_nothing config Holds
    decided_in (Some chosen) can = always_in chosen (λ packet. can chosen packet refl)

    -- settings that are none do nothing
    jump_in : (some : Bool) (name : List ℕ) (walked : Packet → Walked)
        → ((table : Ruleset) → Holds table → some ≡ true → JumpDoes config table name walked)
        → ((packet : Packet) → some ≡ false → walked packet ≡ nothing)
        → DoIn config Holds (jump_where some name) walked
    jump_in true name walked does none table leaving now holds meeting = jump_does config table name walked leaving now (does table holds refl) meeting
    jump_in false name walked does none table leaving now holds meeting =
        subst (λ (one : Walked). Do table leaving [] now one) (sym (none now.packet refl)) (nothing_done table leaving now)

    -- lines of what is denied
    denial_in : (prefix : List ℕ) → DoIn config Holds (denial_rules [] config.log_denied prefix) (walk (denial_item config prefix ∷ []))
    denial_in prefix table leaving now holds meeting =
        let line = line_when (is_told config.log_denied now.packet.pkt) (denial prefix) in
        subst (λ (walked : Walked). Do table leaving (denial_rules [] config.log_denied prefix) now walked) (sym (or_nothing line.decided line.logs))
        (denial_does table leaving [] config.log_denied prefix now true refl)

    line_in : (front name : List ℕ) (chosen : ZoneTarget) → DoIn config Holds (target_line config front name chosen) (walk (target_lines config front name chosen))
    line_in front name target.Accept = does_nothing config Holds
    line_in front name target.Drop = denial_in (drop_prefix front name)
    line_in front name target.Reject = denial_in (reject_prefix front name)
    line_in front name target.Default = denial_in final_prefix

    -- a target behind its line
    target_in : (front : List ℕ) (zone : Zone)
        → DoIn config Holds (target_rules config front zone) (λ packet. in_turn (walk (target_lines config front zone.name zone.target) packet ∷ decided_as (target_forwarded zone.target) ∷ []))
    target_in front zone =
        does_two config Holds (target_line config front zone.name zone.target) (always (target_forwarded zone.target))
        (walk (target_lines config front zone.name zone.target)) (λ packet. decided_as (target_forwarded zone.target))
        (line_in front zone.name zone.target) (always_in (target_forwarded zone.target) (forwarded_can zone.target))

    icmp_in : (chosen : ZoneTarget) → DoIn config Holds (icmp_first chosen) (walk (icmp_accepted chosen))
    icmp_in target.Accept = does_nothing config Holds
    icmp_in target.Drop = does_nothing config Holds
    icmp_in target.Reject = does_nothing config Holds
    icmp_in target.Default = λ table leaving now holds meeting. icmp_does config table leaving now meeting

    end_in : (zone : Zone) → DoIn config Holds (input_end config zone) (λ packet. to_host_end config packet (Some zone))
    end_in zone =
        does_both config Holds (icmp_first zone.target) (target_rules config input_front zone)
        (walk (icmp_accepted zone.target)) (λ packet. in_turn (walk (target_lines config input_front zone.name zone.target) packet ∷ decided_as (target_forwarded zone.target) ∷ []))
        (icmp_in zone.target) (target_in input_front zone)

    within_in : (stays : Bool) → DoIn config Holds (if stays then always verdict.Accept else []) (λ packet. if stays then decided_as verdict.Accept else nothing)
    within_in true = always_in verdict.Accept (λ packet. refl)
    within_in false = does_nothing config Holds

  policy_does : (policy : Policy) → DoIn config (λ table. PolicyStands config table policy) (policy_rules policy) (λ packet. policy_walk config packet policy)
  policy_does policy =
      let Holds = λ (table : Ruleset). PolicyStands config table policy in
      does_two config Holds (policy_jump policy) (decided_rules (decided_by_target policy.target))
      (walk (items config policy.rules false)) (λ packet. silently (decided_by_target policy.target))
      (jump_in Holds (has_settings policy.rules) (block_name (policy_block policy.name)) (walk (items config policy.rules false))
      (λ table stands. stands) (idle config policy.rules))
      (decided_in Holds (decided_by_target policy.target) (target_can policy.target))

  policies_do : (policies : List Policy) → DoIn config (λ table. PoliciesStand config table policies) (flat_map policy_rules policies) (λ packet. walk_all config packet policies)
  policies_do [] = does_nothing config (λ table. PoliciesStand config table [])
  policies_do (policy ∷ others) =
      let Holds = λ (table : Ruleset). PoliciesStand config table (policy ∷ others) in
      does_both config Holds (policy_rules policy) (flat_map policy_rules others) (λ packet. policy_walk config packet policy) (λ packet. walk_all config packet others)
      (does_where config (λ table. PolicyStands config table policy) Holds _ _ (λ table stand. stand policy (inl refl)) (policy_does policy))
      (does_where config (λ table. PoliciesStand config table others) Holds _ _ (λ table stand other listed. stand other (inr listed)) (policies_do others))

  -- to the host
  pub input_does : (zone : Zone) → DoIn config (InputStands config zone) (input_rules config zone) (zone_to_host config zone)
  input_does zone =
      let Holds = InputStands config zone in
      does_four config Holds
      (rules_at config stage.BeforeZone (in_zone (Some zone)) at_host) (zone_jump zone) (rules_at config stage.BehindZone (in_zone (Some zone)) at_host) (input_end config zone)
      (λ packet. policies_before config packet (in_zone (Some zone)) at_host) (λ packet. zone_walk config packet (Some zone))
      (λ packet. policies_behind config packet (in_zone (Some zone)) at_host) (λ packet. to_host_end config packet (Some zone))
      (does_where config _ Holds _ _ (λ table stands. stands.before) (policies_do (policies_at config stage.BeforeZone (in_zone (Some zone)) at_host)))
      (jump_in Holds (has_walk zone) (block_name (zone_block zone.name)) (λ packet. zone_walk config packet (Some zone))
      (λ table stands. stands.settings) (idle_zone config zone))
      (does_where config _ Holds _ _ (λ table stands. stands.behind) (policies_do (policies_at config stage.BehindZone (in_zone (Some zone)) at_host)))
      (end_in Holds zone)

  -- from a zone to a zone
  pub forward_does : (from to : Zone) → DoIn config (ForwardStands config from to) (forward_rules config from to) (zone_to_zone config from to)
  forward_does from to =
      let Holds = ForwardStands config from to in
      does_four config Holds
      (rules_at config stage.BeforeZone (in_zone (Some from)) (in_zone (Some to))) (within_rules from to)
      (rules_at config stage.BehindZone (in_zone (Some from)) (in_zone (Some to))) (target_rules config forward_front from)
      (λ packet. policies_before config packet (in_zone (Some from)) (in_zone (Some to))) (λ packet. forward_walk (Some from) (Some to))
      (λ packet. policies_behind config packet (in_zone (Some from)) (in_zone (Some to))) (λ packet. forwarded_end config packet (Some from))
      (does_where config _ Holds _ _ (λ table stands. stands.before) (policies_do (policies_at config stage.BeforeZone (in_zone (Some from)) (in_zone (Some to)))))
      (within_in Holds (stays_within (Some from) (Some to)))
      (does_where config _ Holds _ _ (λ table stands. stands.behind) (policies_do (policies_at config stage.BehindZone (in_zone (Some from)) (in_zone (Some to)))))
      (target_in Holds forward_front from)

  -- from the host to a zone
  pub output_does : (zone : Zone) → DoIn config (OutputStands config zone) (output_rules config zone) (host_to_zone config zone)
  output_does zone =
      let Holds = OutputStands config zone in
      does_three config Holds
      (rules_at config stage.BeforeZone at_host (in_zone (Some zone))) (rules_at config stage.BehindZone at_host (in_zone (Some zone))) (always verdict.Accept)
      (λ packet. policies_before config packet at_host (in_zone (Some zone))) (λ packet. policies_behind config packet at_host (in_zone (Some zone)))
      (λ packet. decided_as verdict.Accept)
      (does_where config _ Holds _ _ (λ table stands. stands.before) (policies_do (policies_at config stage.BeforeZone at_host (in_zone (Some zone)))))
      (does_where config _ Holds _ _ (λ table stands. stands.behind) (policies_do (policies_at config stage.BehindZone at_host (in_zone (Some zone)))))
      (always_in Holds verdict.Accept (λ packet. refl))
