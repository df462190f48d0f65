-- Where rules lead, as they are put together.
use Rattle.std.proofs.Common.{◌≡◌, ◌⊎◌, inl, inr, ℕ, Bool, true, false, ◌&&◌, List, [], ◌∷◌, ◌++◌, Option, None, Some, refl, subst}
use Rattle.std.proofs.lemmas.Grind.{flat_map-append}
use Rattle.std.specs.Prelude.{codes, if◌then◌else◌, is_some}
use Rattle.std.specs.List.{flat_map, list_all}
use Rattle.fw_addr.specs.Protocols.{icmp_protocol, icmpv6_protocol}
use Rattle.fw_addr.specs.declared.packet.CtState.TheVariants as state
use Rattle.fw_addr.specs.declared.log.LogLine.{LogLine}
use Rattle.fw_model.specs.declared.config.Config.{Config}
use Rattle.fw_model.specs.declared.config.LogDenied.{LogDenied}
use Rattle.fw_model.specs.declared.config.LogDenied.TheVariants as denied
use Rattle.fw_model.specs.declared.outcome.Verdict.{Verdict}
use Rattle.fw_model.specs.declared.outcome.Verdict.TheVariants as verdict
use Rattle.fw_model.specs.declared.policy.Policy.{Policy}
use Rattle.fw_model.specs.declared.zone.Zone.{Zone}
use Rattle.fw_model.specs.declared.zone.ZoneTarget.{ZoneTarget}
use Rattle.fw_model.specs.declared.zone.ZoneTarget.TheVariants as target
use Rattle.fw_verdict.specs.Denied.{denial, drop_prefix, final_prefix, forward_front, input_front, invalid_prefix, reject_prefix}
use Rattle.fw_verdict.specs.Policies.{decided_by_target, policies_at}
use Rattle.fw_verdict.specs.Policies.End.{at_host, in_zone}
use Rattle.fw_verdict.specs.Way.{stays_within, target_forwarded}
use Rattle.fw_verdict.specs.declared.policies.Stage.TheVariants as stage
use Rattle.lower_dispatch.specs.Uses.{IsChainName, LeadToZones}
use Rattle.lower_hooks.specs.Chains.{IsOnlyBase, base_chain}
use Rattle.lower_hooks.specs.Leads.{BaseLeads, IsForwardTarget, IsInputTarget, IsOutputTarget, IsPolicyChain, Leads}
use Rattle.lower_hooks.specs.Leads.IsForwardTarget.{before as forward_before, behind as forward_behind}
use Rattle.lower_hooks.specs.Leads.IsInputTarget.{before as input_before, behind as input_behind, settings}
use Rattle.lower_hooks.specs.Leads.IsOutputTarget.{before as output_before, behind as output_behind}
use Rattle.lower_hooks.specs.Listed.{decided_rules, forward_rules, icmp_first, input_end, input_rules, jump_where, output_rules, policy_jump, policy_rules, rules_at, target_line, target_rules, within_rules, zone_jump}
use Rattle.lower_hooks.specs.Rules.{always, denial_rules, early_rules, icmp_rules, invalid_rules, known_rules, lo_out, told_of, where_is}
use Rattle.lower_hooks.specs.Settings.{has_settings, has_walk}
use Rattle.lower_match.specs.Stands.{Stand}
use Rattle.lower_zone.proofs.Built.{AreLeaves, all_joined, both, leaves_decision, leaves_line}
use Rattle.lower_zone.specs.Forms.{each, is}
use Rattle.lower_zone.specs.Names.{block_name, policy_block, zone_block}
use Rattle.nf_chains.specs.Condition.{is_plain}
use Rattle.nf_rules.specs.declared.chain.Chain.{Chain}
use Rattle.nf_rules.specs.declared.chain.Hook.{Hook}
use Rattle.nf_rules.specs.declared.rule.Match.{Match}
use Rattle.nf_rules.specs.declared.rule.Rule.{Rule}
use Rattle.nf_rules.specs.declared.statement.Stmt.TheVariants as stmt
use Rattle.nf_rules.specs.declared.test.Test.{Test}
use Rattle.nf_rules.specs.declared.test.Test.TheVariants as test
use Rattle.nf_sound.specs.Names.{chain_of}
use Rattle.nf_sound.specs.Sound.{IsIn as IsNameIn, rule_stands}
use Rattle.nf_sound.specs.Targets.{rule_targets, targets}

-- a name of two lists is one of the first or of the second
either_named : (P : List ℕ → Type 0) (one other : List (List ℕ))
    → ((name : List ℕ) → IsNameIn name one → P name) → ((name : List ℕ) → IsNameIn name other → P name)
    → (name : List ℕ) → IsNameIn name (one ++ other) → P name
either_named P [] other first second name there = second name there
either_named P (next ∷ one) other first second name (inl same) = first name (inl same)
either_named P (next ∷ one) other first second name (inr there) = either_named P one other (λ it is. first it (inr is)) second name there

module _ (config : Config) (To : List ℕ → Type 0) where
  pub leads_nothing : Leads config To []
  leads_nothing = record { stand = λ table there sets. refl; targets = λ maps name among. absurd among; plain = refl }

  pub leads_joined : (one other : List Rule) → Leads config To one → Leads config To other → Leads config To (one ++ other)
  leads_joined one other first second = record {
    stand = λ table there sets. all_joined (rule_stands table) one other (first.stand table there sets) (second.stand table there sets);
    targets = λ maps name among.
        either_named To (rule_targets maps one) (rule_targets maps other) (first.targets maps) (second.targets maps) name
        (subst (λ (names : List (List ℕ)). IsNameIn name names) (flat_map-append (λ (rule : Rule). flat_map (targets maps) rule.stmts) one other) among);
    plain = all_joined (λ (rule : Rule). list_all is_plain rule.stmts) one other first.plain second.plain;
  }

  -- rules that lead nowhere
  leads_nowhere : (made : List Rule) → AreLeaves config made → Leads config To made
  leads_nowhere made leaves = record {
    stand = λ table there sets. leaves.stand table sets;
    targets = λ maps name among. absurd (subst (λ (names : List (List ℕ)). IsNameIn name names) (leaves.nowhere maps) among);
    plain = leaves.plain;
  }

  leads_always : (chosen : Verdict) → Leads config To (always chosen)
  leads_always chosen = leads_nowhere (always chosen) (leaves_decision config chosen ([] ∷ []) (λ table sets. refl))

  leads_where : (asked : Test) (chosen : Verdict) → Stand config.ipsets ((is asked ∷ []) ∷ []) → Leads config To (where_is asked chosen)
  leads_where asked chosen stand = leads_nowhere (where_is asked chosen) (leaves_decision config chosen ((is asked ∷ []) ∷ []) stand)

  pub leads_jump : (some : Bool) (name : List ℕ) → (some ≡ true → To name) → Leads config To (jump_where some name)
  leads_jump false name to = leads_nothing
  leads_jump true name to = record {
    stand = λ table there sets. both (is_some (chain_of table.chains name) && true) true (both (is_some (chain_of table.chains name)) true (there name (to refl)) refl) refl;
    targets = λ maps other among. only other among;
    plain = refl;
  }
    where
      only : (other : List ℕ) → (name ≡ other) ⊎ ⊥ → To other
      only other (inl same) = subst To same (to refl)
      only other (inr never) = absurd never

  leads_decided : (decided : Option Verdict) → Leads config To (decided_rules decided)
  leads_decided None = leads_nothing
  leads_decided (Some chosen) = leads_always chosen

  -- policies lead to the chains of their settings
  leads_policies : (policies : List Policy) → ((name : List ℕ) → IsPolicyChain policies name → To name) → Leads config To (flat_map policy_rules policies)
  leads_policies [] to = leads_nothing
  leads_policies (policy ∷ others) to =
      leads_joined (policy_rules policy) (flat_map policy_rules others)
      (leads_joined (policy_jump policy) (decided_rules (decided_by_target policy.target))
      (leads_jump (has_settings policy.rules) (block_name (policy_block policy.name)) (λ some. to _ (record { policy = policy; listed = inl refl; some = some; is = refl })))
      (leads_decided (decided_by_target policy.target)))
      (leads_policies others (λ name of. to name (record { policy = of.policy; listed = inr of.listed; some = of.some; is = of.is })))

  leads_icmp : Leads config To icmp_rules
  leads_icmp =
      leads_joined (where_is (test.Proto icmp_protocol) verdict.Accept) (where_is (test.Proto icmpv6_protocol) verdict.Accept)
      (leads_where (test.Proto icmp_protocol) verdict.Accept (λ table sets. refl)) (leads_where (test.Proto icmpv6_protocol) verdict.Accept (λ table sets. refl))

  -- lines lead nowhere
  leads_line : (line : LogLine) (alternatives : List (List Match)) → Stand config.ipsets alternatives → Leads config To (each (stmt.Log line ∷ []) alternatives)
  leads_line line alternatives stand = leads_nowhere (each (stmt.Log line ∷ []) alternatives) (leaves_line config line alternatives stand)

  leads_denial : (told : LogDenied) (prefix : List ℕ) → Leads config To (denial_rules [] told prefix)
  leads_denial denied.Off prefix = leads_line (denial prefix) (told_of [] denied.Off) (λ table sets. refl)
  leads_denial denied.All prefix = leads_line (denial prefix) (told_of [] denied.All) (λ table sets. refl)
  leads_denial denied.Unicast prefix = leads_line (denial prefix) (told_of [] denied.Unicast) (λ table sets. refl)
  leads_denial denied.Broadcast prefix = leads_line (denial prefix) (told_of [] denied.Broadcast) (λ table sets. refl)
  leads_denial denied.Multicast prefix = leads_line (denial prefix) (told_of [] denied.Multicast) (λ table sets. refl)

  leads_target : (front : List ℕ) (zone : Zone) → Leads config To (target_rules config front zone)
  leads_target front zone =
      leads_joined (target_line config front zone.name zone.target) (always (target_forwarded zone.target)) (line zone.target) (leads_always (target_forwarded zone.target))
    where
      line : (chosen : ZoneTarget) → Leads config To (target_line config front zone.name chosen)
      line target.Accept = leads_nothing
      line target.Drop = leads_denial config.log_denied (drop_prefix front zone.name)
      line target.Reject = leads_denial config.log_denied (reject_prefix front zone.name)
      line target.Default = leads_denial config.log_denied final_prefix

  leads_icmp_first : (chosen : ZoneTarget) → Leads config To (icmp_first chosen)
  leads_icmp_first target.Accept = leads_nothing
  leads_icmp_first target.Drop = leads_nothing
  leads_icmp_first target.Reject = leads_nothing
  leads_icmp_first target.Default = leads_icmp

  leads_within : (stays : Bool) → Leads config To (if stays then always verdict.Accept else [])
  leads_within true = leads_always verdict.Accept
  leads_within false = leads_nothing

  -- what stands first at the hooks leads nowhere
  known_nowhere : Leads config To known_rules
  known_nowhere =
      leads_joined (where_is (test.State state.Established) verdict.Accept) (where_is (test.State state.Related) verdict.Accept)
      (leads_where (test.State state.Established) verdict.Accept (λ table sets. refl)) (leads_where (test.State state.Related) verdict.Accept (λ table sets. refl))

  abbrev is_invalid : List Match
  is_invalid = is (test.State state.Invalid) ∷ []

  leads_told : (told : LogDenied) → Leads config To (denial_rules is_invalid told invalid_prefix)
  leads_told denied.Off = leads_line (denial invalid_prefix) (told_of is_invalid denied.Off) (λ table sets. refl)
  leads_told denied.All = leads_line (denial invalid_prefix) (told_of is_invalid denied.All) (λ table sets. refl)
  leads_told denied.Unicast = leads_line (denial invalid_prefix) (told_of is_invalid denied.Unicast) (λ table sets. refl)
  leads_told denied.Broadcast = leads_line (denial invalid_prefix) (told_of is_invalid denied.Broadcast) (λ table sets. refl)
  leads_told denied.Multicast = leads_line (denial invalid_prefix) (told_of is_invalid denied.Multicast) (λ table sets. refl)

  pub early_nowhere : Leads config To (early_rules config)
  early_nowhere =
      leads_joined _ (invalid_rules config)
      (leads_joined _ (where_is (test.In (codes "lo")) verdict.Accept)
      (leads_joined known_rules (where_is test.Dnat verdict.Accept) known_nowhere (leads_where test.Dnat verdict.Accept (λ table sets. refl)))
      (leads_where (test.In (codes "lo")) verdict.Accept (λ table sets. refl)))
      (leads_joined (denial_rules is_invalid config.log_denied invalid_prefix) (where_is (test.State state.Invalid) verdict.Drop)
      (leads_told config.log_denied) (leads_where (test.State state.Invalid) verdict.Drop (λ table sets. refl)))

  pub output_nowhere : Leads config To (known_rules ++ lo_out)
  output_nowhere = leads_joined known_rules lo_out known_nowhere (leads_where (test.Out (codes "lo")) verdict.Accept (λ table sets. refl))

-- the rules of bindings lead to the chains of zones
pub leads_zones : (config : Config) (start : List ℕ) (made : List Rule) → LeadToZones config start made → Leads config (IsChainName config start) made
leads_zones config start made leads = record {
  stand = λ table there sets. leads.stand table (λ zone used. there (start ++ zone.name) (record { zone = zone; used = used; is = refl })) sets;
  targets = leads.targets;
  plain = leads.plain;
}

-- a base chain: rules that lead nowhere, and then those of bindings
pub base_leads : (config : Config) (name : List ℕ) (at : Hook) (start : List ℕ) (early dispatched : List Rule) (chains : List Chain)
    → IsOnlyBase (base_chain name at (early ++ dispatched)) chains
    → Leads config (IsChainName config start) early
    → LeadToZones config start dispatched
    → BaseLeads config name at start chains
base_leads config name at start early dispatched chains base nowhere zones = record {
  rules = early ++ dispatched;
  there = base.there;
  leads = leads_joined config (IsChainName config start) early dispatched nowhere (leads_zones config start dispatched zones);
}

-- to the host
pub input_leads : (config : Config) (zone : Zone) → Leads config (IsInputTarget config zone) (input_rules config zone)
input_leads config zone =
    let To = IsInputTarget config zone in
    leads_joined config To _ (input_end config zone)
    (leads_joined config To _ (rules_at config stage.BehindZone (in_zone (Some zone)) at_host)
    (leads_joined config To (rules_at config stage.BeforeZone (in_zone (Some zone)) at_host) (zone_jump zone)
    (leads_policies config To (policies_at config stage.BeforeZone (in_zone (Some zone)) at_host) (λ name of. input_before of))
    (leads_jump config To (has_walk zone) (block_name (zone_block zone.name)) (λ some. settings (record { some = some; is = refl }))))
    (leads_policies config To (policies_at config stage.BehindZone (in_zone (Some zone)) at_host) (λ name of. input_behind of)))
    (leads_joined config To (icmp_first zone.target) (target_rules config input_front zone) (leads_icmp_first config To zone.target) (leads_target config To input_front zone))

-- from a zone to a zone
pub forward_leads : (config : Config) (from to : Zone) → Leads config (IsForwardTarget config from to) (forward_rules config from to)
forward_leads config from to =
    let To = IsForwardTarget config from to in
    leads_joined config To _ (target_rules config forward_front from)
    (leads_joined config To _ (rules_at config stage.BehindZone (in_zone (Some from)) (in_zone (Some to)))
    (leads_joined config To (rules_at config stage.BeforeZone (in_zone (Some from)) (in_zone (Some to))) (within_rules from to)
    (leads_policies config To (policies_at config stage.BeforeZone (in_zone (Some from)) (in_zone (Some to))) (λ name of. forward_before of))
    (leads_within config To (stays_within (Some from) (Some to))))
    (leads_policies config To (policies_at config stage.BehindZone (in_zone (Some from)) (in_zone (Some to))) (λ name of. forward_behind of)))
    (leads_target config To forward_front from)

-- from the host to a zone
pub output_leads : (config : Config) (zone : Zone) → Leads config (IsOutputTarget config zone) (output_rules config zone)
output_leads config zone =
    let To = IsOutputTarget config zone in
    leads_joined config To _ (always verdict.Accept)
    (leads_joined config To (rules_at config stage.BeforeZone at_host (in_zone (Some zone))) (rules_at config stage.BehindZone at_host (in_zone (Some zone)))
    (leads_policies config To (policies_at config stage.BeforeZone at_host (in_zone (Some zone))) (λ name of. output_before of))
    (leads_policies config To (policies_at config stage.BehindZone at_host (in_zone (Some zone))) (λ name of. output_behind of)))
    (leads_always config To verdict.Accept)
