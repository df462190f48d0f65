-- The compiled ruleset is one in which the hooks' chains work: the chains that they lead to are there.
use Rattle.std.proofs.Common.{◌≡◌, ◌∙◌, ◌⊎◌, inl, inr, true, false, map, filter, Option, None, Some, refl, ap}
use Rattle.std.specs.Prelude.{codes}
use Rattle.fw_model.specs.declared.config.Config.{Config}
use Rattle.fw_model.specs.declared.zone.Zone.{Zone}
use Rattle.fw_verdict.specs.Policies.{End, policies_at}
use Rattle.fw_verdict.specs.Policies.End.{at_host, in_zone}
use Rattle.fw_verdict.specs.declared.policies.Stage.{Stage}
use Rattle.fw_verdict.specs.declared.policies.Stage.TheVariants as stage
use Rattle.fw_verdict.specs.declared.sides.Side.TheVariants as side
use Rattle.fw_zone.specs.Lists.{IsIn}
use Rattle.lower_all.specs.Joined.{used_zones}
use Rattle.lower_all.proofs.Among.{both, in_filter, of_filter}
use Rattle.lower_all.proofs.Bases.{StandsAs, at_postrouting, at_prerouting, each_stands, side_works}
use Rattle.lower_all.proofs.Bases.StandsAs.{at_forward, at_input, at_output, of_side, plain}
use Rattle.lower_all.proofs.Laws.{SideLaws}
use Rattle.lower_all.proofs.Parts.{HasParts, block_there, forwards_there, in_forwards, in_inputs, in_outputs, inputs_there, outputs_there}
use Rattle.lower_blocks.proofs.Lists.{in_first, in_map}
use Rattle.lower_blocks.specs.Blocks.{Told, block_of, walk_of}
use Rattle.lower_blocks.specs.Blocks.Told.{of_policy, of_zone}
use Rattle.lower_blocks.specs.Needed.{ActingPoliciesAreTold, IsEnd, all_told, is_needed, is_told}
use Rattle.lower_blocks.proofs.There.{block_is_in}
use Rattle.lower_changes.specs.Chains.{base_of}
use Rattle.lower_changes.specs.Hooks.{SidesStand}
use Rattle.lower_dispatch.specs.Uses.{IsUsed, is_in_use}
use Rattle.lower_hooks.specs.Chains.{base_chain}
use Rattle.lower_hooks.specs.Laws.{OneRunsAtEach}
use Rattle.lower_hooks.specs.Settings.{has_walk}
use Rattle.lower_hooks.specs.Stands.{AreBases, IsElsewhere, Works}
use Rattle.lower_hooks.specs.Work.{JumpDoes, PoliciesStand, ZoneStands}
use Rattle.lower_zone.specs.Names.{block_name}
use Rattle.nf_chains.specs.Hooks.{is_at}
use Rattle.nf_rules.specs.declared.chain.Base.{Base}
use Rattle.nf_rules.specs.declared.chain.Chain.{Chain}
use Rattle.nf_rules.specs.declared.chain.Hook.TheVariants as hook
use Rattle.nf_rules.specs.declared.ruleset.Ruleset.{Ruleset}

-- it stands at none of the three hooks
elsewhere : (chain : Chain) (base : Option Base) → chain.base ≡ base
    → is_at hook.Input base ≡ false → is_at hook.Forward base ≡ false → is_at hook.Output base ≡ false
    → IsElsewhere chain
elsewhere chain base is input forward output = record {
  input = ap (is_at hook.Input) is ∙ input;
  forward = ap (is_at hook.Forward) is ∙ forward;
  output = ap (is_at hook.Output) is ∙ output;
}

module _ (config : Config) (rules : Ruleset) (parts : HasParts config rules) where
  -- each block of settings does what its settings do
  block_does : (one : Told) → IsIn one (all_told config (used_zones config)) → JumpDoes config rules (block_name (block_of one)) (walk_of config one)
  block_does one told leaving now meeting =
      let block = block_is_in config (all_told config (used_zones config)) parts.joined.settings one parts.joined.blocks told in
      block.is.evaluates rules leaving now (block_there config rules parts one block) meeting

  -- a zone in use is told where it has settings
  pub zone_is_told : (zone : Zone) → IsIn zone (used_zones config) → has_walk zone ≡ true → IsIn (of_zone zone) (all_told config (used_zones config))
  zone_is_told zone among some =
      in_first (of_zone zone) (map of_zone (filter (is_told config) config.zones)) (map of_policy (filter (is_needed (used_zones config)) config.policies))
      (in_map of_zone zone (filter (is_told config) config.zones)
      (of_filter (λ (one : Zone). has_walk one ≡ true → IsIn one (filter (is_told config) config.zones)) (is_in_use config) config.zones
      (λ one listed used walk. in_filter (is_told config) one config.zones (both (is_in_use config one) (has_walk one) used walk) listed)
      zone among some))

  pub used_is_listed : (zone : Zone) → IsUsed config zone → IsIn zone (used_zones config)
  used_is_listed zone is = in_filter (is_in_use config) zone config.zones is.used is.listed

  zone_stands : (zone : Zone) → IsIn zone (used_zones config) → ZoneStands config rules zone
  zone_stands zone among some = block_does (of_zone zone) (zone_is_told zone among some)

  -- No other base chain than these stands in the filter.
  are_bases : SideLaws → AreBases rules.chains parts.joined.input.rules parts.joined.forward.rules parts.joined.output.rules
  are_bases laws chain there = by (each_stands laws config rules parts chain there)
    where
      by : StandsAs laws config rules parts chain
          → IsElsewhere chain
          ⊎ ((chain ≡ base_chain (codes "filter_INPUT") hook.Input parts.joined.input.rules)
          ⊎ ((chain ≡ base_chain (codes "filter_FORWARD") hook.Forward parts.joined.forward.rules)
          ⊎ (chain ≡ base_chain (codes "filter_OUTPUT") hook.Output parts.joined.output.rules)))
      by (plain is) = inl (elsewhere chain None is refl refl refl)
      by (at_input is) = inr (inl is)
      by (at_forward is) = inr (inr (inl is))
      by (at_output is) = inr (inr (inr is))
      by (of_side side.Marked is among) = inl (elsewhere chain (Some (base_of side.Marked)) is refl refl refl)
      by (of_side side.Translated is among) = inl (elsewhere chain (Some (base_of side.Translated)) is refl refl refl)
      by (of_side side.Leaving is among) = inl (elsewhere chain (Some (base_of side.Leaving)) is refl refl refl)

  module _ (acting : ActingPoliciesAreTold) where
    policies_stand : (at : Stage) (from to : End) → IsEnd (used_zones config) from → IsEnd (used_zones config) to
        → PoliciesStand config rules (policies_at config at from to)
    policies_stand at from to is_from is_to policy listed some =
        block_does (of_policy policy) (acting config (used_zones config) at from to policy is_from is_to listed some)

    pub all_works : SideLaws → OneRunsAtEach → Works config rules
    all_works laws one_runs = record {
      zones = used_zones config;
      inputs = parts.joined.inputs;
      forwards = parts.joined.forwards;
      outputs = parts.joined.outputs;
      input = parts.joined.input;
      forward = parts.joined.forward;
      output = parts.joined.output;
      inputs_there = inputs_there config rules parts;
      forwards_there = forwards_there config rules parts;
      outputs_there = outputs_there config rules parts;
      bases = one_runs rules parts.joined.input.rules parts.joined.forward.rules parts.joined.output.rules (are_bases laws)
          (in_inputs config rules parts _ parts.joined.input.base.there)
          (in_forwards config rules parts _ parts.joined.forward.base.there)
          (in_outputs config rules parts _ parts.joined.output.base.there);
      sets = parts.sets;
      used = used_is_listed;
      default = parts.default;
      to_host = λ zone among. record {
        before = policies_stand stage.BeforeZone (in_zone (Some zone)) at_host among tt;
        settings = zone_stands zone among;
        behind = policies_stand stage.BehindZone (in_zone (Some zone)) at_host among tt;
      };
      to_zone = λ from to is_from is_to. record {
        before = policies_stand stage.BeforeZone (in_zone (Some from)) (in_zone (Some to)) is_from is_to;
        behind = policies_stand stage.BehindZone (in_zone (Some from)) (in_zone (Some to)) is_from is_to;
      };
      from_host = λ zone among. record {
        before = policies_stand stage.BeforeZone at_host (in_zone (Some zone)) tt among;
        behind = policies_stand stage.BehindZone at_host (in_zone (Some zone)) tt among;
      };
    }

  -- the chains outside the filter stand there
  pub sides_stand : SideLaws → SidesStand config (used_zones config) rules parts.joined.sides.marks parts.joined.sides.targets parts.joined.sides.masks
  sides_stand laws = record {
    marked = side_works laws config rules parts side.Marked;
    translated = side_works laws config rules parts side.Translated;
    leaving = side_works laws config rules parts side.Leaving;
    at_prerouting = at_prerouting laws config rules parts;
    at_postrouting = at_postrouting laws config rules parts;
    sets = parts.sets;
    used = used_is_listed;
    default = parts.default;
  }
