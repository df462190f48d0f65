-- The compiled ruleset is sound: all that its rules name is there, and no path has more than five links.
use Rattle.std.proofs.Common.{◌≡◌, ◌∙◌, inl, inr, ◌≤◌, arith, ℕ, suc, true, List, [], ◌∷◌, ◌++◌, Option, None, Some, refl, sym, ap, subst}
use Rattle.std.specs.Prelude.{codes, is_some}
use Rattle.std.specs.List.{list_all}
use Rattle.fw_model.specs.declared.config.Config.{Config}
use Rattle.fw_model.specs.declared.zone.Zone.{Zone}
use Rattle.fw_verdict.specs.Policies.{End, policies_at}
use Rattle.fw_verdict.specs.Policies.End.{at_host, in_zone}
use Rattle.fw_verdict.specs.declared.policies.Stage.{Stage}
use Rattle.fw_verdict.specs.declared.policies.Stage.TheVariants as stage
use Rattle.fw_verdict.specs.declared.sides.Side.{Side}
use Rattle.fw_zone.specs.Lists.{IsIn}
use Rattle.lower_all.specs.Joined.{used_zones}
use Rattle.lower_all.proofs.Among.{all_of_each, each_of_all, of_flat_map, of_map}
use Rattle.lower_all.proofs.Called.{called_is}
use Rattle.lower_all.proofs.Parts.{HasParts, are_side, block_there, each_chain, in_forwards, in_inputs, in_outputs, in_settings, same_chain, side_of, side_there}
use Rattle.lower_all.proofs.Working.{used_is_listed, zone_is_told}
use Rattle.lower_blocks.proofs.Lists.{in_map}
use Rattle.lower_blocks.specs.Blocks.{Told, block_of}
use Rattle.lower_blocks.specs.Blocks.Told.{of_policy, of_zone}
use Rattle.lower_blocks.specs.Needed.{ActingPoliciesAreTold, IsEnd, all_told}
use Rattle.lower_blocks.proofs.There.{block_is_in, of_some_block}
use Rattle.lower_changes.specs.Stands.{SidesHold}
use Rattle.lower_dispatch.specs.Uses.{IsChainName}
use Rattle.lower_hooks.specs.Chains.{base_chain}
use Rattle.lower_hooks.specs.Leads.{IsForwardTarget, IsInputTarget, IsOutputTarget, IsPolicyChain, IsZoneChain, Leads}
use Rattle.lower_hooks.specs.Leads.IsForwardTarget.{before as before_forward, behind as behind_forward}
use Rattle.lower_hooks.specs.Leads.IsInputTarget.{before as before_input, settings, behind as behind_input}
use Rattle.lower_hooks.specs.Leads.IsOutputTarget.{before as before_output, behind as behind_output}
use Rattle.lower_hooks.specs.Names.{forward_names, forward_start, from_names, input_start, output_start, pair_start, zone_names}
use Rattle.lower_zone.specs.Forms.{chain_named}
use Rattle.lower_zone.specs.Names.{block_name}
use Rattle.nf_rules.specs.declared.chain.Chain.{Chain}
use Rattle.nf_rules.specs.declared.chain.Hook.TheVariants as hook
use Rattle.nf_rules.specs.declared.map.NfMap.{NfMap}
use Rattle.nf_rules.specs.declared.ruleset.Ruleset.{Ruleset}
use Rattle.nf_sound.specs.Names.{AreByName, chain_of}
use Rattle.nf_sound.specs.Sound.{IsIn as IsNameIn, Path, SoundRules, map_stands, rule_stands}
use Rattle.nf_sound.specs.Sound.Path.{link, stays}
use Rattle.nf_sound.specs.Targets.{rule_targets}

-- no path from a name has more links
abbrev Within : Ruleset → ℕ → List ℕ → Type 0
Within rules most name = (links : ℕ) → Path rules name links → links ≤ most

-- a chain of a name is there, from which no path has more links
record Reaches (rules : Ruleset) (most : ℕ) (name : List ℕ) : Type 0 where
  chain : Chain
  found : chain_of rules.chains name ≡ Some chain
  short : Within rules most name

-- all that a chain's rules name is there, and no path from it has more links
record Holds (rules : Ruleset) (most : ℕ) (chain : Chain) : Type 0 where
  stand : list_all (rule_stands rules) chain.rules ≡ true
  short : Within rules most chain.name

-- the chain of a name is such
abbrev Named : Ruleset → Chain → List ℕ → Type 0
Named rules chain name = name ≡ chain.name → Holds rules 5 chain

-- from a chain one link more than behind its rules
within_more : (rules : Ruleset) (most : ℕ) (name : List ℕ) (chain : Chain)
    → chain_of rules.chains name ≡ Some chain
    → ((to : List ℕ) → IsNameIn to (rule_targets rules.maps chain.rules) → Within rules most to)
    → {links : ℕ} → Path rules name links → links ≤ suc most
within_more rules most name chain found next stays = omega arith
within_more rules most name chain found next (link {to = to} {chain = other} {links = links} there among rest) =
    let same : other ≡ chain = cc in
    let few = next to (subst (λ (one : Chain). IsNameIn to (rule_targets rules.maps one.rules)) same among) links rest in
    omega arith

-- more links may be
holds_more : (rules : Ruleset) (most more : ℕ) (chain : Chain) → most ≤ more → Holds rules most chain → Holds rules more chain
holds_more rules most more chain le holds = record {
  stand = holds.stand;
  short = λ links path. (let few = holds.short links path in omega arith);
}

module _ (config : Config) (rules : Ruleset) (parts : HasParts config rules) where
  -- a chain whose rules lead to such
  leads_on : (To : List ℕ → Type 0) (most : ℕ) (chain : Chain) → IsIn chain rules.chains → Leads config To chain.rules
      → ((name : List ℕ) → To name → Reaches rules most name)
      → Holds rules (suc most) chain
  leads_on To most chain among leads reach = record {
    stand = leads.stand rules (λ name is. ap is_some (reach name is).found) parts.has_sets;
    short = λ links path.
        within_more rules most chain.name chain (parts.found chain among) (λ to is. (reach to (leads.targets rules.maps to is)).short) path;
  }

  reached : (most : ℕ) (chain : Chain) → IsIn chain rules.chains → Holds rules most chain → Reaches rules most chain.name
  reached most chain among holds = record { chain = chain; found = parts.found chain among; short = holds.short }

  -- the chain of a name is one that is known
  known : (most : ℕ) (one chain : Chain) → IsIn one rules.chains → IsIn chain rules.chains → Holds rules most one → one.name ≡ chain.name → Holds rules most chain
  known most one chain first second holds same =
      subst (λ (it : Chain). Holds rules most it) (same_chain config rules parts one chain first second same) holds

  -- chains of settings
  block_reached : (one : Told) → IsIn one (all_told config (used_zones config)) → Reaches rules 2 (block_name (block_of one))
  block_reached one told =
      let block = block_is_in config (all_told config (used_zones config)) parts.joined.settings one parts.joined.blocks told in
      let stands = block.is.stands in
      subst (λ (name : List ℕ). Reaches rules 2 name) stands.entry_named
      (record {
        chain = stands.entry;
        found = parts.found stands.entry (in_settings config rules parts stands.entry (block.among stands.entry stands.entry_is_in));
        short = λ links path. stands.short rules (block_there config rules parts one block) stands.entry stands.entry_is_in links path;
      })

  settings_hold : (chain : Chain) → IsIn chain parts.joined.settings → Holds rules 5 chain
  settings_hold chain among =
      let found = of_some_block config (all_told config (used_zones config)) parts.joined.settings parts.joined.blocks chain among in
      let there : (one : Chain) → IsIn one found.block → chain_of rules.chains one.name ≡ Some one =
      λ one is. parts.found one (in_settings config rules parts one (found.among one is)) in
      record {
        stand = each_of_all (λ (one : Chain). list_all (rule_stands rules) one.rules) found.block (found.is.stands.stand rules there parts.has_sets) chain found.chain_in;
        short = λ links path. (let few = found.is.stands.short rules there chain found.chain_in links path in omega arith);
      }

  zone_reached : (zone : Zone) → IsIn zone (used_zones config) → (name : List ℕ) → IsZoneChain zone name → Reaches rules 2 name
  zone_reached zone among name is =
      subst (λ (one : List ℕ). Reaches rules 2 one) (sym is.is) (block_reached (of_zone zone) (zone_is_told config rules parts zone among is.some))

  -- chains outside the filter
  side_holds : SidesHold → (of : Side) (chain : Chain) → IsIn chain (side_of parts.joined.sides of) → Holds rules 5 chain
  side_holds hold of chain among =
      let stands = hold config of (used_zones config) (side_of parts.joined.sides of) rules
      (are_side config (used_zones config) parts.joined.outside parts.joined.sides of)
      (side_there config rules parts of) parts.has_sets (used_is_listed config rules parts) in
      record {
        stand = each_of_all (λ (one : Chain). list_all (rule_stands rules) one.rules) (side_of parts.joined.sides of) stands.rules_stand chain among;
        short = λ links path. (let few = stands.short chain among links path in omega arith);
      }

  module _ (acting : ActingPoliciesAreTold) where
    policy_reached : (at : Stage) (from to : End) → IsEnd (used_zones config) from → IsEnd (used_zones config) to
        → (name : List ℕ) → IsPolicyChain (policies_at config at from to) name → Reaches rules 2 name
    policy_reached at from to is_from is_to name is =
        subst (λ (one : List ℕ). Reaches rules 2 one) (sym is.is)
        (block_reached (of_policy is.policy) (acting config (used_zones config) at from to is.policy is_from is_to is.listed is.some))

    input_target : (zone : Zone) → IsIn zone (used_zones config) → (name : List ℕ) → IsInputTarget config zone name → Reaches rules 2 name
    input_target zone among name (before_input is) = policy_reached stage.BeforeZone (in_zone (Some zone)) at_host among tt name is
    input_target zone among name (settings is) = zone_reached zone among name is
    input_target zone among name (behind_input is) = policy_reached stage.BehindZone (in_zone (Some zone)) at_host among tt name is

    forward_target : (from to : Zone) → IsIn from (used_zones config) → IsIn to (used_zones config)
        → (name : List ℕ) → IsForwardTarget config from to name → Reaches rules 2 name
    forward_target from to is_from is_to name (before_forward is) = policy_reached stage.BeforeZone (in_zone (Some from)) (in_zone (Some to)) is_from is_to name is
    forward_target from to is_from is_to name (behind_forward is) = policy_reached stage.BehindZone (in_zone (Some from)) (in_zone (Some to)) is_from is_to name is

    output_target : (zone : Zone) → IsIn zone (used_zones config) → (name : List ℕ) → IsOutputTarget config zone name → Reaches rules 2 name
    output_target zone among name (before_output is) = policy_reached stage.BeforeZone at_host (in_zone (Some zone)) tt among name is
    output_target zone among name (behind_output is) = policy_reached stage.BehindZone at_host (in_zone (Some zone)) tt among name is

    -- chains at input
    input_zone : (zone : Zone) (among : IsIn zone (used_zones config))
        → Holds rules 3 (chain_named (input_start ++ zone.name) (parts.joined.input_leads.zone zone among).rules)
    input_zone zone among =
        let has = parts.joined.input_leads.zone zone among in
        leads_on (IsInputTarget config zone) 2 (chain_named (input_start ++ zone.name) has.rules)
        (in_inputs config rules parts _ has.there) has.leads (input_target zone among)

    input_zones : (name : List ℕ) → IsChainName config input_start name → Reaches rules 3 name
    input_zones name is =
        let among = used_is_listed config rules parts is.zone is.used in
        let has = parts.joined.input_leads.zone is.zone among in
        subst (λ (one : List ℕ). Reaches rules 3 one) (sym is.is)
        (reached 3 (chain_named (input_start ++ is.zone.name) has.rules) (in_inputs config rules parts _ has.there) (input_zone is.zone among))

    input_holds : (chain : Chain) → IsIn chain parts.joined.inputs → Holds rules 5 chain
    input_holds chain among =
        by (subst (λ (names : List (List ℕ)). IsIn chain.name names) parts.joined.input_names
        (in_map (λ (one : Chain). one.name) chain parts.joined.inputs among))
      where
        of_zones : IsIn chain.name (zone_names input_start (used_zones config)) → Holds rules 5 chain
        of_zones there =
            of_map (Named rules chain) (λ (zone : Zone). input_start ++ zone.name) (used_zones config)
            (λ zone is same.
            let has = parts.joined.input_leads.zone zone is in
            known 5 (chain_named (input_start ++ zone.name) has.rules) chain (in_inputs config rules parts _ has.there) (in_inputs config rules parts chain among)
            (holds_more rules 3 5 _ (omega arith) (input_zone zone is)) same)
            chain.name there refl

        by : IsIn chain.name (codes "filter_INPUT" ∷ zone_names input_start (used_zones config)) → Holds rules 5 chain
        by (inl same) =
            let base = parts.joined.input_leads.base in
            known 5 (base_chain (codes "filter_INPUT") hook.Input base.rules) chain (in_inputs config rules parts _ base.there) (in_inputs config rules parts chain among)
            (holds_more rules 4 5 _ (omega arith)
            (leads_on (IsChainName config input_start) 3 (base_chain (codes "filter_INPUT") hook.Input base.rules) (in_inputs config rules parts _ base.there) base.leads input_zones))
            same
        by (inr there) = of_zones there

    -- chains at output
    output_zone : (zone : Zone) (among : IsIn zone (used_zones config))
        → Holds rules 3 (chain_named (output_start ++ zone.name) (parts.joined.output_leads.zone zone among).rules)
    output_zone zone among =
        let has = parts.joined.output_leads.zone zone among in
        leads_on (IsOutputTarget config zone) 2 (chain_named (output_start ++ zone.name) has.rules)
        (in_outputs config rules parts _ has.there) has.leads (output_target zone among)

    output_zones : (name : List ℕ) → IsChainName config output_start name → Reaches rules 3 name
    output_zones name is =
        let among = used_is_listed config rules parts is.zone is.used in
        let has = parts.joined.output_leads.zone is.zone among in
        subst (λ (one : List ℕ). Reaches rules 3 one) (sym is.is)
        (reached 3 (chain_named (output_start ++ is.zone.name) has.rules) (in_outputs config rules parts _ has.there) (output_zone is.zone among))

    output_holds : (chain : Chain) → IsIn chain parts.joined.outputs → Holds rules 5 chain
    output_holds chain among =
        by (subst (λ (names : List (List ℕ)). IsIn chain.name names) parts.joined.output_names
        (in_map (λ (one : Chain). one.name) chain parts.joined.outputs among))
      where
        of_zones : IsIn chain.name (zone_names output_start (used_zones config)) → Holds rules 5 chain
        of_zones there =
            of_map (Named rules chain) (λ (zone : Zone). output_start ++ zone.name) (used_zones config)
            (λ zone is same.
            let has = parts.joined.output_leads.zone zone is in
            known 5 (chain_named (output_start ++ zone.name) has.rules) chain (in_outputs config rules parts _ has.there) (in_outputs config rules parts chain among)
            (holds_more rules 3 5 _ (omega arith) (output_zone zone is)) same)
            chain.name there refl

        by : IsIn chain.name (codes "filter_OUTPUT" ∷ zone_names output_start (used_zones config)) → Holds rules 5 chain
        by (inl same) =
            let base = parts.joined.output_leads.base in
            known 5 (base_chain (codes "filter_OUTPUT") hook.Output base.rules) chain (in_outputs config rules parts _ base.there) (in_outputs config rules parts chain among)
            (holds_more rules 4 5 _ (omega arith)
            (leads_on (IsChainName config output_start) 3 (base_chain (codes "filter_OUTPUT") hook.Output base.rules) (in_outputs config rules parts _ base.there) base.leads output_zones))
            same
        by (inr there) = of_zones there

    -- chains at forward
    pair_holds : (from to : Zone) (is_from : IsIn from (used_zones config)) (is_to : IsIn to (used_zones config))
        → Holds rules 3 (chain_named (pair_start from.name ++ to.name) (parts.joined.forward_leads.pair from to is_from is_to).rules)
    pair_holds from to is_from is_to =
        let has = parts.joined.forward_leads.pair from to is_from is_to in
        leads_on (IsForwardTarget config from to) 2 (chain_named (pair_start from.name ++ to.name) has.rules)
        (in_forwards config rules parts _ has.there) has.leads (forward_target from to is_from is_to)

    pairs : (from : Zone) → IsIn from (used_zones config) → (name : List ℕ) → IsChainName config (pair_start from.name) name → Reaches rules 3 name
    pairs from is_from name is =
        let among = used_is_listed config rules parts is.zone is.used in
        let has = parts.joined.forward_leads.pair from is.zone is_from among in
        subst (λ (one : List ℕ). Reaches rules 3 one) (sym is.is)
        (reached 3 (chain_named (pair_start from.name ++ is.zone.name) has.rules) (in_forwards config rules parts _ has.there) (pair_holds from is.zone is_from among))

    from_holds : (from : Zone) (is_from : IsIn from (used_zones config))
        → Holds rules 4 (chain_named (forward_start ++ from.name) (parts.joined.forward_leads.from from is_from).rules)
    from_holds from is_from =
        let has = parts.joined.forward_leads.from from is_from in
        leads_on (IsChainName config (pair_start from.name)) 3 (chain_named (forward_start ++ from.name) has.rules)
        (in_forwards config rules parts _ has.there) has.leads (pairs from is_from)

    forward_zones : (name : List ℕ) → IsChainName config forward_start name → Reaches rules 4 name
    forward_zones name is =
        let among = used_is_listed config rules parts is.zone is.used in
        let has = parts.joined.forward_leads.from is.zone among in
        subst (λ (one : List ℕ). Reaches rules 4 one) (sym is.is)
        (reached 4 (chain_named (forward_start ++ is.zone.name) has.rules) (in_forwards config rules parts _ has.there) (from_holds is.zone among))

    forward_holds : (chain : Chain) → IsIn chain parts.joined.forwards → Holds rules 5 chain
    forward_holds chain among =
        by (subst (λ (names : List (List ℕ)). IsIn chain.name names) parts.joined.forward_names
        (in_map (λ (one : Chain). one.name) chain parts.joined.forwards among))
      where
        of_pairs : (from : Zone) → IsIn from (used_zones config) → (name : List ℕ) → IsIn name (zone_names (pair_start from.name) (used_zones config)) → Named rules chain name
        of_pairs from is_from name there =
            of_map (Named rules chain) (λ (zone : Zone). pair_start from.name ++ zone.name) (used_zones config)
            (λ zone is same.
            let has = parts.joined.forward_leads.pair from zone is_from is in
            known 5 (chain_named (pair_start from.name ++ zone.name) has.rules) chain (in_forwards config rules parts _ has.there) (in_forwards config rules parts chain among)
            (holds_more rules 3 5 _ (omega arith) (pair_holds from zone is_from is)) same)
            name there

        of_from : (from : Zone) → IsIn from (used_zones config) → (name : List ℕ) → IsIn name (from_names (used_zones config) from) → Named rules chain name
        of_from from is_from name (inl first) same =
            let has = parts.joined.forward_leads.from from is_from in
            known 5 (chain_named (forward_start ++ from.name) has.rules) chain (in_forwards config rules parts _ has.there) (in_forwards config rules parts chain among)
            (holds_more rules 4 5 _ (omega arith) (from_holds from is_from)) (first ∙ same)
        of_from from is_from name (inr there) same = of_pairs from is_from name there same

        by : IsIn chain.name (codes "filter_FORWARD" ∷ forward_names (used_zones config) (used_zones config)) → Holds rules 5 chain
        by (inl same) =
            let base = parts.joined.forward_leads.base in
            known 5 (base_chain (codes "filter_FORWARD") hook.Forward base.rules) chain (in_forwards config rules parts _ base.there) (in_forwards config rules parts chain among)
            (leads_on (IsChainName config forward_start) 4 (base_chain (codes "filter_FORWARD") hook.Forward base.rules) (in_forwards config rules parts _ base.there) base.leads forward_zones)
            same
        by (inr there) = of_flat_map (Named rules chain) (from_names (used_zones config)) (used_zones config) of_from chain.name there refl

    -- all chains
    each_holds : SidesHold → (chain : Chain) → IsIn chain rules.chains → Holds rules 5 chain
    each_holds hold = each_chain config rules parts (λ chain. Holds rules 5 chain) input_holds forward_holds output_holds settings_hold (side_holds hold)

    short_of : SidesHold → (name : List ℕ) (found : Option Chain) → chain_of rules.chains name ≡ found → Within rules 16 name
    short_of hold name None is links path = none path
      where
        none : {links : ℕ} → Path rules name links → links ≤ 16
        none stays = omega arith
        none (link there among rest) = cc
    short_of hold name (Some chain) is links path =
        let here = called_is (λ (one : Chain). one.name) name rules.chains chain is in
        let few = (each_holds hold chain here.among).short links (subst (λ (one : List ℕ). Path rules one links) (sym here.named) path) in
        omega arith

    pub is_sound : SidesHold → AreByName rules → rules.maps ≡ [] → SoundRules rules
    is_sound hold ordered no_map = record {
      rules_stand = all_of_each (λ (chain : Chain). list_all (rule_stands rules) chain.rules) rules.chains (λ chain among. (each_holds hold chain among).stand);
      maps_stand = ap (λ (maps : List NfMap). list_all (map_stands rules) maps) no_map;
      by_name = ordered;
      short = λ name links path. short_of hold name (chain_of rules.chains name) refl links path;
    }
