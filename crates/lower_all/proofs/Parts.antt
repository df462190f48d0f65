-- A ruleset in which each chain is found by its name, and which has the chains of the hooks and of settings.
use Rattle.std.proofs.Common.{◌≡◌, ◌∙◌, List, ◌++◌, Some, sym, ap, subst}
use Rattle.std.specs.Prelude.{IsSome}
use Rattle.fw_hits.specs.Bindings.{default_zone}
use Rattle.fw_model.specs.declared.config.Config.{Config}
use Rattle.fw_model.specs.declared.zone.Zone.{Zone}
use Rattle.fw_verdict.specs.declared.sides.Side.{Side}
use Rattle.fw_verdict.specs.declared.sides.Side.TheVariants as side
use Rattle.fw_zone.specs.Lists.{IsIn}
use Rattle.lower_all.specs.Joined.{AreJoined, AreOutside, used_zones}
use Rattle.lower_all.proofs.Among.{in_both}
use Rattle.lower_blocks.proofs.Lists.{in_first, in_second}
use Rattle.lower_blocks.specs.Blocks.{Told}
use Rattle.lower_blocks.proofs.There.{BlockIn}
use Rattle.lower_changes.specs.Sides.{IsSide}
use Rattle.lower_match.specs.Lowers.{EachStands}
use Rattle.lower_match.specs.Stands.{EachHasSet}
use Rattle.lower_zone.specs.Evaluates.{EachIsThere}
use Rattle.nf_rules.specs.declared.chain.Chain.{Chain}
use Rattle.nf_rules.specs.declared.ruleset.Ruleset.{Ruleset}
use Rattle.nf_sound.specs.Names.{chain_of}

-- the chains in the filter, and all chains
abbrev pub filter_of : {config : Config} {chains : List Chain} → AreJoined config chains → List Chain
filter_of joined = ((joined.inputs ++ joined.forwards) ++ joined.outputs) ++ joined.settings

abbrev pub all_of : {config : Config} {chains : List Chain} → AreJoined config chains → List Chain
all_of joined = filter_of joined ++ joined.outside

-- the chains of a side
abbrev pub side_of : {config : Config} {zones : List Zone} {chains : List Chain} → AreOutside config zones chains → Side → List Chain
side_of sides side.Marked = sides.marks
side_of sides side.Translated = sides.targets
side_of sides side.Leaving = sides.masks

module _ (config : Config) (zones : List Zone) (chains : List Chain) (sides : AreOutside config zones chains) where
  pub are_side : (of : Side) → IsSide config of zones (side_of sides of)
  are_side side.Marked = sides.marked
  are_side side.Translated = sides.translated
  are_side side.Leaving = sides.leaving

  -- what holds of the chains of each side holds of each chain outside the filter
  pub each_outside : (P : Chain → Type 0) → ((of : Side) (chain : Chain) → IsIn chain (side_of sides of) → P chain) → (chain : Chain) → IsIn chain chains → P chain
  each_outside P each chain among =
      in_both P (sides.marks ++ sides.targets) sides.masks (in_both P sides.marks sides.targets (each side.Marked) (each side.Translated)) (each side.Leaving) chain
      (subst (λ (list : List Chain). IsIn chain list) sides.are among)

  pub from_side : (of : Side) (chain : Chain) → IsIn chain (side_of sides of) → IsIn chain chains
  from_side of chain among = subst (λ (list : List Chain). IsIn chain list) (sym sides.are) (by of among)
    where
      by : (of : Side) → IsIn chain (side_of sides of) → IsIn chain ((sides.marks ++ sides.targets) ++ sides.masks)
      by side.Marked here = in_first chain (sides.marks ++ sides.targets) sides.masks (in_first chain sides.marks sides.targets here)
      by side.Translated here = in_first chain (sides.marks ++ sides.targets) sides.masks (in_second chain sides.marks sides.targets here)
      by side.Leaving here = in_second chain (sides.marks ++ sides.targets) sides.masks here

pub record HasParts (config : Config) (rules : Ruleset) : Type 0 where
  pub joined : AreJoined config rules.chains
  -- all chains are there, and no others
  pub there : (chain : Chain) → IsIn chain (all_of joined) → IsIn chain rules.chains
  pub only : (chain : Chain) → IsIn chain rules.chains → IsIn chain (all_of joined)
  -- each is found by its name
  pub found : (chain : Chain) → IsIn chain rules.chains → chain_of rules.chains chain.name ≡ Some chain
  pub sets : EachStands config.ipsets rules.sets
  pub has_sets : EachHasSet config.ipsets rules
  pub default : IsSome (default_zone config)

module _ (config : Config) (rules : Ruleset) (parts : HasParts config rules) where
  in_filter : (chain : Chain) → IsIn chain (filter_of parts.joined) → IsIn chain rules.chains
  in_filter chain among = parts.there chain (in_first chain (filter_of parts.joined) parts.joined.outside among)

  pub in_inputs : (chain : Chain) → IsIn chain parts.joined.inputs → IsIn chain rules.chains
  in_inputs chain among =
      in_filter chain
      (in_first chain ((parts.joined.inputs ++ parts.joined.forwards) ++ parts.joined.outputs) parts.joined.settings
      (in_first chain (parts.joined.inputs ++ parts.joined.forwards) parts.joined.outputs
      (in_first chain parts.joined.inputs parts.joined.forwards among)))

  pub in_forwards : (chain : Chain) → IsIn chain parts.joined.forwards → IsIn chain rules.chains
  in_forwards chain among =
      in_filter chain
      (in_first chain ((parts.joined.inputs ++ parts.joined.forwards) ++ parts.joined.outputs) parts.joined.settings
      (in_first chain (parts.joined.inputs ++ parts.joined.forwards) parts.joined.outputs
      (in_second chain parts.joined.inputs parts.joined.forwards among)))

  pub in_outputs : (chain : Chain) → IsIn chain parts.joined.outputs → IsIn chain rules.chains
  in_outputs chain among =
      in_filter chain
      (in_first chain ((parts.joined.inputs ++ parts.joined.forwards) ++ parts.joined.outputs) parts.joined.settings
      (in_second chain (parts.joined.inputs ++ parts.joined.forwards) parts.joined.outputs among))

  pub in_settings : (chain : Chain) → IsIn chain parts.joined.settings → IsIn chain rules.chains
  in_settings chain among =
      in_filter chain (in_second chain ((parts.joined.inputs ++ parts.joined.forwards) ++ parts.joined.outputs) parts.joined.settings among)

  pub in_side : (of : Side) (chain : Chain) → IsIn chain (side_of parts.joined.sides of) → IsIn chain rules.chains
  in_side of chain among =
      parts.there chain
      (in_second chain (filter_of parts.joined) parts.joined.outside
      (from_side config (used_zones config) parts.joined.outside parts.joined.sides of chain among))

  pub inputs_there : EachIsThere parts.joined.inputs rules
  inputs_there chain among = parts.found chain (in_inputs chain among)

  pub forwards_there : EachIsThere parts.joined.forwards rules
  forwards_there chain among = parts.found chain (in_forwards chain among)

  pub outputs_there : EachIsThere parts.joined.outputs rules
  outputs_there chain among = parts.found chain (in_outputs chain among)

  pub block_there : (one : Told) (block : BlockIn config one parts.joined.settings) → EachIsThere block.block rules
  block_there one block chain among = parts.found chain (in_settings chain (block.among chain among))

  pub side_there : (of : Side) → EachIsThere (side_of parts.joined.sides of) rules
  side_there of chain among = parts.found chain (in_side of chain among)

  -- what holds of the chains of each part holds of each chain of the ruleset
  pub each_chain : (P : Chain → Type 0)
      → ((chain : Chain) → IsIn chain parts.joined.inputs → P chain)
      → ((chain : Chain) → IsIn chain parts.joined.forwards → P chain)
      → ((chain : Chain) → IsIn chain parts.joined.outputs → P chain)
      → ((chain : Chain) → IsIn chain parts.joined.settings → P chain)
      → ((of : Side) (chain : Chain) → IsIn chain (side_of parts.joined.sides of) → P chain)
      → (chain : Chain) → IsIn chain rules.chains → P chain
  each_chain P input forward output settings sides chain among =
      in_both P (filter_of parts.joined) parts.joined.outside
      (in_both P ((parts.joined.inputs ++ parts.joined.forwards) ++ parts.joined.outputs) parts.joined.settings
      (in_both P (parts.joined.inputs ++ parts.joined.forwards) parts.joined.outputs
      (in_both P parts.joined.inputs parts.joined.forwards input forward) output) settings)
      (each_outside config (used_zones config) parts.joined.outside parts.joined.sides P sides) chain (parts.only chain among)

  -- a chain that is found by a name is the one of that name
  pub same_chain : (one other : Chain) → IsIn one rules.chains → IsIn other rules.chains → one.name ≡ other.name → one ≡ other
  same_chain one other first second same =
      let both : Some one ≡ Some other = sym (parts.found one first) ∙ ap (chain_of rules.chains) same ∙ parts.found other second in cc
