-- Which base chains there are: one at each hook of the filter, and at most one of each side outside it.
use Rattle.std.proofs.Common.{◌≡◌, ◌∙◌, inl, inr, true, false, List, [], ◌∷◌, ◌++◌, codes, Option, None, Some, is_some, refl, sym, ap, subst, subst₂}
use Rattle.fw_model.specs.declared.config.Config.{Config}
use Rattle.fw_model.specs.declared.zone.Zone.{Zone}
use Rattle.fw_verdict.specs.declared.sides.Side.{Side}
use Rattle.fw_verdict.specs.declared.sides.Side.TheVariants as side
use Rattle.fw_zone.specs.Lists.{IsIn}
use Rattle.lower_all.specs.Joined.{used_zones}
use Rattle.lower_all.proofs.Among.{in_both, in_filter}
use Rattle.lower_all.proofs.Laws.{SideLaws}
use Rattle.lower_all.proofs.Parts.{HasParts, are_side, each_chain, in_side, side_of, side_there}
use Rattle.lower_blocks.proofs.Lists.{in_first, in_second, was_in}
use Rattle.lower_blocks.proofs.There.{of_some_block}
use Rattle.lower_blocks.specs.Needed.{all_told}
use Rattle.lower_changes.specs.Chains as outside
use Rattle.lower_changes.specs.Chains.{base_of}
use Rattle.lower_changes.specs.Hooks.{AreInOrder, RunAt}
use Rattle.lower_changes.specs.Works.{SideWorks, bases_of}
use Rattle.lower_changes.specs.Works.SideWorks.{full, idle}
use Rattle.lower_hooks.specs.Chains.{base_chain}
use Rattle.nf_chains.specs.Hooks.{is_at, runs_before}
use Rattle.nf_rules.specs.declared.chain.Base.{Base}
use Rattle.nf_rules.specs.declared.chain.Chain.{Chain}
use Rattle.nf_rules.specs.declared.chain.Hook.{Hook}
use Rattle.nf_rules.specs.declared.chain.Hook.TheVariants as hook
use Rattle.nf_rules.specs.declared.rule.Rule.{Rule}
use Rattle.nf_rules.specs.declared.ruleset.Ruleset.{Ruleset}

-- A side has one base chain, or none.
data HasBase (of : Side) (bases : List Chain) : Type 0 where
  none : bases ≡ [] → HasBase of bases
  one : (rules : List Rule) → bases ≡ outside.base_chain of rules ∷ [] → HasBase of bases

has_base : {config : Config} {of : Side} {zones : List Zone} {table : Ruleset} {chains : List Chain} → SideWorks config of zones table chains → HasBase of (bases_of chains)
has_base (idle empty nothing) = none (ap bases_of empty)
has_base (full rules are work keep) = one rules are

-- That stands in its place.
base_is : (of : Side) (bases : List Chain) → HasBase of bases → (chain : Chain) → IsIn chain bases → chain.base ≡ Some (base_of of)
base_is of bases (none are) chain among = absurd (subst (λ (list : List Chain). IsIn chain list) are among)
base_is of bases (one rules are) chain among = by (subst (λ (list : List Chain). IsIn chain list) are among)
  where
    by : IsIn chain (outside.base_chain of rules ∷ []) → chain.base ≡ Some (base_of of)
    by (inl same) = ap (λ (it : Chain). it.base) (sym same)
    by (inr never) = absurd never

-- one alone
alone : (of : Side) (bases : List Chain) → HasBase of bases → AreInOrder bases
alone of bases (none are) = subst AreInOrder (sym are) tt
alone of bases (one rules are) = subst AreInOrder (sym are) (λ other never. absurd never, tt)

-- marks come before translation
in_turn : (marks targets : List Chain) → HasBase side.Marked marks → HasBase side.Translated targets → AreInOrder (marks ++ targets)
in_turn marks targets (none are) has = subst (λ (list : List Chain). AreInOrder (list ++ targets)) (sym are) (alone side.Translated targets has)
in_turn marks targets (one made are) (none no_target) =
    subst₂ (λ (list others : List Chain). AreInOrder (list ++ others)) (sym are) (sym no_target) (λ other never. absurd never, tt)
in_turn marks targets (one made are) (one rules is) =
    subst₂ (λ (list others : List Chain). AreInOrder (list ++ others)) (sym are) (sym is) (behind, (λ other never. absurd never, tt))
  where
    behind : (other : Chain) → IsIn other (outside.base_chain side.Translated rules ∷ []) → runs_before (outside.base_chain side.Marked made) other ≡ true
    behind other (inl same) = ap (λ (it : Chain). runs_before (outside.base_chain side.Marked made) it) (sym same)
    behind other (inr never) = absurd never

module _ (laws : SideLaws) (config : Config) (rules : Ruleset) (parts : HasParts config rules) where
  abbrev chains_on : Side → List Chain
  chains_on of = side_of parts.joined.sides of

  pub side_works : (of : Side) → SideWorks config of (used_zones config) rules (chains_on of)
  side_works of =
      laws.work config of (used_zones config) (chains_on of) rules
      (are_side config (used_zones config) parts.joined.outside parts.joined.sides of) (side_there config rules parts of)

  side_base : (of : Side) → HasBase of (bases_of (chains_on of))
  side_base of = has_base (side_works of)

  -- what a chain is: none at a hook, one of the three of the filter, or one of a side
  pub data StandsAs (chain : Chain) : Type 0 where
    plain : chain.base ≡ None → StandsAs chain
    at_input : chain ≡ base_chain (codes "filter_INPUT") hook.Input parts.joined.input.rules → StandsAs chain
    at_forward : chain ≡ base_chain (codes "filter_FORWARD") hook.Forward parts.joined.forward.rules → StandsAs chain
    at_output : chain ≡ base_chain (codes "filter_OUTPUT") hook.Output parts.joined.output.rules → StandsAs chain
    of_side : (of : Side) → chain.base ≡ Some (base_of of) → IsIn chain (bases_of (chains_on of)) → StandsAs chain

  on_side : (of : Side) (chain : Chain) → IsIn chain (chains_on of) → StandsAs chain
  on_side of chain among = by chain.base refl
    where
      by : (base : Option Base) → chain.base ≡ base → StandsAs chain
      by None is = plain is
      by (Some base) is =
          let based = in_filter (λ (it : Chain). is_some it.base) chain (chains_on of) (ap (λ (it : Option Base). is_some it) is) among in
          of_side of (base_is of (bases_of (chains_on of)) (side_base of) chain based) based

  pub each_stands : (chain : Chain) → IsIn chain rules.chains → StandsAs chain
  each_stands =
      each_chain config rules parts StandsAs
      (λ chain among. elim (parts.joined.input.base.only chain among) [ inl same ↦ at_input (sym same) | inr based ↦ plain based ])
      (λ chain among. elim (parts.joined.forward.base.only chain among) [ inl same ↦ at_forward (sym same) | inr based ↦ plain based ])
      (λ chain among. elim (parts.joined.output.base.only chain among) [ inl same ↦ at_output (sym same) | inr based ↦ plain based ])
      (λ chain among.
      let found = of_some_block config (all_told config (used_zones config)) parts.joined.settings parts.joined.blocks chain among in
      plain (found.is.stands.no_base chain found.chain_in))
      on_side

  -- the base chains of a side are there, at its hook
  base_there : (of : Side) (chain : Chain) → IsIn chain (bases_of (chains_on of)) → IsIn chain rules.chains
  base_there of chain among = in_side config rules parts of chain (was_in (λ (it : Chain). is_some it.base) chain (chains_on of) among)

  base_at : (of : Side) (at : Hook) → is_at at (Some (base_of of)) ≡ true → (chain : Chain) → IsIn chain (bases_of (chains_on of)) → is_at at chain.base ≡ true
  base_at of at here chain among = ap (is_at at) (base_is of (bases_of (chains_on of)) (side_base of) chain among) ∙ here

  -- At prerouting stand those of marks and of translation, and no others.
  only_before : (chain : Chain) → IsIn chain rules.chains → is_at hook.Prerouting chain.base ≡ true → IsIn chain (bases_of (chains_on side.Marked) ++ bases_of (chains_on side.Translated))
  only_before chain there hit = by (each_stands chain there)
    where
      never : is_at hook.Prerouting chain.base ≡ false → IsIn chain (bases_of (chains_on side.Marked) ++ bases_of (chains_on side.Translated))
      never other = let untrue : true ≡ false = sym hit ∙ other in cc

      by : StandsAs chain → IsIn chain (bases_of (chains_on side.Marked) ++ bases_of (chains_on side.Translated))
      by (plain is) = never (ap (is_at hook.Prerouting) is)
      by (at_input is) = never (ap (λ (one : Chain). is_at hook.Prerouting one.base) is)
      by (at_forward is) = never (ap (λ (one : Chain). is_at hook.Prerouting one.base) is)
      by (at_output is) = never (ap (λ (one : Chain). is_at hook.Prerouting one.base) is)
      by (of_side side.Marked is among) = in_first chain (bases_of (chains_on side.Marked)) (bases_of (chains_on side.Translated)) among
      by (of_side side.Translated is among) = in_second chain (bases_of (chains_on side.Marked)) (bases_of (chains_on side.Translated)) among
      by (of_side side.Leaving is among) = never (ap (is_at hook.Prerouting) is)

  pub at_prerouting : RunAt rules hook.Prerouting None (bases_of parts.joined.sides.marks ++ bases_of parts.joined.sides.targets)
  at_prerouting =
      laws.run rules hook.Prerouting (bases_of (chains_on side.Marked) ++ bases_of (chains_on side.Translated)) only_before
      (in_both (λ (chain : Chain). IsIn chain rules.chains) (bases_of (chains_on side.Marked)) (bases_of (chains_on side.Translated))
      (base_there side.Marked) (base_there side.Translated))
      (in_both (λ (chain : Chain). is_at hook.Prerouting chain.base ≡ true) (bases_of (chains_on side.Marked)) (bases_of (chains_on side.Translated))
      (base_at side.Marked hook.Prerouting refl) (base_at side.Translated hook.Prerouting refl))
      (in_turn (bases_of (chains_on side.Marked)) (bases_of (chains_on side.Translated)) (side_base side.Marked) (side_base side.Translated))

  -- At postrouting those of what leaves with the host's own address do.
  only_behind : (chain : Chain) → IsIn chain rules.chains → is_at hook.Postrouting chain.base ≡ true → IsIn chain (bases_of (chains_on side.Leaving))
  only_behind chain there hit = by (each_stands chain there)
    where
      never : is_at hook.Postrouting chain.base ≡ false → IsIn chain (bases_of (chains_on side.Leaving))
      never other = let untrue : true ≡ false = sym hit ∙ other in cc

      by : StandsAs chain → IsIn chain (bases_of (chains_on side.Leaving))
      by (plain is) = never (ap (is_at hook.Postrouting) is)
      by (at_input is) = never (ap (λ (one : Chain). is_at hook.Postrouting one.base) is)
      by (at_forward is) = never (ap (λ (one : Chain). is_at hook.Postrouting one.base) is)
      by (at_output is) = never (ap (λ (one : Chain). is_at hook.Postrouting one.base) is)
      by (of_side side.Marked is among) = never (ap (is_at hook.Postrouting) is)
      by (of_side side.Translated is among) = never (ap (is_at hook.Postrouting) is)
      by (of_side side.Leaving is among) = among

  pub at_postrouting : RunAt rules hook.Postrouting None (bases_of parts.joined.sides.masks)
  at_postrouting =
      laws.run rules hook.Postrouting (bases_of (chains_on side.Leaving)) only_behind
      (base_there side.Leaving) (base_at side.Leaving hook.Postrouting refl)
      (alone side.Leaving (bases_of (chains_on side.Leaving)) (side_base side.Leaving))
