-- Where a ruleset has one base chain at each of the three hooks, that one runs there, and no other.
use Rattle.std.proofs.Common.{◌≡◌, ◌∙◌, ◌⊎◌, inl, inr, Bool, true, false, ◌&&◌, List, [], ◌∷◌, Option, None, Some, refl, ap}
use Rattle.std.specs.Prelude.{if◌then◌else◌, codes}
use Rattle.std.specs.Cmp.{IsTotalOrder}
use Rattle.std.specs.Ordering.{is_lt}
use Rattle.std.proofs.lemmas.Cmp.{int_cmp_total, nat_list_cmp_total, on_total, then_total, tied_itself}
use Rattle.fw_zone.specs.Lists.{IsIn}
use Rattle.lower_hooks.specs.Chains.{base_chain}
use Rattle.lower_hooks.specs.Stands.{AreBases, HasBases, IsElsewhere}
use Rattle.nf_chains.specs.Hooks.{first_of, is_at, next_at, priority, run_order, runs_before, runs_behind}
use Rattle.nf_rules.specs.declared.chain.Chain.{Chain}
use Rattle.nf_rules.specs.declared.chain.Hook.{Hook}
use Rattle.nf_rules.specs.declared.chain.Hook.TheVariants as hook
use Rattle.nf_rules.specs.declared.rule.Rule.{Rule}
use Rattle.nf_rules.specs.declared.ruleset.Ruleset.{Ruleset}

order_total : IsTotalOrder run_order
order_total = then_total (on_total (λ chain. priority chain.base) int_cmp_total) (on_total (λ chain. chain.name) nat_list_cmp_total)

not_itself : (chain : Chain) → runs_before chain chain ≡ false
not_itself chain = ap is_lt (tied_itself order_total chain)

and_never : (hit later : Bool) → later ≡ false → (hit && later) ≡ false
and_never true later never = never
and_never false later never = refl

module _ (at : Hook) where
  skips : (last : Option Chain) (chain : Chain) (chains : List Chain) → (is_at at chain.base && runs_behind last chain) ≡ false
      → next_at at last (chain ∷ chains) ≡ next_at at last chains
  skips last chain chains never = ap (λ (hit : Bool). if hit then Some (first_of chain (next_at at last chains)) else next_at at last chains) never

  none_runs : (last : Option Chain) (chains : List Chain)
      → ((chain : Chain) → IsIn chain chains → (is_at at chain.base && runs_behind last chain) ≡ false)
      → next_at at last chains ≡ None
  none_runs last [] never = refl
  none_runs last (chain ∷ chains) never = skips last chain chains (never chain (inl refl)) ∙ none_runs last chains (λ one there. never one (inr there))

  -- each chain is another, or this one
  abbrev Fits : Chain → List Chain → Type 0
  Fits base chains = (chain : Chain) → IsIn chain chains → (is_at at chain.base ≡ false) ⊎ (chain ≡ base)

  module _ (base : Chain) (hooked : is_at at base.base ≡ true) where
    alike : (test : Bool) → (if test then base else base) ≡ base
    alike true = refl
    alike false = refl

    first_is : (others : Option Chain) → (others ≡ None) ⊎ (others ≡ Some base) → first_of base others ≡ base
    first_is others (inl none) = ap (first_of base) none
    first_is others (inr same) = ap (first_of base) same ∙ alike (runs_before base base)

    other_first : (chain : Chain) (chains : List Chain) → is_at at chain.base ≡ false → next_at at None (chain ∷ chains) ≡ next_at at None chains
    other_first chain chains other = skips None chain chains (ap (λ (hit : Bool). hit && true) other)

    this_first : (chain : Chain) (chains : List Chain) → chain ≡ base → (next_at at None chains ≡ None) ⊎ (next_at at None chains ≡ Some base)
        → next_at at None (chain ∷ chains) ≡ Some base
    this_first chain chains same rest =
        ap (λ (one : Chain). if is_at at one.base && true then Some (first_of one (next_at at None chains)) else next_at at None chains) same
        ∙ ap (λ (hit : Bool). if hit && true then Some (first_of base (next_at at None chains)) else next_at at None chains) hooked
        ∙ ap Some (first_is (next_at at None chains) rest)

    either_runs : (chains : List Chain) → Fits base chains → (next_at at None chains ≡ None) ⊎ (next_at at None chains ≡ Some base)
    either_runs [] fits = inl refl
    either_runs (chain ∷ chains) fits = elim (fits chain (inl refl)) [
      | inl other ↦ elim (either_runs chains (λ one there. fits one (inr there))) [
        | inl none ↦ inl (other_first chain chains other ∙ none)
        | inr same ↦ inr (other_first chain chains other ∙ same)
      ]
      | inr same ↦ inr (this_first chain chains same (either_runs chains (λ one there. fits one (inr there))))
    ]

    one_runs : (chains : List Chain) → Fits base chains → IsIn base chains → next_at at None chains ≡ Some base
    one_runs [] fits there = absurd there
    one_runs (chain ∷ chains) fits (inl same) = this_first chain chains same (either_runs chains (λ one there. fits one (inr there)))
    one_runs (chain ∷ chains) fits (inr there) = elim (fits chain (inl refl)) [
      | inl other ↦ other_first chain chains other ∙ one_runs chains (λ one is_there. fits one (inr is_there)) there
      | inr same ↦ this_first chain chains same (either_runs chains (λ one is_there. fits one (inr is_there)))
    ]

    no_other : (chains : List Chain) → Fits base chains → next_at at (Some base) chains ≡ None
    no_other chains fits = none_runs (Some base) chains (λ chain there. never chain (fits chain there))
      where
        never : (chain : Chain) → (is_at at chain.base ≡ false) ⊎ (chain ≡ base) → (is_at at chain.base && runs_before base chain) ≡ false
        never chain (inl other) = ap (λ (hit : Bool). hit && runs_before base chain) other
        never chain (inr same) = and_never (is_at at chain.base) (runs_before base chain) (ap (runs_before base) same ∙ not_itself base)

-- a chain that is no base chain runs at no hook
pub plain_elsewhere : (chain : Chain) → chain.base ≡ None → IsElsewhere chain
plain_elsewhere chain none = record { input = ap (is_at hook.Input) none; forward = ap (is_at hook.Forward) none; output = ap (is_at hook.Output) none }

module _ (rules : Ruleset) (input forward output : List Rule) (are : AreBases rules.chains input forward output) where
  abbrev pub one_input : Chain
  one_input = base_chain (codes "filter_INPUT") hook.Input input

  abbrev pub one_forward : Chain
  one_forward = base_chain (codes "filter_FORWARD") hook.Forward forward

  abbrev pub one_output : Chain
  one_output = base_chain (codes "filter_OUTPUT") hook.Output output

  abbrev IsOne : Chain → Type 0
  IsOne chain = IsElsewhere chain ⊎ ((chain ≡ one_input) ⊎ ((chain ≡ one_forward) ⊎ (chain ≡ one_output)))

  input_fits : Fits hook.Input one_input rules.chains
  input_fits chain there = fits (are chain there)
    where
      fits : IsOne chain → (is_at hook.Input chain.base ≡ false) ⊎ (chain ≡ one_input)
      fits (inl elsewhere) = inl elsewhere.input
      fits (inr (inl same)) = inr same
      fits (inr (inr (inl same))) = inl (ap (λ (one : Chain). is_at hook.Input one.base) same)
      fits (inr (inr (inr same))) = inl (ap (λ (one : Chain). is_at hook.Input one.base) same)

  forward_fits : Fits hook.Forward one_forward rules.chains
  forward_fits chain there = fits (are chain there)
    where
      fits : IsOne chain → (is_at hook.Forward chain.base ≡ false) ⊎ (chain ≡ one_forward)
      fits (inl elsewhere) = inl elsewhere.forward
      fits (inr (inl same)) = inl (ap (λ (one : Chain). is_at hook.Forward one.base) same)
      fits (inr (inr (inl same))) = inr same
      fits (inr (inr (inr same))) = inl (ap (λ (one : Chain). is_at hook.Forward one.base) same)

  output_fits : Fits hook.Output one_output rules.chains
  output_fits chain there = fits (are chain there)
    where
      fits : IsOne chain → (is_at hook.Output chain.base ≡ false) ⊎ (chain ≡ one_output)
      fits (inl elsewhere) = inl elsewhere.output
      fits (inr (inl same)) = inl (ap (λ (one : Chain). is_at hook.Output one.base) same)
      fits (inr (inr (inl same))) = inl (ap (λ (one : Chain). is_at hook.Output one.base) same)
      fits (inr (inr (inr same))) = inr same

  pub bases_run : IsIn one_input rules.chains → IsIn one_forward rules.chains → IsIn one_output rules.chains → HasBases rules input forward output
  bases_run has_input has_forward has_output = record {
    at_input = record { first = one_runs hook.Input one_input refl rules.chains input_fits has_input; last = no_other hook.Input one_input refl rules.chains input_fits };
    at_forward = record { first = one_runs hook.Forward one_forward refl rules.chains forward_fits has_forward; last = no_other hook.Forward one_forward refl rules.chains forward_fits };
    at_output = record { first = one_runs hook.Output one_output refl rules.chains output_fits has_output; last = no_other hook.Output one_output refl rules.chains output_fits };
  }
