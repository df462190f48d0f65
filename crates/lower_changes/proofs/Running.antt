-- Where certain chains, in order, are those at a hook, they run there.
use Rattle.std.proofs.Common.{◌≡◌, ◌∙◌, ◌&&◌, ◌⊎◌, inl, inr, Bool, true, false, List, [], ◌∷◌, Option, None, Some, refl, sym, ap, subst, ⊎_elim}
use Rattle.std.specs.Prelude.{if◌then◌else◌}
use Rattle.std.specs.Cmp.{IsTotalOrder}
use Rattle.std.specs.Ordering.{is_lt, ordering_reverse}
use Rattle.std.specs.declared.cmp.Ordering.{Ordering}
use Rattle.std.specs.declared.cmp.Ordering.TheVariants.{Equal, Greater, Less}
use Rattle.std.proofs.lemmas.Bool.{and_parts}
use Rattle.std.proofs.lemmas.Cmp.{int_cmp_total, nat_list_cmp_total, on_total, then_total, tied_itself}
use Rattle.fw_zone.specs.Lists.{IsIn}
use Rattle.lower_changes.specs.Hooks.{AreInOrder, BasesRun, RunAt}
use Rattle.nf_chains.specs.Hooks.{first_of, is_at, next_at, priority, run_order, runs_before, runs_behind}
use Rattle.nf_rules.specs.declared.chain.Chain.{Chain}
use Rattle.nf_rules.specs.declared.chain.Hook.{Hook}
use Rattle.nf_rules.specs.declared.ruleset.Ruleset.{Ruleset}

order_total : IsTotalOrder run_order
order_total = then_total (on_total (λ chain. priority chain.base) int_cmp_total) (on_total (λ chain. chain.name) nat_list_cmp_total)

less_is : (order : Ordering) → is_lt order ≡ true → order ≡ Less
less_is Less is = refl
less_is Equal is = cc
less_is Greater is = cc

not_itself : (chain : Chain) → runs_before chain chain ≡ false
not_itself chain = ap is_lt (tied_itself order_total chain)

not_back : (one other : Chain) → runs_before one other ≡ true → runs_before other one ≡ false
not_back one other before =
    ap is_lt (order_total.antisymm other one ∙ ap ordering_reverse (less_is (run_order one other) before))

in_turn : (one two three : Chain) → runs_before one two ≡ true → runs_before two three ≡ true → runs_before one three ≡ true
in_turn one two three first second =
    ap is_lt (order_total.trans one two three (less_is (run_order one two) first) (less_is (run_order two three) second))

-- what may run, behind one or behind none
abbrev runs : Hook → Option Chain → Chain → Bool
runs at last chain = is_at at chain.base && runs_behind last chain

none_runs : (at : Hook) (last : Option Chain) (chains : List Chain) → ((chain : Chain) → IsIn chain chains → runs at last chain ≡ false) → next_at at last chains ≡ None
none_runs at last [] never = refl
none_runs at last (chain ∷ chains) never =
    ap (λ (hit : Bool). if hit then Some (first_of chain (next_at at last chains)) else next_at at last chains) (never chain (inl refl))
    ∙ none_runs at last chains (λ one there. never one (inr there))

module _ (at : Hook) (last : Option Chain) (base : Chain) where
  -- each that may run is this one, or runs behind it
  abbrev IsFirst : List Chain → Type 0
  IsFirst chains = (chain : Chain) → IsIn chain chains → runs at last chain ≡ true → (chain ≡ base) ⊎ (runs_before base chain ≡ true)

  -- what may come next is this one, or runs behind it
  data IsLater : Option Chain → Type 0 where
    nothing : IsLater None
    same : IsLater (Some base)
    later : (chain : Chain) → runs_before base chain ≡ true → IsLater (Some chain)

  first_is : (others : Option Chain) → IsLater others → first_of base others ≡ base
  first_is _ nothing = refl
  first_is _ same = ap (λ (test : Bool). if test then base else base) (not_itself base)
  first_is _ (later chain behind) = ap (λ (test : Bool). if test then chain else base) (not_back base chain behind)

  -- one that runs behind it, before others
  behind_first : (chain : Chain) (others : Option Chain) → runs_before base chain ≡ true → IsLater others → IsLater (Some (first_of chain others))
  behind_first chain _ behind nothing = later chain behind
  behind_first chain _ behind same = subst (λ (test : Bool). IsLater (Some (if test then base else chain))) (sym behind) same
  behind_first chain _ behind (later other after) = either (runs_before other chain)
    where
      either : (test : Bool) → IsLater (Some (if test then other else chain))
      either true = later other after
      either false = later chain behind

  later_of : (chain : Chain) (others : Option Chain) → (chain ≡ base) ⊎ (runs_before base chain ≡ true) → IsLater others → IsLater (Some (first_of chain others))
  later_of chain others (inl is) rest =
      subst (λ (one : Chain). IsLater (Some one)) (sym (ap (λ (it : Chain). first_of it others) is ∙ first_is others rest)) same
  later_of chain others (inr behind) rest = behind_first chain others behind rest

  where_runs : (chain : Chain) (others : Option Chain) (hit : Bool) → runs at last chain ≡ hit
      → (runs at last chain ≡ true → (chain ≡ base) ⊎ (runs_before base chain ≡ true)) → IsLater others
      → IsLater (if hit then Some (first_of chain others) else others)
  where_runs chain others true is fits rest = later_of chain others (fits is) rest
  where_runs chain others false is fits rest = rest

  some_later : (chains : List Chain) → IsFirst chains → IsLater (next_at at last chains)
  some_later [] fits = nothing
  some_later (chain ∷ chains) fits =
      where_runs chain (next_at at last chains) (runs at last chain) refl (fits chain (inl refl)) (some_later chains (λ one there. fits one (inr there)))

  -- it is there, so it is what comes next
  head_runs : (chain : Chain) (others : Option Chain) → chain ≡ base → runs at last base ≡ true → IsLater others
      → (if runs at last chain then Some (first_of chain others) else others) ≡ Some base
  head_runs chain others is hit rest =
      ap (λ (one : Chain). if runs at last one then Some (first_of one others) else others) is
      ∙ ap (λ (test : Bool). if test then Some (first_of base others) else others) hit
      ∙ ap Some (first_is others rest)

  before_it : (chain : Chain) → (chain ≡ base) ⊎ (runs_before base chain ≡ true) → first_of chain (Some base) ≡ base
  before_it chain (inl is) = ap (λ (one : Chain). first_of one (Some base)) is ∙ ap (λ (test : Bool). if test then base else base) (not_itself base)
  before_it chain (inr behind) = ap (λ (test : Bool). if test then base else chain) behind

  tail_runs : (chain : Chain) (hit : Bool) → runs at last chain ≡ hit → (runs at last chain ≡ true → (chain ≡ base) ⊎ (runs_before base chain ≡ true))
      → (if hit then Some (first_of chain (Some base)) else Some base) ≡ Some base
  tail_runs chain true is fits = ap Some (before_it chain (fits is))
  tail_runs chain false is fits = refl

  comes_next : (chains : List Chain) → runs at last base ≡ true → IsFirst chains → IsIn base chains → next_at at last chains ≡ Some base
  comes_next [] hit fits there = absurd there
  comes_next (chain ∷ chains) hit fits (inl is) = head_runs chain (next_at at last chains) is hit (some_later chains (λ one among. fits one (inr among)))
  comes_next (chain ∷ chains) hit fits (inr there) =
      ap (λ (others : Option Chain). if runs at last chain then Some (first_of chain others) else others)
      (comes_next chains hit (λ one among. fits one (inr among)) there)
      ∙ tail_runs chain (runs at last chain) refl (fits chain (inl refl))

both : (one other : Bool) → one ≡ true → other ≡ true → (one && other) ≡ true
both one other is is' = rw (is, is') refl

not_true : (b : Bool) → (b ≡ true → ⊥) → b ≡ false
not_true true never = absurd (never refl)
not_true false never = refl

behind_both : (last : Option Chain) (base chain : Chain) → runs_behind last base ≡ true → runs_before base chain ≡ true → runs_behind last chain ≡ true
behind_both None base chain is behind = refl
behind_both (Some last) base chain is behind = in_turn last base chain is behind

run_from : (rules : Ruleset) (at : Hook) (last : Option Chain) (bases : List Chain)
    → ((chain : Chain) → IsIn chain rules.chains → runs at last chain ≡ true → IsIn chain bases)
    → ((chain : Chain) → IsIn chain bases → IsIn chain rules.chains)
    → ((chain : Chain) → IsIn chain bases → runs at last chain ≡ true)
    → AreInOrder bases
    → RunAt rules at last bases
run_from rules at last [] only there run ordered =
    none_runs at last rules.chains (λ chain among. not_true (runs at last chain) (only chain among))
run_from rules at last (base ∷ bases) only there run ordered = (
  comes_next at last base rules.chains (run base (inl refl))
      (λ chain among hit. ⊎_elim (λ is. inl (sym is)) (λ behind. inr (ordered.0 chain behind)) (only chain among hit))
      (there base (inl refl)),
  run_from rules at (Some base) bases
      (λ chain among hit.
      let parts = and_parts (is_at at chain.base) (runs_before base chain) hit in
      let old = and_parts (is_at at base.base) (runs_behind last base) (run base (inl refl)) in
      ⊎_elim
      (λ is. absurd (itself chain (subst (λ (one : Chain). runs_before one chain ≡ true) is parts.1)))
      (λ behind. behind)
      (only chain among (both (is_at at chain.base) (runs_behind last chain) parts.0 (behind_both last base chain old.1 parts.1))))
      (λ chain among. there chain (inr among))
      (λ chain among. both (is_at at chain.base) (runs_before base chain) (and_parts (is_at at chain.base) (runs_behind last chain) (run chain (inr among))).0 (ordered.0 chain among))
      ordered.1,
)
  where
    itself : (chain : Chain) → ¬ (runs_before chain chain ≡ true)
    itself chain is = let never : true ≡ false = sym is ∙ not_itself chain in cc

pub bases_run : BasesRun
bases_run rules at bases only there hooked ordered =
    run_from rules at None bases
    (λ chain among hit. only chain among (and_parts (is_at at chain.base) true hit).0)
    there
    (λ chain among. both (is_at at chain.base) true (hooked chain among) refl)
    ordered
