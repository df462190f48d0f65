-- The order in which base chains run, and what the next one is.
use Rattle.std.proofs.Common.{◌≡◌, ℕ, zero, suc, ◌+◌, ◌<◌, ◌≤◌, ◌⊎◌, inl, inr, Bool, true, false, ◌&&◌, List, [], ◌∷◌, length, Option, None, Some, slice_get, refl, sym, ap, subst, ◌∙◌, if◌then◌else◌, arith}
use Rattle.std.specs.Cmp.{IsTotalOrder}
use Rattle.std.specs.Ordering.{is_lt}
use Rattle.std.specs.declared.cmp.Ordering.{Ordering}
use Rattle.std.specs.declared.cmp.Ordering.TheVariants.{Less, Equal, Greater}
use Rattle.std.proofs.lemmas.Cmp.{int_cmp_total, nat_list_cmp_total, on_total, then_total, tied_itself}
use Rattle.nf_chains.proofs.Sound.{both}
use Rattle.nf_chains.specs.Hooks.{first_of, is_at, next_at, priority, run_order, runs_before, runs_behind}
use Rattle.nf_rules.specs.declared.chain.Chain.{Chain}
use Rattle.nf_rules.specs.declared.chain.Hook.{Hook}

pub run_order_total : IsTotalOrder run_order
run_order_total = then_total (on_total (λ chain. priority chain.base) int_cmp_total) (on_total (λ chain. chain.name) nat_list_cmp_total)

is_less : (o : Ordering) → is_lt o ≡ true → o ≡ Less
is_less Less is = refl
is_less Equal is = cc
is_less Greater is = cc

-- what runs behind one that runs behind another runs behind that
pub further_behind : (last : Option Chain) (chain other : Chain) → runs_behind last chain ≡ true → runs_before chain other ≡ true → runs_behind last other ≡ true
further_behind None chain other first second = refl
further_behind (Some last) chain other first second =
    ap is_lt (run_order_total.trans last chain other (is_less (run_order last chain) first) (is_less (run_order chain other) second))

-- none runs behind itself
pub not_itself : (chain : Chain) → runs_before chain chain ≡ false
not_itself chain = ap is_lt (tied_itself run_order_total chain)

either : (chain other : Chain) (test : Bool) → ((if test then other else chain) ≡ chain) ⊎ ((if test then other else chain) ≡ other)
either chain other true = inr refl
either chain other false = inl refl

first_either : (chain : Chain) (others : Option Chain) (found : Chain) → first_of chain others ≡ found → (found ≡ chain) ⊎ (others ≡ Some found)
first_either chain None found is = inl (sym is)
first_either chain (Some other) found is = elim (either chain other (runs_before other chain)) [
  | inl same ↦ inl (sym is ∙ same)
  | inr same ↦ inr (ap Some (sym same ∙ is))
]

-- the next one fits, and stands among the chains
pub record IsFound (wanted : Hook) (last : Option Chain) (chains : List Chain) (chain : Chain) : Type 0 where
  pub place : ℕ
  pub at : slice_get chains place ≡ Some chain
  pub hooked : is_at wanted chain.base ≡ true
  pub behind : runs_behind last chain ≡ true

found_test : (wanted : Hook) (last : Option Chain) (first : Chain) (chains : List Chain) (chain : Chain) (test : Bool) → is_at wanted first.base && runs_behind last first ≡ test
    → (next_at wanted last chains ≡ Some chain → IsFound wanted last chains chain)
    → (if test then Some (first_of first (next_at wanted last chains)) else next_at wanted last chains) ≡ Some chain
    → IsFound wanted last (first ∷ chains) chain
found_test wanted last first chains chain true is rest found =
    let parts = both (is_at wanted first.base) (runs_behind last first) is in
    let first_is : first_of first (next_at wanted last chains) ≡ chain = cc in
    elim (first_either first (next_at wanted last chains) chain first_is) [
      | inl same ↦ record {
        place = 0;
        at = ap Some (sym same);
        hooked = subst (λ (one : Chain). is_at wanted one.base ≡ true) (sym same) parts.0;
        behind = subst (λ (one : Chain). runs_behind last one ≡ true) (sym same) parts.1;
      }
      | inr later ↦ (let there = rest later in record { place = suc there.place; at = there.at; hooked = there.hooked; behind = there.behind })
    ]
found_test wanted last first chains chain false is rest found =
    let there = rest found in record { place = suc there.place; at = there.at; hooked = there.hooked; behind = there.behind }

pub next_found : (wanted : Hook) (last : Option Chain) (chains : List Chain) (chain : Chain) → next_at wanted last chains ≡ Some chain → IsFound wanted last chains chain
next_found wanted last [] chain found = cc
next_found wanted last (first ∷ chains) chain found =
    found_test wanted last first chains chain (is_at wanted first.base && runs_behind last first) refl (next_found wanted last chains chain) found

-- how many chains at a hook run behind one
abbrev pub ones : Bool → ℕ
ones true = 1
ones false = 0

abbrev pub waiting : Hook → Option Chain → List Chain → ℕ
waiting wanted last [] = 0
waiting wanted last (chain ∷ chains) = ones (is_at wanted chain.base && runs_behind last chain) + waiting wanted last chains

ones_le : (a b c : Bool) → (b ≡ true → c ≡ true) → ones (a && b) ≤ ones (a && c)
ones_le true true true implies = omega arith
ones_le true true false implies = (let is = implies refl in cc)
ones_le true false c implies = omega arith
ones_le false b c implies = omega arith

pub fewer : (wanted : Hook) (last : Option Chain) (chain : Chain) (chains : List Chain) → runs_behind last chain ≡ true → waiting wanted (Some chain) chains ≤ waiting wanted last chains
fewer wanted last chain [] behind = omega arith
fewer wanted last chain (first ∷ chains) behind =
    let rest = fewer wanted last chain chains behind in
    let here = ones_le (is_at wanted first.base) (runs_before chain first) (runs_behind last first) (λ is. further_behind last chain first behind is) in
    omega arith

pub fewer_by_one : (wanted : Hook) (last : Option Chain) (chain : Chain) (chains : List Chain) (place : ℕ) → slice_get chains place ≡ Some chain → is_at wanted chain.base ≡ true → runs_behind last chain ≡ true → waiting wanted (Some chain) chains < waiting wanted last chains
fewer_by_one wanted last chain [] place at hooked behind = cc
fewer_by_one wanted last chain (first ∷ chains) zero at hooked behind =
    let same : first ≡ chain = cc in
    let rest = fewer wanted last chain chains behind in
    let here : ones (is_at wanted first.base && runs_before chain first) ≡ 0 = rw (same, hooked, not_itself chain) refl in
    let there : ones (is_at wanted first.base && runs_behind last first) ≡ 1 = rw (same, hooked, behind) refl in
    omega arith
fewer_by_one wanted last chain (first ∷ chains) (suc place) at hooked behind =
    let rest = fewer_by_one wanted last chain chains place at hooked behind in
    let here = ones_le (is_at wanted first.base) (runs_before chain first) (runs_behind last first) (λ is. further_behind last chain first behind is) in
    omega arith

ones_most : (test : Bool) → ones test ≤ 1
ones_most true = omega arith
ones_most false = omega arith

pub at_most_all : (wanted : Hook) (last : Option Chain) (chains : List Chain) → waiting wanted last chains ≤ length chains
at_most_all wanted last [] = omega arith
at_most_all wanted last (chain ∷ chains) =
    let rest = at_most_all wanted last chains in
    let here = ones_most (is_at wanted chain.base && runs_behind last chain) in
    omega arith

none_test : (wanted : Hook) (last : Option Chain) (first : Chain) (chains : List Chain) (test : Bool) → ones test + waiting wanted last chains ≤ 0 → (waiting wanted last chains ≤ 0 → next_at wanted last chains ≡ None) → (if test then Some (first_of first (next_at wanted last chains)) else next_at wanted last chains) ≡ None
none_test wanted last first chains true none rest = absurd (omega arith)
none_test wanted last first chains false none rest = rest (omega arith)

-- where none waits there's no next one
pub none_next : (wanted : Hook) (last : Option Chain) (chains : List Chain) → waiting wanted last chains ≤ 0 → next_at wanted last chains ≡ None
none_next wanted last [] none = refl
none_next wanted last (first ∷ chains) none =
    none_test wanted last first chains (is_at wanted first.base && runs_behind last first) none (none_next wanted last chains)
