use Rattle.std.proofs.Common.{rules, List, subst, sym}
use Rattle.nf_rules.specs.declared.chain.Chain.{Chain}
use Rattle.lower_all.specs.Ordered.{IsOrdered}
use Rattle.lower_all.proofs.Sorting.{ordered_from_sort_by}
use Rattle.lower_all.proofs.nft.by_name.Goals as goal

pub returns-clause-sorted : goal.returns-clause-sorted
returns-clause-sorted c =
    subst (λ (list : List Chain). IsOrdered (λ (chain : Chain). chain.name) list) (sym c.from_vec.ensures)
    (ordered_from_sort_by (λ (chain : Chain). chain.name) c.sort_by.new.self.items c.in_ok-sort_by.ensures.sorted (λ f a r g h. search rules))
