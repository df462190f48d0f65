use Rattle.std.proofs.Common.{rules, List, subst, sym}
use Rattle.nf_rules.specs.declared.set.NfSet.{NfSet}
use Rattle.lower_all.specs.Ordered.{IsOrdered}
use Rattle.lower_all.proofs.Sorting.{ordered_from_sort_by}
use Rattle.lower_all.proofs.sets.by_name.Goals as goal

pub returns-clause-sorted : goal.returns-clause-sorted
returns-clause-sorted c =
    subst (λ (list : List NfSet). IsOrdered (λ (set : NfSet). set.name) list) (sym c.from_vec.ensures)
    (ordered_from_sort_by (λ (set : NfSet). set.name) c.sort_by.new.self.items c.in_ok-sort_by.ensures.sorted (λ f a r g h. search rules))
