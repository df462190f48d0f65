-- What neighbours show of all.
use Rattle.std.proofs.Common.{rules}
use Rattle.std.specs.Cmp.Lexicographic.{slice_cmp}
use Rattle.std.specs.Ordering.{is_lt, nat_cmp}
use Rattle.std.proofs.lemmas.Fn.{always_returns_same}
use Rattle.nf_sound.proofs.Order.{by_name_from}
use Rattle.nf_sound.proofs.named.is_by_name.Goals as goal

pub returns : goal.returns
returns g c =
    let name_of = g.T.Named.name_of in
    by_name_from name_of c.args.items.now c.is_sorted_by.result
    (c.is_sorted_by.ensures.cases (λ one other. is_lt (slice_cmp nat_cmp (name_of one) (name_of other))) (always_returns_same _ _ _ (λ a r f k. search rules)))
