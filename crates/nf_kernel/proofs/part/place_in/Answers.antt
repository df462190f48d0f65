-- What a search by halves finds.
use Rattle.std.proofs.Common.{rules}
use Rattle.std.specs.Cmp.Lexicographic.{slice_cmp}
use Rattle.std.specs.Ordering.{nat_cmp}
use Rattle.std.proofs.lemmas.Fn.{always_returns_same}
use Rattle.nf_kernel.proofs.Parts.{lies_from}
use Rattle.nf_kernel.proofs.part.place_in.Goals as goal

pub returns : goal.returns
returns g c =
    let name_of = g.T.Part.name_of in
    (lies_from name_of c.args.name.now c.args.parts.now c.binary_search_by.result c.requires c.binary_search_by.ensures.bound
    (c.binary_search_by.ensures.position (λ item. slice_cmp nat_cmp (name_of item) c.args.name.now) (always_returns_same _ _ _ (λ a r f k. search rules))))
