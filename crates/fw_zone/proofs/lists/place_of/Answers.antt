-- The item at the place of this turn is the one that is looked for, or isn't.
use Rattle.std.proofs.Common.{◌≡◌, ◌<◌, ℕ, List, length, Bool, true, false, Some, refl, sym, ap, ◌∙◌, arith, rules}
use Rattle.std.proofs.lemmas.Bool.Decides.{nat_tests}
use Rattle.std.proofs.lemmas.Option.{slice_get_read}
use Rattle.fw_zone.proofs.Items.{absent_before, is_in_at}
use Rattle.fw_zone.proofs.lists.place_of.Goals as goal

pub returns-then-same-clause-listed : goal.returns-then-same-clause-listed
returns-then-same-clause-listed g c =
    let bound : c.loop-place.place < length c.args.items.now = search rules in
    let here = slice_get_read c.args.items.now (length c.args.items.now) c.loop-place.place c.index-items-place.result refl bound c.index-items-place.is in
    (λ _. is_in_at c.args.items.now c.loop-place.place c.args.item.now (here ∙ ap Some (c.same.ensures.0 c.if-same.true)), λ _. refl)

pub loop-place-preserved : goal.loop-place-preserved
loop-place-preserved g c =
    let bound : c.loop-place.place < length c.args.items.now = search rules in
    let here = slice_get_read c.args.items.now (length c.args.items.now) c.loop-place.place c.index-items-place.result refl bound c.index-items-place.is in
    absent_before c.args.items.now c.loop-place.place c.args.item.now c.index-items-place.result here
    (λ same. let is_true = c.same.ensures.1 same in let is_false = c.if-same.false in cc) c.loop-place.invariant
