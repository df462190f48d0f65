-- An entry that stands for the name comes in front of what was found behind it.
use Rattle.std.proofs.Common.{◌≡◌, ◌∙◌, rules, ◌<◌, ◌-◌, suc, get_or, length, sym, ap, refl, true, arith}
use Rattle.std.proofs.lemmas.Option.{slice_get_read}
use Rattle.fw_addr.specs.Interfaces.{matches}
use Rattle.fw_hits.specs.Bindings.{earlier, entry_order}
use Rattle.fw_hits.proofs.Entries.{entry_more}
use Rattle.fw_hits.proofs.interfaces.first_in.Goals as goal

pub loop-place-preserved-then-matches : goal.loop-place-preserved-then-matches
loop-place-preserved-then-matches c = λ others behind.
    let place = c.loop-place.place - 1 in
    let texts = c.args.zone.now.interfaces in
    let within : place < length texts = search rules in
    let next : suc place ≡ c.loop-place.place = omega arith in
    let here = slice_get_read texts (length texts) place c.index-interfaces-place.result refl within
    (c.index-interfaces-place.is ∙ ap (λ items. get_or items place c.index-interfaces-place.result) c.as_slice-interfaces.ensures)
    in
    let stands : matches c.index-interfaces-place.result c.args.name.now ≡ true = sym c.matches.ensures ∙ c.if-matches.true in
    c.earlier.ensures
    ∙ ap (earlier entry_order (record { zone = c.args.zone.now; text = c.index-interfaces-place.result })) (c.loop-place.invariant others behind)
    ∙ sym (entry_more c.args.zone.now c.args.name.now texts place c.loop-place.place c.index-interfaces-place.result others here stands next)
