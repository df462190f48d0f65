use Rattle.std.proofs.Common.{◌+◌, ◌∙◌, sym, drop, get_or}
use Rattle.std.proofs.lemmas.List.{at_drop_more}
use Rattle.fw_text.specs.Number.{digits_to}
use Rattle.fw_text.proofs.NumberLemmas.{digits_to_more, digits_to_stops}
use Rattle.fw_text.proofs.number.read_digits.Goals as goal

pub returns-in-None-clause-value : goal.returns-in-None-clause-value
returns-in-None-clause-value c =
    let byte = get_or c.args.text.now c.loop-byte.byte-index 0 in
    let rest = drop (c.loop-byte.byte-index + 1) c.args.text.now in
    let stops = digits_to_stops c.args.most c.loop-byte.before byte rest (sym c.read_digit.ensures ∙ c.in-None.is) in
    let here = at_drop_more (digits_to c.args.most c.loop-byte.before) c.args.text.now c.loop-byte.byte-index 0 c.loop-byte-test.true in
    sym (sym c.loop-byte.invariant.spells ∙ here ∙ stops)

pub loop-byte-preserved : goal.loop-byte-preserved
loop-byte-preserved c =
    let byte = get_or c.args.text.now c.loop-byte.byte-index 0 in
    let rest = drop (c.loop-byte.byte-index + 1) c.args.text.now in
    let more = digits_to_more c.args.most c.loop-byte.before byte c.in-Some.number rest (sym c.read_digit.ensures ∙ c.in-Some.is) in
    let here = at_drop_more (digits_to c.args.most c.loop-byte.before) c.args.text.now c.loop-byte.byte-index 0 c.loop-byte-test.true in
    record { spells = more.0 ∙ sym here ∙ c.loop-byte.invariant.spells; fits = more.1 }
