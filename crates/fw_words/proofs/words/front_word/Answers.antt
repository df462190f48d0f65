-- A quote is one byte, so that what follows it begins with a character.
use Rattle.std.proofs.Common.{◌≡◌, ◌<◌, length, get_or, arith, ap, sym, ◌∙◌, subst}
use Rattle.std.proofs.lemmas.Str.{lead_after_ascii}
use Rattle.fw_words.proofs.Quotes.{quote_is_ascii}
use Rattle.fw_words.proofs.words.front_word.Goals as goal

pub range_from-requires : goal.range_from-requires
range_from-requires c =
    let text = c.args.text.now in
    let same : c.in_ok-first.field-0.now ≡ get_or text 0 0 = c.in_ok-first.ensures.item.3.1 0 ∙ ap (λ s. get_or s 0 0) c.as_bytes.ensures.value in
    let ascii : c.in_ok-first.field-0.now < 128 = quote_is_ascii c.in_ok-first.field-0.now (sym c.is_quote.ensures ∙ c.if-is_quote.true) in
    let first : get_or text 0 0 < 128 = omega arith in
    let some : 0 < length text = subst (λ s. 0 < length s) c.as_bytes.ensures.value c.in_ok-first.ensures.item.3.0 in
    (λ _. (omega arith, λ more high. lead_after_ascii text 0 c.utf8.text first more high))
