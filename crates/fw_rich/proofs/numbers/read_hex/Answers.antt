use Rattle.std.proofs.Common.{ℕ, ◌+◌, ◌*◌, ◌^◌, ◌<◌, ◌≤◌, ◌∷◌, ◌∙◌, ap, sym, drop, get_or, arith}
use Rattle.std.proofs.lemmas.List.{at_drop_more}
use Rattle.fw_rich.specs.Numbers.{hex_to}
use Rattle.fw_rich.proofs.HexLemmas.{hex_to_more}
use Rattle.fw_rich.proofs.HexLemmas.{digit_fits}
use Rattle.fw_rich.proofs.numbers.read_hex.Goals as goal

-- a digit more fits into eight
more : (c : goal.In_ok-digit) → (c.loop-byte.before * 16 + c.in_ok-digit.digit < 16 ^ (c.loop-byte.byte-index + 1)) × (c.loop-byte.before * 16 + c.in_ok-digit.digit < 16 ^ 8)
more c = digit_fits 16 8 c.loop-byte.byte-index c.loop-byte.before c.in_ok-digit.digit (omega arith) (omega arith) c.loop-byte.invariant.fits (omega (arith, c.in_ok-digit.ensures.value))

pub overflow_mul-before : goal.overflow_mul-before
overflow_mul-before c = omega (arith, (more c).1)

pub overflow_add-before : goal.overflow_add-before
overflow_add-before c = omega (arith, (more c).1)

pub loop-byte-preserved : goal.loop-byte-preserved
loop-byte-preserved c =
    let byte = get_or c.args.text.now c.loop-byte.byte-index 0 in
    let here = at_drop_more (hex_to c.loop-byte.before) c.args.text.now c.loop-byte.byte-index 0 c.loop-byte-test.true in
    let rest = drop (c.loop-byte.byte-index + 1) c.args.text.now in
    let value = c.in_ok-digit.ensures.value in
    let step = hex_to_more c.loop-byte.before c.from.result c.in_ok-digit.digit rest value.0 value.1 in
    let read = ap (λ (b : ℕ). hex_to c.loop-byte.before (b ∷ rest)) c.from.ensures in
    record { spells = step ∙ read ∙ sym here ∙ c.loop-byte.invariant.spells; fits = (more c).0 }
