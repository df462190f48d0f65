use Rattle.std.proofs.Common.{get_or, arith}
use Rattle.std.proofs.lemmas.Int.Digits.{number_more}
use Rattle.fw_addr.proofs.PowerLemmas.{digit_fits}
use Rattle.fw_addr.proofs.ipv6.number.Goals as goal

pub overflow_mul-number : goal.overflow_mul-number
overflow_mul-number c =
    let fits = digit_fits 65536 8 c.loop-group.group-index c.loop-group.number 0 (omega arith) (omega arith) c.loop-group.invariant.fits (omega arith) in
    omega (arith, fits.1)

pub overflow_add-number : goal.overflow_add-number
overflow_add-number c =
    let fits = digit_fits 65536 8 c.loop-group.group-index c.loop-group.number (get_or c.args.groups.now c.loop-group.group-index 0) (omega arith) (omega arith) c.loop-group.invariant.fits (omega (arith, c.type_inv.groups c.loop-group.group-index)) in
    omega (arith, fits.1, c.from.ensures)

pub loop-group-preserved : goal.loop-group-preserved
loop-group-preserved c =
    let group = get_or c.args.groups.now c.loop-group.group-index 0 in
    let fits = digit_fits 65536 8 c.loop-group.group-index c.loop-group.number group (omega arith) (omega arith) c.loop-group.invariant.fits (omega (arith, c.type_inv.groups c.loop-group.group-index)) in
    let more = number_more 65536 c.args.groups.now c.loop-group.group-index c.loop-group-test.true in
    record { spells = omega (arith, more, c.loop-group.invariant.spells, c.from.ensures); fits = rw c.from.ensures fits.0 }
