use Rattle.std.proofs.Common.{arith, ap}
use denote.Param.Weighed.{at_most}
use Rattle.dbus_wire.proofs.value.Value.TheLaws.{the_size}
use Rattle.std.proofs.lemmas.Result.{err_from_is_err_and, on_ok_weaker}
use Rattle.dbus_wire.proofs.KeepsLaws.{begins_more}
use Rattle.dbus_wire.proofs.SpellingLaws.{row_goes_on, item_short, pair_pushed, still_behind, variant_pushed}
use Rattle.dbus_wire.proofs.writing.+writing.Goals as goal

pub push_values-push_value-requires : goal.push_values-push_value-requires
push_values-push_value-requires t c =
    let size = ap the_size c.value-item.is in
    let least = at_most the_size c.args.values.now c.loop-value.value-index c.value-item.result c.loop-value-test.true in
    (omega (arith, c.decreases, size, least), (still_behind c.args.out.now.items _ c.loop-value.out.items c.args.origin c.requires.origin c.loop-value.invariant, item_short c.args.endian c.args.values.now c.loop-value.value-index c.value-item.result c.args.out.now.items c.loop-value.out.items c.args.origin _ c.loop-value-test.true c.value-item.is c.requires.origin c.loop-value.invariant c.requires.short))

pub push_values-loop-value-preserved : goal.push_values-loop-value-preserved
push_values-loop-value-preserved t c =
    row_goes_on c.args.endian c.args.values.now c.loop-value.value-index c.value-item.result c.args.out.now.items c.loop-value.out.items _ c.args.origin c.loop-value-test.true c.value-item.is c.requires.origin c.loop-value.invariant c.in_ok-push_value.ensures.ok

pub push_values-returns-in_err-push_value-clause-err : goal.push_values-returns-in_err-push_value-clause-err
push_values-returns-in_err-push_value-clause-err t c =
    let p = err_from_is_err_and c.from_residual.result c.from_residual.ensures.1 in
    rw p.1 (λ front begins. c.in_err-push_value.ensures.err front (begins_more front _ _ _ c.loop-value.invariant begins))

pub push_value-returns-in_ok-push_value-in-Pair-clause-ok : goal.push_value-returns-in_ok-push_value-in-Pair-clause-ok
push_value-returns-in_ok-push_value-in-Pair-clause-ok t c =
    on_ok_weaker c.push_value-in-Pair.result
    (λ is. rw c.in-Pair.is (pair_pushed c.args.endian c.in-Pair.key c.in-Pair.inner c.args.origin c.args.out.now.items _ _ _ c.requires.origin c.in_ok-push_padding-in-Pair.ensures.ok (rw c.get.ensures at c.in_ok-push_value-in-Pair.ensures.ok) (rw c.get-in-Pair.ensures at is)))
    c.push_value-in-Pair.ensures.ok

pub push_value-returns-in_ok-push_signature-in-Variant-clause-ok : goal.push_value-returns-in_ok-push_signature-in-Variant-clause-ok
push_value-returns-in_ok-push_signature-in-Variant-clause-ok t c =
    on_ok_weaker c.push_value-in-Variant.result
    (λ is. rw c.in-Variant.is (variant_pushed c.args.endian c.in-Variant.signature c.in-Variant.inner c.args.origin c.args.out.now.items _ _ c.requires.origin (rw c.as_bytes-in-Variant.ensures.bytes at c.in_ok-push_signature-in-Variant.ensures.ok) (rw c.get-in-Variant.ensures at is)))
    c.push_value-in-Variant.ensures.ok
