use Rattle.std.proofs.Common.{rules, sym, ◌∙◌}
use Rattle.std.proofs.lemmas.Bool.{eqb-true, eqb-false}
use Rattle.dbus_wire.proofs.ValueLaws.{some_left}
use Rattle.dbus_msg.proofs.FieldReadingLaws.{take_ends, take_fails, take_on}
use Rattle.dbus_msg.proofs.field_reading.take_fields.Goals as goal
use Rattle.dbus_msg.proofs.field_reading.take_fields.Goals.{else-loop-test, then-loop-test+then-is_empty}

pub returns-in_default : goal.returns-in_default
returns-in_default c =
    sym (take_fails c.args.endian _ c.loop.counter c.loop.known c.loop.next.at c.loop.next.rest.now _ c.loop-test.true (some_left c.loop.next.rest.now c.is_empty.result c.is_empty.ensures c.if-is_empty.false) (search rules) c.loop.invariant)

pub loop-preserved : goal.loop-preserved
loop-preserved c =
    take_on c.args.endian _ c.loop.counter c.loop.known _ c.loop.next.at c.loop.next.rest.now _ _ _ c.loop-test.true (some_left c.loop.next.rest.now c.is_empty.result c.is_empty.ensures c.if-is_empty.false) (search rules) c.loop.invariant

pub returns : goal.returns
returns c =
    elim c.loop-test.branch [
      | else-loop-test w ↦ take_ends c.args.endian _ c.loop.counter c.loop.known c.loop.next.at c.loop.next.rest.now _ c.is_empty-2.result c.is_empty-2.ensures (λ f. w.loop-test.false) c.loop.invariant
      | then-loop-test+then-is_empty w ↦ take_ends c.args.endian _ c.loop.counter c.loop.known c.loop.next.at c.loop.next.rest.now _ c.is_empty-2.result c.is_empty-2.ensures (λ f. absurd (eqb-false _ _ (sym c.is_empty-2.ensures ∙ f) (eqb-true _ _ (sym w.is_empty.ensures ∙ w.if-is_empty.true)))) c.loop.invariant
    ]
