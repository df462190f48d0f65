use Rattle.std.proofs.Common.{sym, ◌∙◌}
use Rattle.dbus_wire.proofs.FieldLaws.{zeros_more, zeros_fault, zeros_end, zeros_done}
use Rattle.dbus_held.proofs.fields.zeros_at.Goals as goal

pub returns-in_default : goal.returns-in_default
returns-in_default c =
    sym c.loop.invariant ∙ zeros_end c.args.count c.loop.counter c.loop.next.at c.loop.next.rest.now c.loop-test.true c.in_default.ensures

pub returns-then-byte-ne0 : goal.returns-then-byte-ne0
returns-then-byte-ne0 c =
    sym c.loop.invariant ∙ zeros_fault c.args.count c.loop.counter c.loop.next.at c.loop.next.rest.now c.in-Some.byte c.in-Some.after.rest.now c.loop-test.true c.in-Some.ensures.0 c.if-byte-ne0.true

pub loop-preserved : goal.loop-preserved
loop-preserved c =
    sym (zeros_more c.args.count c.loop.counter c.loop.next.at c.loop.next.rest.now c.in-Some.byte c.in-Some.after.at c.in-Some.after.rest.now c.loop-test.true c.in-Some.ensures.0 c.in-Some.ensures.1 c.if-byte-ne0.false) ∙ c.loop.invariant

pub returns : goal.returns
returns c = sym c.loop.invariant ∙ zeros_done c.args.count c.loop.counter c.loop.next.at c.loop.next.rest.now c.loop-test.false
