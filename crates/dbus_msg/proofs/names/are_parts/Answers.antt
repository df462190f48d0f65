use Rattle.std.proofs.Common.{length, sym, ap, ◌∙◌}
use Rattle.dbus_msg.specs.Names.{is_part}
use Rattle.dbus_msg.proofs.NameLaws.{parts_end_here, parts_fail, parts_go_behind}
use Rattle.dbus_msg.proofs.names.are_parts.Goals as goal

pub returns-then-not-is_part : goal.returns-then-not-is_part
returns-then-not-is_part c =
    parts_fail (is_part c.args.part) c.loop-rest.rest.now c.args.text.now c.dot_in-dot.result c.dot_in-dot.ensures.place c.dot_in-dot.ensures.within (sym c.is_part.ensures ∙ c.if-not-is_part.true) c.loop-rest.invariant

pub returns-in_default : goal.returns-in_default
returns-in_default c =
    parts_end_here (is_part c.args.part) c.loop-rest.rest.now c.args.text.now c.dot_in-dot.result c.dot_in-dot.ensures.place c.dot_in-dot.ensures.within (sym (ap length c.split_at.ensures.back) ∙ c.in_default.ensures.cases) (sym c.is_part.ensures ∙ c.if-not-is_part.false) c.loop-rest.invariant

pub loop-rest-preserved : goal.loop-rest-preserved
loop-rest-preserved c =
    parts_go_behind (is_part c.args.part) c.loop-rest.rest.now c.args.text.now c.dot_in-dot.result c.in-Some.field-0-0.now c.in-Some.more.now c.dot_in-dot.ensures.place (sym c.split_at.ensures.back ∙ c.in-Some.ensures.cases.0) (sym c.is_part.ensures ∙ c.if-not-is_part.false) c.loop-rest.invariant
