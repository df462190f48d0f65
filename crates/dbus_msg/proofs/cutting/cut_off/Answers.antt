use Rattle.std.proofs.Common.{◌≡◌, ◌∷◌, [], ◌++◌}
use Rattle.dbus_msg.proofs.CutLaws.{cut_bad, cut_goes_on, cut_open, ok_holds}
use Rattle.dbus_msg.proofs.cutting.cut_off.Goals as goal
use Rattle.dbus_msg.proofs.cutting.cut_off.Goals.{in-Ok-Whole+else-is_ok, in-Ok-Part, in-Ok-Refused, in-Err}

pub loop-message-preserved : goal.loop-message-preserved
loop-message-preserved c =
    let grown = ok_holds (c.push.new.self ≡ c.loop-message.messages ++ c.in-Ok-Whole.message ∷ []) c.push.result c.is_ok.result c.if-is_ok.true c.is_ok.ensures.value c.push.ensures.ok in
    let within = rw c.in-Ok-Whole.field-0-is at c.in-Ok-Whole.ensures.within in
    rw grown (cut_goes_on c.args.bytes.now c.loop-message.messages c.loop-message.rest.now c.in-Ok-Whole.message c.in-Ok-Whole.len c.split_at.result.1.now c.loop-message.invariant c.split_at.ensures.back within.0 within.1 (rw c.in-Ok-Whole.field-0-is at c.in-Ok-Whole.ensures.exact))

pub returns-in-loop-message-clause-open : goal.returns-in-loop-message-clause-open
returns-in-loop-message-clause-open c =
    λ is_open. elim c.match-next_of.branch [
      | in-Ok-Whole+else-is_ok w ↦ absurd cc
      | in-Ok-Part w ↦ rw w.messages-is (cut_open c.args.bytes.now c.loop-message.messages c.loop-message.rest.now c.loop-message.invariant (rw w.in-Ok-Part.field-0-is at w.in-Ok-Part.ensures.exact))
      | in-Ok-Refused w ↦ absurd cc
      | in-Err w ↦ absurd cc
    ]

pub returns-in-loop-message-clause-bad : goal.returns-in-loop-message-clause-bad
returns-in-loop-message-clause-bad c =
    λ is_bad. elim c.match-next_of.branch [
      | in-Ok-Whole+else-is_ok w ↦ absurd cc
      | in-Ok-Part w ↦ absurd cc
      | in-Ok-Refused w ↦ rw w.messages-is (cut_bad c.args.bytes.now c.loop-message.messages c.loop-message.rest.now c.loop-message.invariant (rw w.in-Ok-Refused.field-0-is at w.in-Ok-Refused.ensures.exact))
      | in-Err w ↦ absurd cc
    ]
