use Rattle.std.proofs.Common.{arith}
use Rattle.dbus_samples.proofs.SampleLaws.{answer_is}
use Rattle.dbus_samples.proofs.samples.answer.Goals as goal

pub returns-clause-writable : goal.returns-clause-writable
returns-clause-writable c =
    rw (c.return_with.ensures, c.in_ok-push.ensures.ok, c.new-body.ensures) (answer_is c.args.serial c.args.reply c.args.truth c.requires.serial (omega (arith, c.ranges.serial.fits)) c.requires.reply (omega (arith, c.ranges.reply.fits)))
