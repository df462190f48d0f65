use Rattle.std.proofs.Common.{arith}
use Rattle.dbus_samples.proofs.SampleLaws.{pong_is}
use Rattle.dbus_samples.proofs.samples.pong.Goals as goal

pub returns-clause-writable : goal.returns-clause-writable
returns-clause-writable c = rw (c.return_with.ensures, c.new.ensures) (pong_is c.args.serial c.args.reply c.requires.serial (omega (arith, c.ranges.serial.fits)) c.requires.reply (omega (arith, c.ranges.reply.fits)))
