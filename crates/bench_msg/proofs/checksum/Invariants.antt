use Rattle.std.proofs.Common.{◌+◌, ◌≤◌, length}
use Rattle.bench_msg.proofs.checksum.Given as goal

abbrev pub invariant-loop-serial : goal.invariant-loop-serial
invariant-loop-serial l = l.decoder.place + length l.decoder.bytes + l.left ≤ 1099511627776
