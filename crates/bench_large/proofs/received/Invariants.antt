use Rattle.std.proofs.Common.{◌+◌, ◌≤◌, length}
use Rattle.bench_large.proofs.received.Given as goal

abbrev pub invariant-loop : goal.invariant-loop
invariant-loop l = l.decoder.place + length l.decoder.bytes + l.left ≤ 1099511627776
