use Rattle.std.proofs.Common.{◌+◌, ◌≤◌, length}
use Rattle.dbus_rows.proofs.streams.fed.Given as goal

abbrev pub invariant-loop-piece : goal.invariant-loop-piece
invariant-loop-piece l = l.decoder.place + length l.decoder.bytes + l.left ≤ 1000000
