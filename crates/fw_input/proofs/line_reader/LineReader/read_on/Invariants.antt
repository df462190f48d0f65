-- Only bytes from the source came behind those ahead; and while these decided from the first on, nothing
-- was read at all.
use Rattle.std.proofs.Common.{◌≡◌, ◌+◌, ◌-◌, ◌≤◌, [], length, IsSome}
use Rattle.fw_input.specs.Reading.{decided}
use Rattle.fw_input.specs.Refilling.{bytes_to_come}
use Rattle.fw_input.proofs.line_reader.LineReader.read_on.Given as goal

abbrev pub invariant-loop-self : goal.invariant-loop-self
invariant-loop-self g l = record {
  bytes : bytes_to_come l.self.ahead (g.S.Source.left l.source) ≡ bytes_to_come l.fn.self.ahead (g.S.Source.left l.fn.source);
  budget : l.self.budget ≡ l.fn.self.budget;
  line : l.self.line ≡ [];
  line_limit : l.self.line_limit ≡ l.fn.self.line_limit;
  no_read : IsSome (decided l.fn.self) → (l.self ≡ l.fn.self) × (g.S.Source.left l.source ≡ g.S.Source.left l.fn.source) × (g.S.Source.faults l.source ≡ g.S.Source.faults l.fn.source);
  counted : g.S.Source.faults l.fn.source ≤ g.S.Source.faults l.source;
}

-- Each read makes the bytes ahead longer, and undecided they are no longer than a line.
abbrev pub decreases-loop-self : goal.decreases-loop-self
decreases-loop-self g l = l.self.line_limit + 1 - length l.self.ahead
