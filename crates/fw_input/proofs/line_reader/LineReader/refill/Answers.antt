-- The bytes ahead stand at the front then, and the first LF is sought only in what is new.
use Rattle.std.proofs.Common.{◌≡◌, ◌+◌, ◌-◌, ◌∙◌, arith, take, sym, ap, slice_range}
use Rattle.fw_input.proofs.LineLemmas.{length-slice_range, position-slice_range}
use Rattle.fw_input.proofs.PlaceLemmas.{front-has_none, front-short, refilled}
use Rattle.fw_input.proofs.line_reader.LineReader.refill.Goals as goal

pub overflow_add-self-2 : goal.overflow_add-self-2
overflow_add-self-2 g c =
    let r = c.self.inside in
    let n = r.end - r.start in
    let front = length-slice_range r.buffer.items r.start r.end (omega (arith, r.buffer.ok.0, c.self.invariant.ends)) in
    let short = position-slice_range c.deref.result.now n (n + c.fill-outcome.result.1) in
    omega (arith, front, short, c.fill-outcome.ensures.fills.holds, c.fill-outcome.new.buffer.ok.0)

pub invariant_of-self : goal.invariant_of-self
invariant_of-self g c =
    let r = c.self.inside in
    let n = r.end - r.start in
    let fills = c.fill-outcome.ensures.fills in
    let front = length-slice_range r.buffer.items r.start r.end (omega (arith, r.buffer.ok.0, c.self.invariant.ends)) in
    let short = position-slice_range c.deref.result.now n (n + c.fill-outcome.result.1) in
    let found = rw c.deref.ensures.value at c.line_length.ensures in
    let none = front-has_none r _ c.self.view_is c.self.invariant c.requires.undecided in
    let kept : take n c.fill-outcome.new.buffer.items ≡ slice_range r.buffer.items r.start r.end = rw front at fills.kept in
    record {
      starts = omega arith;
      within = omega (arith, short);
      ends = omega (arith, front, fills.holds, c.fill-outcome.new.buffer.ok.0);
      first =
          refilled (slice_range r.buffer.items r.start r.end) _ n c.fill-outcome.result.1 front none kept (omega (arith, front, fills.holds))
          ∙ (ap (λ k. n + k) (sym found) ∙ omega arith);
      bounded =
          omega (arith, c.fill-outcome.ensures.bounded, c.self.invariant.bounded, front-short r _ c.self.view_is c.self.invariant c.requires.undecided);
      found = omega arith;
      found_ends = omega arith;
    }
