-- The next line begins behind the LF, and its own LF is sought there.
use Rattle.std.proofs.Common.{◌≡◌, ◌+◌, ◌-◌, arith, refl, sym, ◌∙◌}
use Rattle.fw_input.proofs.LineLemmas.{position-slice_range}
use Rattle.fw_input.proofs.PlaceLemmas.{line-fits, drop-slice_range}
use Rattle.fw_input.proofs.line_reader.LineReader.take_line.Goals as goal

pub overflow_add-self-3 : goal.overflow_add-self-3
overflow_add-self-3 c =
    let fits = line-fits _ _ c.self.view_is c.self.invariant c.requires in
    let short = position-slice_range c.deref.result.now (c.self.inside.line_end + 1) c.self.inside.end in
    omega (arith, fits.lf, short, c.self.invariant.ends)

pub invariant_of-self : goal.invariant_of-self
invariant_of-self c =
    let fits = line-fits _ _ c.self.view_is c.self.invariant c.requires in
    let short = position-slice_range c.deref.result.now (c.self.inside.line_end + 1) c.self.inside.end in
    record {
      starts = omega arith;
      within = omega (arith, fits.lf, short);
      ends = c.self.invariant.ends;
      first =
          let found = rw c.deref.ensures.value at c.line_length.ensures in
          sym found ∙ omega arith;
      bounded = c.self.invariant.bounded;
      found = c.self.invariant.starts;
      found_ends = omega (arith, c.self.invariant.within, c.self.invariant.ends);
    }

pub returns-clause-ahead : goal.returns-clause-ahead
returns-clause-ahead c =
    let fits = line-fits _ _ c.self.view_is c.self.invariant c.requires in
    let placed = c.self.invariant in
    let part = drop-slice_range c.self.inside.buffer.items c.self.inside.start c.self.inside.end (c.self.inside.line_end - c.self.inside.start + 1) (omega (arith, fits.lf, placed.starts)) in
    let behind : c.self.inside.start + (c.self.inside.line_end - c.self.inside.start + 1) ≡ c.self.inside.line_end + 1 = omega (arith, placed.starts) in
    rw (← c.self.view_is, placed.first, part, behind) refl
