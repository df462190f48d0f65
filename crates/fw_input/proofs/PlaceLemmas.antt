-- Where the bytes ahead stand after a line was taken and after a refill.
use Rattle.std.proofs.Common.{◌≡◌, ℕ, ◌+◌, ◌-◌, ◌<◌, ◌≤◌, not, List, length, take, drop, slice_range, None, refl, ◌∙◌, arith}
use Rattle.std.specs.List.{position_or_len}
use Rattle.std.proofs.lemmas.Bool.Decides.{nat_tests}
use Rattle.std.proofs.lemmas.List.{drop-drop, drop-take}
use Rattle.std.proofs.lemmas.List.Folds.{prefix_len-append}
use Rattle.fw_input.specs.declared.line_reader.LineReader.TheInside.{Inside}
use Rattle.fw_input.specs.Fields.{IsPlaced, reader_of}
use Rattle.fw_input.specs.Lines.{is_lf}
use Rattle.fw_input.specs.Reading.{Reader, decided}
use Rattle.fw_input.specs.Refilling.{HasLine}
use Rattle.fw_input.proofs.DecisionLemmas.{undecided}
use Rattle.fw_input.proofs.FillLemmas.{take-plus}
use Rattle.fw_input.proofs.LineLemmas.{length-slice_range}

pub record LineFits (r : Inside) : Type 0 where
  pub lf : r.line_end < r.end
  pub within : r.line_end - r.start < r.budget

-- a line that is there lies before the end, and within the budget
pub line-fits : (r : Inside) (now : Reader) → reader_of r ≡ now → IsPlaced r → HasLine now → LineFits r
line-fits r now view placed has =
    let here : HasLine (reader_of r) = rw view has in
    let all : length (slice_range r.buffer.items r.start r.end) ≡ r.end - r.start = length-slice_range _ _ _ (omega (arith, r.buffer.ok.0, placed.ends)) in
    record { lf = omega (arith, all, here.lf, placed.first); within = omega (arith, here.within, placed.first) }

-- a part of a part
pub drop-slice_range : (bytes : List ℕ) (start end n : ℕ) → start + n ≤ end → drop n (slice_range bytes start end) ≡ slice_range bytes (start + n) end
drop-slice_range bytes start end n within =
    let whole : end - start ≡ n + (end - (start + n)) = omega arith in
    rw (whole, drop-take, drop-drop n start bytes) refl

-- no LF is in the front, so the first one is the first one behind it
pub refilled : (front items : List ℕ) (n count : ℕ) → length front ≡ n → position_or_len is_lf front ≡ n → take n items ≡ front → n + count ≤ length items → position_or_len is_lf (slice_range items 0 (n + count)) ≡ n + position_or_len is_lf (slice_range items n (n + count))
refilled front items n count is_n none kept holds =
    let whole : n + count - 0 ≡ n + count = omega arith in
    let fresh : n + count - n ≡ count = omega arith in
    rw (whole, fresh, take-plus n count items (omega arith), kept)
    (grind (arith, nat_tests, prefix_len-append (λ b. not (is_lf b)) front (take count (drop n items))))

-- where nothing is decided no LF is ahead
pub front-has_none : (r : Inside) (now : Reader) → reader_of r ≡ now → IsPlaced r → decided now ≡ None → position_or_len is_lf (slice_range r.buffer.items r.start r.end) ≡ r.end - r.start
front-has_none r now view placed none =
    let here : decided (reader_of r) ≡ None = rw view none in
    let all : length (slice_range r.buffer.items r.start r.end) ≡ r.end - r.start = length-slice_range _ _ _ (omega (arith, r.buffer.ok.0, placed.ends)) in
    (undecided (reader_of r) here).0 ∙ all

-- and the bytes ahead are no more than a line may have
pub front-short : (r : Inside) (now : Reader) → reader_of r ≡ now → IsPlaced r → decided now ≡ None → r.end - r.start ≤ r.line_limit
front-short r now view placed none =
    let here : decided (reader_of r) ≡ None = rw view none in
    let all : length (slice_range r.buffer.items r.start r.end) ≡ r.end - r.start = length-slice_range _ _ _ (omega (arith, r.buffer.ok.0, placed.ends)) in
    omega (arith, all, (undecided (reader_of r) here).1)
