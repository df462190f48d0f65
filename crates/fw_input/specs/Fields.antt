-- What the fields of a reader mean, and what holds of them.
use Rattle.std.specs.Prelude.{◌≡◌, ◌+◌, ◌-◌, ◌≤◌, slice_range, vec_len}
use Rattle.std.specs.List.{position_or_len}
use Rattle.fw_input.specs.declared.line_reader.LineReader.TheInside.{Inside}
use Rattle.fw_input.specs.Lines.{is_lf}
use Rattle.fw_input.specs.Reading.{Reader}

abbrev pub reader_of : Inside → Reader
reader_of r = record {
  ahead = slice_range r.buffer.items r.start r.end;
  budget = r.budget;
  line = slice_range r.buffer.items r.found_start r.found_end;
  line_limit = r.line_limit;
}

-- The bytes ahead and the line found last lie in the buffer, the first LF ahead is known, and the buffer
-- is at most one piece longer than a line may be.
pub record IsPlaced (r : Inside) : Type 0 where
  pub starts : r.start ≤ r.line_end
  pub within : r.line_end ≤ r.end
  pub ends : r.end ≤ vec_len r.buffer
  pub first : position_or_len is_lf (slice_range r.buffer.items r.start r.end) ≡ r.line_end - r.start
  pub bounded : vec_len r.buffer ≤ r.line_limit + 65536
  pub found : r.found_start ≤ r.found_end
  pub found_ends : r.found_end ≤ vec_len r.buffer
