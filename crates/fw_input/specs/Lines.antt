-- What the lines of an input are, within a limit on the length of a line and one on the length of the
-- input. LF (byte 10) ends a line; the last line may lack it (POSIX.1, "Line" and "Incomplete Line").
use Rattle.std.specs.Prelude.{ℕ, ◌+◌, Bool, List, [], ◌∷◌, length, take, drop, take_while, ◌==◌, nat_lt, nat_le, if◌then◌else◌}
use Rattle.std.specs.List.{slice_split, before_first}

-- LF
abbrev pub is_lf : ℕ → Bool
is_lf byte = byte == 10

-- How an input ends: no bytes are left, a line has more bytes than a line may have, or the input has.
pub data Ending : Type 0 where
  End : Ending
  LineTooLong : Ending
  InputTooLong : Ending

-- The lines of an input in order, and how it ends after them.
pub record Judgement : Type 0 where
  pub lines : List (List ℕ)
  pub ending : Ending

-- Of the pieces between LFs all but the last are whole lines.
abbrev pub whole_lines : List (List ℕ) → List (List ℕ)
whole_lines [] = []
whole_lines (last ∷ []) = []
whole_lines (piece ∷ next ∷ more) = piece ∷ whole_lines (next ∷ more)

-- At the end of the input the last piece, what stands behind the last LF, is a line too if it isn't empty.
abbrev pub all_lines : List (List ℕ) → List (List ℕ)
all_lines [] = []
all_lines (last ∷ []) = if length last == 0 then [] else last ∷ []
all_lines (piece ∷ next ∷ more) = piece ∷ all_lines (next ∷ more)

-- The judgement of a whole input. Its bytes within the input limit are cut into pieces at the LFs. The
-- first piece that is longer than a line may be ends the input, and so does the input limit where bytes
-- lie beyond it.
unfoldable pub judged : (line_limit input_limit : ℕ) → List ℕ → Judgement
judged line_limit input_limit bytes =
    let pieces = slice_split is_lf (take input_limit bytes) in
    let short = take_while (λ piece. nat_le (length piece) line_limit) pieces in
    if nat_lt (length short) (length pieces) then record { lines = short; ending = LineTooLong }
    else if nat_lt input_limit (length bytes) then record { lines = whole_lines pieces; ending = InputTooLong }
    else record { lines = all_lines pieces; ending = End }

-- A judgement with one more line before its lines.
abbrev pub with_line : List ℕ → Judgement → Judgement
with_line line after = record { lines = line ∷ after.lines; ending = after.ending }

-- The judgement of an input that has no line.
abbrev pub no_line : Ending → Judgement
no_line ending = record { lines = []; ending = ending }

-- What comes next of some bytes: a line, with the bytes that follow it and its LF, or the end.
pub data Next : Type 0 where
  Line : (line rest : List ℕ) → Next
  Over : Ending → Next

-- What comes next, where so many bytes (the budget) are still within the input limit.
unfoldable pub next : (line_limit budget : ℕ) → List ℕ → Next
next line_limit budget bytes =
    let within = take budget bytes in
    let line = before_first is_lf within in
    if nat_lt line_limit (length line) then Over LineTooLong
    else if nat_lt (length line) (length within) then Line line (drop (length line + 1) bytes)
    else if nat_lt budget (length bytes) then Over InputTooLong
    else if length bytes == 0 then Over End
    else Line bytes []
