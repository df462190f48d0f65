-- What the reader's own steps do: a read behind the bytes ahead, reads until these decide what comes
-- next, and the last line of an input.
use Rattle.std.specs.Prelude.{◌≡◌, ℕ, ◌+◌, ◌-◌, ◌<◌, ◌≤◌, List, [], ◌++◌, length, take, min, Option, None, Some, IfSome, IsSome, nat_lt, if◌then◌else◌}
use Rattle.std.specs.List.{position_or_len}
use Rattle.std.specs.Option.{option_map}
use Rattle.fw_input.specs.declared.advance.Advance.{Advance}
use Rattle.fw_input.specs.declared.advance.Advance.TheVariants as answer
use Rattle.fw_input.specs.declared.buffer.Refill.{Refill}
use Rattle.fw_input.specs.declared.buffer.Refill.TheVariants as refill
use Rattle.fw_input.specs.Lines.{is_lf}
use Rattle.fw_input.specs.Reading.{Reader, decided}

-- The decision by numbers: `first` of the `all` bytes ahead stand before their first LF.
abbrev pub choice : (line_limit budget first all : ℕ) → Option Advance
choice line_limit budget first all =
    if nat_lt line_limit (min budget first) then Some answer.LineTooLong
    else if nat_lt (min budget first) (min budget all) then Some answer.Line
    else if nat_lt budget all then Some answer.InputTooLong
    else None

-- The bytes to come: those ahead, and then what the source has left.
abbrev pub bytes_to_come : (ahead : List ℕ) → (left : Option (List ℕ)) → Option (List ℕ)
bytes_to_come ahead left = option_map (λ bytes. ahead ++ bytes) left

-- Bytes came behind those ahead exactly where the read gave some.
abbrev pub Grows : Refill → (old new : List ℕ) (left : Option (List ℕ)) → Type 0
Grows refill.Bytes old new left = length old < length new
Grows refill.End old new left = (new ≡ old) × IfSome left (λ bytes. bytes ≡ [])
Grows refill.Failed old new left = new ≡ old
Grows refill.Memory old new left = new ≡ old

-- A buffer after a refill: the bytes ahead, of which `count` are new, stand at its front.
pub record Fills (outcome : Refill) (count : ℕ) (front items : List ℕ) (left left_after : Option (List ℕ)) : Type 0 where
  pub holds : length front + count ≤ length items
  pub kept : take (length front) items ≡ front
  pub grows : Grows outcome front (take (length front + count) items) left_after
  pub bytes : bytes_to_come (take (length front + count) items) left_after ≡ bytes_to_come front left

-- Only bytes from the source came behind those ahead.
pub record Refills (outcome : Refill) (old new : Reader) (left left_after : Option (List ℕ)) : Type 0 where
  pub grows : Grows outcome old.ahead new.ahead left_after
  pub bytes : bytes_to_come new.ahead left_after ≡ bytes_to_come old.ahead left
  pub budget : new.budget ≡ old.budget
  pub line : new.line ≡ []
  pub line_limit : new.line_limit ≡ old.line_limit

-- Reads went on while the bytes ahead decided nothing.
abbrev pub GoesOn : Refill → Reader → (left : Option (List ℕ)) → Type 0
GoesOn refill.Bytes new left = IsSome (decided new)
GoesOn refill.End new left = (decided new ≡ None) × IfSome left (λ bytes. bytes ≡ [])
GoesOn refill.Failed new left = decided new ≡ None
GoesOn refill.Memory new left = decided new ≡ None

-- What reads come to: only bytes from the source came behind those ahead, and none where they decided.
pub record ReadsOn (outcome : Refill) (old new : Reader) (left left_after : Option (List ℕ)) : Type 0 where
  pub goes_on : GoesOn outcome new left_after
  pub bytes : bytes_to_come new.ahead left_after ≡ bytes_to_come old.ahead left
  pub budget : new.budget ≡ old.budget
  pub line : new.line ≡ []
  pub line_limit : new.line_limit ≡ old.line_limit

-- The first line ahead is there with its LF, within the input limit.
pub record HasLine (reader : Reader) : Type 0 where
  pub lf : position_or_len is_lf reader.ahead < length reader.ahead
  pub within : position_or_len is_lf reader.ahead < reader.budget

-- The answers that the bytes ahead may decide.
abbrev pub Decides : Advance → Type 0
Decides answer.Line = Unit {0}
Decides answer.LineTooLong = Unit {0}
Decides answer.InputTooLong = Unit {0}
Decides other = ⊥

-- At the end of the input what stands ahead is the last line if it isn't empty.
abbrev pub LastStep : Advance → (old new : Reader) → Type 0
LastStep answer.Line old new =
    (new.ahead ≡ []) × (new.line ≡ old.ahead) × (new.budget ≡ old.budget - (length new.line + 1)) × (new.line_limit ≡ old.line_limit) × (0 < length old.ahead)
LastStep answer.End old new = (new ≡ old) × (old.ahead ≡ [])
LastStep other old new = ⊥
