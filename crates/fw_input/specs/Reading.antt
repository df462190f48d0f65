-- A reader of lines as a plain value, and what an advance of it does.
use Rattle.std.specs.Prelude.{◌≡◌, ℕ, ◌+◌, ◌-◌, List, ◌++◌, length, take, Option, None, Some, nat_lt, if◌then◌else◌}
use Rattle.std.specs.List.{before_first}
use Rattle.std.specs.Option.{option_map}
use Rattle.fw_input.specs.declared.advance.Advance.{Advance}
use Rattle.fw_input.specs.declared.advance.Advance.TheVariants as answer
use Rattle.fw_input.specs.Lines.{Ending, Judgement, is_lf, judged, with_line, no_line, next}
use Rattle.fw_input.specs.Lines as lines

-- A reader: the bytes that it took from its source and hasn't given as lines; how many bytes, counted
-- from the first of these on, are within the input limit; the line that the last advance found, empty if
-- it found none; and how many bytes a line may have.
pub record Reader : Type 0 where
  pub ahead : List ℕ
  pub budget : ℕ
  pub line : List ℕ
  pub line_limit : ℕ

-- What the bytes ahead decide by themselves, whatever follows them: their first line is longer than a
-- line may be, or its LF is there, or there are more bytes than the input may have.
unfoldable pub decided : Reader → Option Advance
decided reader =
    let within = take reader.budget reader.ahead in
    let line = before_first is_lf within in
    if nat_lt reader.line_limit (length line) then Some answer.LineTooLong
    else if nat_lt (length line) (length within) then Some answer.Line
    else if nat_lt reader.budget (length reader.ahead) then Some answer.InputTooLong
    else None

-- An ending came next; nothing was spent.
pub record Ended (ending : Ending) (old new : Reader) (before after : List ℕ) : Type 0 where
  pub next : next old.line_limit old.budget before ≡ lines.Over ending
  pub bytes : after ≡ before
  pub budget : new.budget ≡ old.budget

-- What an advance does where `before` and `after` are the bytes to come before and after it: the bytes
-- ahead, and then what the source has left.
abbrev pub Steps : Advance → Reader → Reader → List ℕ → List ℕ → Type 0
Steps answer.Line old new before after =
    (next old.line_limit old.budget before ≡ lines.Line new.line after) × (new.budget ≡ old.budget - (length new.line + 1))
Steps answer.End old new before after = Ended lines.End old new before after
Steps answer.LineTooLong old new before after = Ended lines.LineTooLong old new before after
Steps answer.InputTooLong old new before after = Ended lines.InputTooLong old new before after
Steps answer.Failed old new before after = (after ≡ before) × (new.budget ≡ old.budget)
Steps answer.Memory old new before after = (after ≡ before) × (new.budget ≡ old.budget)

-- The same, where the source tells what it has left: `left` before the advance, `left_after` after it.
-- Whether it tells stays.
abbrev pub Advances : Advance → Reader → Reader → (left left_after : Option (List ℕ)) → Type 0
Advances came old new (Some left) (Some left_after) = Steps came old new (old.ahead ++ left) (new.ahead ++ left_after)
Advances came old new (Some left) None = ⊥
Advances came old new None (Some left_after) = ⊥
Advances came old new None None = Unit {0}

-- The judgement of all that is to come, where the source tells what it has left.
abbrev pub outlook : Reader → Option (List ℕ) → Option Judgement
outlook reader left = option_map (λ bytes. judged reader.line_limit reader.budget (reader.ahead ++ bytes)) left

-- What an answer says of the judgements of all that is to come, before the advance and after it.
abbrev pub Judges : Advance → (line : List ℕ) → (before after : Option Judgement) → Type 0
Judges answer.Line line before after = before ≡ option_map (with_line line) after
Judges answer.End line before after = (before ≡ option_map (λ _. no_line lines.End) before) × (after ≡ before)
Judges answer.LineTooLong line before after = (before ≡ option_map (λ _. no_line lines.LineTooLong) before) × (after ≡ before)
Judges answer.InputTooLong line before after = (before ≡ option_map (λ _. no_line lines.InputTooLong) before) × (after ≡ before)
Judges answer.Failed line before after = after ≡ before
Judges answer.Memory line before after = after ≡ before
