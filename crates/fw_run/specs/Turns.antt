-- A run in its middle, and what each of its turns does.
use Rattle.std.specs.Prelude.{◌≡◌, ℕ, ◌+◌, List, [], ◌++◌, length, Option, None, Some, IfSome, OnOk, Result}
use Rattle.std.specs.Option.{option_map}
use Rattle.fw_input.specs.Lines.{Judgement, End, InputTooLong, no_line, with_line}
use Rattle.fw_run.specs.Endings.{BeginsWith, EndsBehind, IsBad, Leaves, WritesAll}
use Rattle.fw_run.specs.Language.{Language, Step, run_all}
use Rattle.fw_run.specs.declared.ended.Ended.{Ended}
use Rattle.fw_run.specs.declared.ended.Ended.TheVariants as ended

-- A run in its middle: the state, the number of the next line, and the text that was printed but not written.
pub record Middle (S : Type 0) : Type 0 where
  pub state : S
  pub number : ℕ
  pub unwritten : List ℕ

-- the run behind a line that does this
abbrev pub after_line : {S : Type 0} → Middle S → Step S → Middle S
after_line middle step = record { state = step.state; number = middle.number + 1; unwritten = middle.unwritten ++ step.text }

-- Something ended the run before a line was run.
abbrev pub Stops : {S : Type 0} → Language S → Ended → Middle S → Judgement → Type 0
Stops language ended.Done middle coming = coming ≡ no_line End
Stops language (ended.BadScript number) middle coming = (number ≡ middle.number) × IsBad language [] middle.state coming
Stops language ended.InputTooLong middle coming = coming ≡ no_line InputTooLong
Stops language ended.ReadFault middle coming = Unit {0}
Stops language ended.WriteFault middle coming = ⊥
Stops language ended.Memory middle coming = Unit {0}

-- Then nothing happened, unless no memory was found in the middle of the line.
abbrev pub Stays : {S : Type 0} → Ended → (old new : Middle S) → Type 0
Stays ended.Done old new = new ≡ old
Stays (ended.BadScript number) old new = new ≡ old
Stays ended.InputTooLong old new = new ≡ old
Stays ended.ReadFault old new = new ≡ old
Stays ended.WriteFault old new = new ≡ old
Stays ended.Memory old new = Unit {0}

-- Taking a line: it is run, or something ends the run.
abbrev pub TakesLine : {S : Type 0} → Language S → Option Ended → (old new : Middle S) → (before after : Option Judgement) → Type 0
TakesLine {S} language None old new before after =
    (line : List ℕ) × (step : Step S) × (language old.state line ≡ Some step) × (new ≡ after_line old step) × (before ≡ option_map (with_line line) after)
TakesLine language (Some ended) old new before after = IfSome before (Stops language ended old) × Stays ended old new

-- Writing what was printed: a front of it was written, and where the write didn't fail, the rest is kept.
pub record Flushes {S E : Type 0} (result : Result (Unit {0}) E) (old new : Middle S) (before after : Option (List ℕ)) : Type 0 where
  pub front : List ℕ
  pub behind : List ℕ
  pub printed : old.unwritten ≡ front ++ behind
  pub written : WritesAll front before after
  pub kept : OnOk result (new.unwritten ≡ behind)
  pub state : new.state ≡ old.state
  pub number : new.number ≡ old.number

-- Lines before the lines of a judgement.
abbrev pub with_lines : List (List ℕ) → Judgement → Judgement
with_lines lines judgement = record { lines = lines ++ judgement.lines; ending = judgement.ending }

-- A run that came from a first state to its middle: `input` has the lines of the whole input, `coming` those to come,
-- and the sink held `before` at first and holds `now`.
pub record Progress {S : Type 0} (language : Language S) (first : S) (input : Option Judgement) (before : Option (List ℕ)) (middle : Middle S) (coming : Option Judgement) (now : Option (List ℕ)) : Type 0 where
  pub lines : List (List ℕ)
  pub done : Step S
  pub ran : run_all language first lines ≡ Some done
  pub state : middle.state ≡ done.state
  pub number : middle.number ≡ length lines + 1
  pub lines_are : input ≡ option_map (with_lines lines) coming
  pub front : List ℕ
  pub text : done.text ≡ front ++ middle.unwritten
  pub written : WritesAll front before now

-- How much of the text is written when something ended the run.
abbrev pub Holds : Ended → (text front unwritten : List ℕ) → Type 0
Holds ended.Done text front unwritten = text ≡ front ++ unwritten
Holds (ended.BadScript number) text front unwritten = text ≡ front ++ unwritten
Holds ended.InputTooLong text front unwritten = text ≡ front ++ unwritten
Holds ended.ReadFault text front unwritten = text ≡ front ++ unwritten
Holds ended.WriteFault text front unwritten = BeginsWith text front
Holds ended.Memory text front unwritten = BeginsWith text front

-- A run that something ended, before the rest of its text is written.
pub record Stopped {S : Type 0} (language : Language S) (first : S) (ended : Ended) (input : Option Judgement) (before : Option (List ℕ)) (middle : Middle S) (now : Option (List ℕ)) : Type 0 where
  pub lines : List (List ℕ)
  pub done : Step S
  pub ran : run_all language first lines ≡ Some done
  pub ends : IfSome input (EndsBehind language ended lines done.state)
  pub state : Leaves ended done.state middle.state
  pub front : List ℕ
  pub text : Holds ended done.text front middle.unwritten
  pub written : WritesAll front before now

-- Running a line's bytes.
abbrev pub RunsBytes : {S : Type 0} → Language S → Option Ended → (line : List ℕ) → (old new : Middle S) → Type 0
RunsBytes {S} language None line old new = (step : Step S) × (language old.state line ≡ Some step) × (new ≡ after_line old step)
RunsBytes language (Some (ended.BadScript number)) line old new = (number ≡ old.number) × (language old.state line ≡ None) × (new ≡ old)
RunsBytes language (Some ended.Memory) line old new = Unit {0}
RunsBytes language (Some ended.Done) line old new = ⊥
RunsBytes language (Some ended.InputTooLong) line old new = ⊥
RunsBytes language (Some ended.ReadFault) line old new = ⊥
RunsBytes language (Some ended.WriteFault) line old new = ⊥
