-- How a run over an input and an output ends.
use Rattle.std.specs.Prelude.{◌≡◌, ℕ, ◌+◌, ◌≤◌, ◌⊎◌, List, ◌∷◌, ◌++◌, length, Option, None, Some, IfSome}
use Rattle.std.specs.Option.{option_map}
use Rattle.fw_base.specs.Causes.{Rose}
use Rattle.fw_input.specs.Lines.{Judgement, End, LineTooLong, InputTooLong}
use Rattle.fw_run.specs.Language.{Language, Step, run_all}
use Rattle.fw_run.specs.declared.ended.Ended.{Ended}
use Rattle.fw_run.specs.declared.ended.Ended.TheVariants as ended

-- A list begins with another.
abbrev pub BeginsWith : {X : Type 0} → (all front : List X) → Type 0
BeginsWith {X} all front = (rest : List X) × (all ≡ front ++ rest)

-- The line that ended a run behind these lines: one over the limit of a line, or one outside the grammar.
abbrev pub IsBad : {S : Type 0} → Language S → List (List ℕ) → S → Judgement → Type 0
IsBad language lines state judgement =
    (judgement ≡ record { lines = lines; ending = LineTooLong })
    ⊎ ((bad : List ℕ) × (more : List (List ℕ)) × (judgement.lines ≡ lines ++ bad ∷ more) × (language state bad ≡ None))

-- Which lines ran, where these are an input's lines and its ending. The input decides the first three.
abbrev pub EndsBehind : {S : Type 0} → Language S → Ended → List (List ℕ) → S → Judgement → Type 0
EndsBehind language ended.Done lines state judgement = judgement ≡ record { lines = lines; ending = End }
EndsBehind language (ended.BadScript number) lines state judgement = (number ≡ length lines + 1) × IsBad language lines state judgement
EndsBehind language ended.InputTooLong lines state judgement = judgement ≡ record { lines = lines; ending = InputTooLong }
EndsBehind language ended.ReadFault lines state judgement = BeginsWith judgement.lines lines
EndsBehind language ended.WriteFault lines state judgement = BeginsWith judgement.lines lines
EndsBehind language ended.Memory lines state judgement = BeginsWith judgement.lines lines

-- All of a text was written.
abbrev pub WritesAll : List ℕ → (before after : Option (List ℕ)) → Type 0
WritesAll text before after = after ≡ option_map (λ held. held ++ text) before

-- A front of it was.
abbrev pub WritesFront : List ℕ → (before after : Option (List ℕ)) → Type 0
WritesFront text before after = (front : List ℕ) × BeginsWith text front × WritesAll front before after

-- What was written of the text that the lines printed: all of it, unless a write failed or no memory was found.
abbrev pub Writes : Ended → List ℕ → (before after : Option (List ℕ)) → Type 0
Writes ended.Done text before after = WritesAll text before after
Writes (ended.BadScript number) text before after = WritesAll text before after
Writes ended.InputTooLong text before after = WritesAll text before after
Writes ended.ReadFault text before after = WritesAll text before after
Writes ended.WriteFault text before after = WritesFront text before after
Writes ended.Memory text before after = WritesFront text before after

-- The state in the end: that after the lines that ran, unless no memory was found in the middle of one.
abbrev pub Leaves : {S : Type 0} → Ended → S → S → Type 0
Leaves ended.Done after last = last ≡ after
Leaves (ended.BadScript number) after last = last ≡ after
Leaves ended.InputTooLong after last = last ≡ after
Leaves ended.ReadFault after last = last ≡ after
Leaves ended.WriteFault after last = last ≡ after
Leaves ended.Memory after last = Unit {0}

-- A whole run from a first state to a last one, where `input` has the lines of the input and its ending, if the source
-- tells its bytes, and `before` and `after` are what the sink holds, if it tells that.
pub record Runs {S : Type 0} (language : Language S) (first : S) (ended : Ended) (input : Option Judgement) (before after : Option (List ℕ)) (last : S) : Type 0 where
  -- the lines that ran
  pub lines : List (List ℕ)
  -- what they printed, and the state after them
  pub done : Step S
  pub ran : run_all language first lines ≡ Some done
  pub ends : IfSome input (EndsBehind language ended lines done.state)
  pub writes : Writes ended done.text before after
  pub leaves : Leaves ended done.state last

-- Which end may be blamed: the counts of faults never fall, and a fault is answered only where that end's count rose.
pub record Blames (reads reads_now writes writes_now : ℕ) (end : Ended) : Type 0 where
  pub reads_kept : reads ≤ reads_now
  pub writes_kept : writes ≤ writes_now
  pub read_fault : end ≡ ended.ReadFault → Rose reads reads_now
  pub write_fault : end ≡ ended.WriteFault → Rose writes writes_now
