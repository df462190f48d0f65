-- What a turn of a run does, by what its calls say.
use Rattle.std.proofs.Common.{◌≡◌, ℕ, ◌+◌, List, [], take, drop, Option, None, Some, IfSome, Result, Ok, Err, refl, sym, ap, inr, append-nil}
use Rattle.std.specs.Option.{option_map}
use Rattle.std.proofs.lemmas.List.{take-append-drop}
use Rattle.fw_base.specs.Streams.{Writes}
use Rattle.fw_base.specs.declared.source.Failed.{Failed}
use Rattle.fw_input.specs.Lines.{Judgement, with_line}
use Rattle.fw_run.specs.Language.{Language, RunsLine}
use Rattle.fw_run.specs.Turns.{Flushes, Middle, RunsBytes, Stops, TakesLine}
use Rattle.fw_run.specs.declared.ended.Ended.{Ended}
use Rattle.fw_run.specs.declared.ended.Ended.TheVariants as ended

pub line-run : {S : Type 0} (language : Language S) (state new : S) (number : ℕ) (unwritten out line : List ℕ) (done : Unit {0}) → RunsLine (Ok done) (language state line) state new unwritten out → RunsBytes language None line (record { state = state; number = number; unwritten = unwritten }) (record { state = new; number = number + 1; unwritten = out })
line-run language state new number unwritten out line done run = (run.0, run.1, rw (run.2, run.3) refl)

ends-line : {S : Type 0} (language : Language S) (number : ℕ) (line : List ℕ) (old new : Middle S) (before after : Option Judgement) → before ≡ option_map (with_line line) after → RunsBytes language (Some (ended.BadScript number)) line old new → IfSome before (Stops language (ended.BadScript number) old)
ends-line language number line old new None after judged runs = tt
ends-line language number line old new (Some before) None judged runs = cc
ends-line language number line old new (Some before) (Some after) judged runs =
    let is : before ≡ with_line line after = cc in
    (runs.0, inr (line, after.lines, ap (λ j. j.lines) is, runs.1))

always : {S : Type 0} (language : Language S) (old : Middle S) (before : Option Judgement) → IfSome before (Stops language ended.Memory old)
always language old None = tt
always language old (Some before) = tt

pub taken : {S : Type 0} (language : Language S) (result : Option Ended) (line : List ℕ) (old new : Middle S) (before after : Option Judgement) → before ≡ option_map (with_line line) after → RunsBytes language result line old new → TakesLine language result old new before after
taken language None line old new before after judged runs = (line, runs.0, runs.1, runs.2, judged)
taken language (Some (ended.BadScript number)) line old new before after judged runs = (ends-line language number line old new before after judged runs, runs.2)
taken language (Some ended.Memory) line old new before after judged runs = (always language old before, tt)
taken language (Some ended.Done) line old new before after judged runs = absurd runs
taken language (Some ended.InputTooLong) line old new before after judged runs = absurd runs
taken language (Some ended.ReadFault) line old new before after judged runs = absurd runs
taken language (Some ended.WriteFault) line old new before after judged runs = absurd runs

-- a flush writes what was printed, or a front of it
pub flushed : {S : Type 0} (result : Result (Unit {0}) Failed) (old new : Middle S) (before after : Option (List ℕ)) → Writes before after result old.unwritten → new ≡ record old { unwritten = [] } → Flushes result old new before after
flushed (Ok done) old new before after writes is = record {
  front = old.unwritten;
  behind = [];
  printed = sym (append-nil old.unwritten);
  written = writes.whole;
  kept = ap (λ m. m.unwritten) is;
  state = ap (λ m. m.state) is;
  number = ap (λ m. m.number) is;
}
flushed (Err fault) old new before after writes is = record {
  front = take writes.front.0 old.unwritten;
  behind = drop writes.front.0 old.unwritten;
  printed = sym (take-append-drop writes.front.0 old.unwritten);
  written = writes.front.2;
  kept = tt;
  state = ap (λ m. m.state) is;
  number = ap (λ m. m.number) is;
}
