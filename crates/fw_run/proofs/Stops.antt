-- How a run in its middle ends: a write fails, or the next line, or the end of the input, stops it; then what is left of
-- its text is written.
use Rattle.std.proofs.Common.{◌≡◌, ℕ, ◌+◌, ◌⊎◌, List, [], ◌∷◌, ◌++◌, length, Option, None, Some, IfSome, Result, Ok, Err, true, false, is_err, refl, sym, ap, ◌∙◌, inl, inr, append_assoc, append-nil}
use Rattle.std.specs.Option.{option_map}
use Rattle.fw_base.specs.declared.source.Failed.{Failed}
use Rattle.fw_input.specs.Lines.{Judgement, End, LineTooLong, InputTooLong, Ending, no_line}
use Rattle.fw_run.specs.Endings.{BeginsWith, EndsBehind, IsBad, Leaves, Runs, Writes, WritesAll}
use Rattle.fw_run.specs.Language.{Language}
use Rattle.fw_run.specs.Turns.{Flushes, Holds, Middle, Progress, Stays, Stopped, Stops, TakesLine, with_lines}
use Rattle.fw_run.specs.declared.ended.Ended.{Ended}
use Rattle.fw_run.specs.declared.ended.Ended.TheVariants as ended
use Rattle.fw_run.proofs.Turning.{held-more, progress-flush}

-- the lines that ran are first ones of the input
begins : (lines : List (List ℕ)) (input coming : Option Judgement) → input ≡ option_map (with_lines lines) coming → IfSome input (λ j. BeginsWith j.lines lines)
begins lines None coming is = tt
begins lines (Some j) None is = cc
begins lines (Some j) (Some coming) is =
    let j_is : j ≡ with_lines lines coming = cc in
    (coming.lines, ap (λ j'. j'.lines) j_is)

pub stopped-fault : {S : Type 0} (language : Language S) (first : S) (input coming : Option Judgement) (before now after : Option (List ℕ)) (old new : Middle S) (result : Result (Unit {0}) Failed) → is_err result ≡ true → Progress language first input before old coming now → Flushes result old new now after → Stopped language first ended.WriteFault input before new after
stopped-fault language first input coming before now after old new result failed progress flushes = record {
  lines = progress.lines;
  done = progress.done;
  ran = progress.ran;
  ends = begins progress.lines input coming progress.lines_are;
  state = flushes.state ∙ progress.state;
  front = progress.front ++ flushes.front;
  text = (flushes.behind, progress.text ∙ ap (λ (t : List ℕ). progress.front ++ t) flushes.printed ∙ sym (append_assoc progress.front flushes.front flushes.behind));
  written = held-more progress.front flushes.front before now after progress.written flushes.written;
}

pub progress-flushed : {S : Type 0} (language : Language S) (first : S) (input coming : Option Judgement) (before now after : Option (List ℕ)) (old new : Middle S) (result : Result (Unit {0}) Failed) → is_err result ≡ false → Progress language first input before old coming now → Flushes result old new now after → Progress language first input before new coming after
progress-flushed language first input coming before now after old new (Ok done) is progress flushes = progress-flush language first input coming before now after old new done progress flushes
progress-flushed language first input coming before now after old new (Err fault) is progress flushes = cc

-- an ending that came behind lines that ran
ending-behind : (lines : List (List ℕ)) (ending : Ending) (j coming : Judgement) → j ≡ with_lines lines coming → coming ≡ no_line ending → j ≡ record { lines = lines; ending = ending }
ending-behind lines ending j coming is none = is ∙ rw none (ap (λ (all : List (List ℕ)). record { lines = all; ending = ending }) (append-nil lines))

bad-behind : {S : Type 0} (language : Language S) (lines : List (List ℕ)) (state : S) (j coming : Judgement) → j ≡ with_lines lines coming → IsBad language [] state coming → IsBad language lines state j
bad-behind language lines state j coming is (inl long) = inl (ending-behind lines LineTooLong j coming is long)
bad-behind language lines state j coming is (inr bad) = inr (bad.0, bad.1, ap (λ j'. j'.lines) is ∙ ap (λ (rest : List (List ℕ)). lines ++ rest) bad.2, bad.3)

stops-behind : {S : Type 0} (language : Language S) (end : Ended) (lines : List (List ℕ)) (middle : Middle S) (state : S) (j coming : Judgement) → middle.state ≡ state → middle.number ≡ length lines + 1 → j ≡ with_lines lines coming → Stops language end middle coming → EndsBehind language end lines state j
stops-behind language ended.Done lines middle state j coming same number is stops = ending-behind lines End j coming is stops
stops-behind language (ended.BadScript n) lines middle state j coming same number is stops =
    (stops.0 ∙ number, bad-behind language lines state j coming is (rw same at stops.1))
stops-behind language ended.InputTooLong lines middle state j coming same number is stops = ending-behind lines InputTooLong j coming is stops
stops-behind language ended.ReadFault lines middle state j coming same number is stops = (coming.lines, ap (λ j'. j'.lines) is)
stops-behind language ended.WriteFault lines middle state j coming same number is stops = absurd stops
stops-behind language ended.Memory lines middle state j coming same number is stops = (coming.lines, ap (λ j'. j'.lines) is)

ends-behind : {S : Type 0} (language : Language S) (end : Ended) (lines : List (List ℕ)) (middle : Middle S) (state : S) (input coming : Option Judgement) → middle.state ≡ state → middle.number ≡ length lines + 1 → input ≡ option_map (with_lines lines) coming → IfSome coming (Stops language end middle) → IfSome input (EndsBehind language end lines state)
ends-behind language end lines middle state None coming same number is stops = tt
ends-behind language end lines middle state (Some j) None same number is stops = cc
ends-behind language end lines middle state (Some j) (Some coming) same number is stops =
    stops-behind language end lines middle state j coming same number (cc) stops

left-by : {S : Type 0} (end : Ended) (old new : Middle S) (state : S) → old.state ≡ state → Stays end old new → Leaves end state new.state
left-by ended.Done old new state same stays = ap (λ m. m.state) stays ∙ same
left-by (ended.BadScript n) old new state same stays = ap (λ m. m.state) stays ∙ same
left-by ended.InputTooLong old new state same stays = ap (λ m. m.state) stays ∙ same
left-by ended.ReadFault old new state same stays = ap (λ m. m.state) stays ∙ same
left-by ended.WriteFault old new state same stays = ap (λ m. m.state) stays ∙ same
left-by ended.Memory old new state same stays = tt

holds-by : {S : Type 0} (end : Ended) (old new : Middle S) (text front : List ℕ) → text ≡ front ++ old.unwritten → Stays end old new → Holds end text front new.unwritten
holds-by ended.Done old new text front is stays = is ∙ ap (λ m. front ++ m.unwritten) (sym stays)
holds-by (ended.BadScript n) old new text front is stays = is ∙ ap (λ m. front ++ m.unwritten) (sym stays)
holds-by ended.InputTooLong old new text front is stays = is ∙ ap (λ m. front ++ m.unwritten) (sym stays)
holds-by ended.ReadFault old new text front is stays = is ∙ ap (λ m. front ++ m.unwritten) (sym stays)
holds-by ended.WriteFault old new text front is stays = (old.unwritten, is)
holds-by ended.Memory old new text front is stays = (old.unwritten, is)

pub stopped-line : {S : Type 0} (language : Language S) (first : S) (end : Ended) (input coming next : Option Judgement) (before now : Option (List ℕ)) (old new : Middle S) → Progress language first input before old coming now → TakesLine language (Some end) old new coming next → Stopped language first end input before new now
stopped-line language first end input coming next before now old new progress takes = record {
  lines = progress.lines;
  done = progress.done;
  ran = progress.ran;
  ends = ends-behind language end progress.lines old progress.done.state input coming progress.state progress.number progress.lines_are takes.0;
  state = left-by end old new progress.done.state progress.state takes.1;
  front = progress.front;
  text = holds-by end old new progress.done.text progress.front progress.text takes.1;
  written = progress.written;
}

-- behind a stop nothing more is written
pub runs-silent : {S : Type 0} (language : Language S) (first : S) (end : Ended) (input : Option Judgement) (before now : Option (List ℕ)) (middle : Middle S) → (end ≡ ended.WriteFault) ⊎ (end ≡ ended.Memory) → Stopped language first end input before middle now → Runs language first end input before now middle.state
runs-silent language first ended.WriteFault input before now middle is stopped = record {
  lines = stopped.lines;
  done = stopped.done;
  ran = stopped.ran;
  ends = stopped.ends;
  writes = (stopped.front, stopped.text, stopped.written);
  leaves = stopped.state;
}
runs-silent language first ended.Memory input before now middle is stopped = record {
  lines = stopped.lines;
  done = stopped.done;
  ran = stopped.ran;
  ends = stopped.ends;
  writes = (stopped.front, stopped.text, stopped.written);
  leaves = tt;
}
runs-silent language first ended.Done input before now middle (inl is) stopped = cc
runs-silent language first ended.Done input before now middle (inr is) stopped = cc
runs-silent language first (ended.BadScript n) input before now middle (inl is) stopped = cc
runs-silent language first (ended.BadScript n) input before now middle (inr is) stopped = cc
runs-silent language first ended.InputTooLong input before now middle (inl is) stopped = cc
runs-silent language first ended.InputTooLong input before now middle (inr is) stopped = cc
runs-silent language first ended.ReadFault input before now middle (inl is) stopped = cc
runs-silent language first ended.ReadFault input before now middle (inr is) stopped = cc

-- all that was printed was written
all-written : (text front printed behind : List ℕ) (before now after : Option (List ℕ)) → text ≡ front ++ (printed ++ behind) → behind ≡ [] → WritesAll front before now → WritesAll printed now after → WritesAll text before after
all-written text front printed behind before now after is none first second =
    let text_is : text ≡ front ++ printed = is ∙ rw none (ap (λ (t : List ℕ). front ++ t) (append-nil printed)) in
    rw text_is (held-more front printed before now after first second)

writes-all : {S : Type 0} (end : Ended) (old new : Middle S) (done : Unit {0}) (text front : List ℕ) (before now after : Option (List ℕ)) → (end ≡ ended.WriteFault → ⊥) → (end ≡ ended.Memory → ⊥) → Holds end text front old.unwritten → new.unwritten ≡ [] → WritesAll front before now → Flushes {E = Failed} (Ok done) old new now after → Writes end text before after
writes-all ended.Done old new done text front before now after no_fault no_want is none held flushes = all-written text front flushes.front flushes.behind before now after (is ∙ ap (λ (t : List ℕ). front ++ t) flushes.printed) (sym flushes.kept ∙ none) held flushes.written
writes-all (ended.BadScript n) old new done text front before now after no_fault no_want is none held flushes = all-written text front flushes.front flushes.behind before now after (is ∙ ap (λ (t : List ℕ). front ++ t) flushes.printed) (sym flushes.kept ∙ none) held flushes.written
writes-all ended.InputTooLong old new done text front before now after no_fault no_want is none held flushes = all-written text front flushes.front flushes.behind before now after (is ∙ ap (λ (t : List ℕ). front ++ t) flushes.printed) (sym flushes.kept ∙ none) held flushes.written
writes-all ended.ReadFault old new done text front before now after no_fault no_want is none held flushes = all-written text front flushes.front flushes.behind before now after (is ∙ ap (λ (t : List ℕ). front ++ t) flushes.printed) (sym flushes.kept ∙ none) held flushes.written
writes-all ended.WriteFault old new done text front before now after no_fault no_want is none held flushes = absurd (no_fault refl)
writes-all ended.Memory old new done text front before now after no_fault no_want is none held flushes = absurd (no_want refl)

leaves-after : {S : Type 0} (end : Ended) (old new : Middle S) (state : S) → new.state ≡ old.state → Leaves end state old.state → Leaves end state new.state
leaves-after ended.Done old new state same left = same ∙ left
leaves-after (ended.BadScript n) old new state same left = same ∙ left
leaves-after ended.InputTooLong old new state same left = same ∙ left
leaves-after ended.ReadFault old new state same left = same ∙ left
leaves-after ended.WriteFault old new state same left = same ∙ left
leaves-after ended.Memory old new state same left = tt

pub runs-written : {S : Type 0} (language : Language S) (first : S) (end : Ended) (input : Option Judgement) (before now after : Option (List ℕ)) (old new : Middle S) (done : Unit {0}) → (end ≡ ended.WriteFault → ⊥) → (end ≡ ended.Memory → ⊥) → Stopped language first end input before old now → Flushes {E = Failed} (Ok done) old new now after → new.unwritten ≡ [] → Runs language first end input before after new.state
runs-written language first end input before now after old new done no_fault no_want stopped flushes none = record {
  lines = stopped.lines;
  done = stopped.done;
  ran = stopped.ran;
  ends = stopped.ends;
  writes = writes-all end old new done stopped.done.text stopped.front before now after no_fault no_want stopped.text none stopped.written flushes;
  leaves = leaves-after end old new stopped.done.state flushes.state stopped.state;
}

-- what a stop says of the lines, whatever the stop
bad-begins : {S : Type 0} (language : Language S) (lines : List (List ℕ)) (state : S) (j : Judgement) → IsBad language lines state j → BeginsWith j.lines lines
bad-begins language lines state j (inl long) = ([], ap (λ j'. j'.lines) long ∙ sym (append-nil lines))
bad-begins language lines state j (inr bad) = (bad.0 ∷ bad.1, bad.2)

begins-behind : {S : Type 0} (language : Language S) (end : Ended) (lines : List (List ℕ)) (state : S) (j : Judgement) → EndsBehind language end lines state j → BeginsWith j.lines lines
begins-behind language ended.Done lines state j is = ([], ap (λ j'. j'.lines) is ∙ sym (append-nil lines))
begins-behind language (ended.BadScript n) lines state j is = bad-begins language lines state j is.1
begins-behind language ended.InputTooLong lines state j is = ([], ap (λ j'. j'.lines) is ∙ sym (append-nil lines))
begins-behind language ended.ReadFault lines state j is = is
begins-behind language ended.WriteFault lines state j is = is
begins-behind language ended.Memory lines state j is = is

begins-input : {S : Type 0} (language : Language S) (end : Ended) (lines : List (List ℕ)) (state : S) (input : Option Judgement) → IfSome input (EndsBehind language end lines state) → IfSome input (EndsBehind language ended.WriteFault lines state)
begins-input language end lines state None is = tt
begins-input language end lines state (Some j) is = begins-behind language end lines state j is

front-begins : (text front printed behind : List ℕ) → text ≡ front ++ (printed ++ behind) → BeginsWith text (front ++ printed)
front-begins text front printed behind is = (behind, is ∙ sym (append_assoc front printed behind))

writes-front : {S E : Type 0} (end : Ended) (result : Result (Unit {0}) E) (old new : Middle S) (text front : List ℕ) (now after : Option (List ℕ)) → (end ≡ ended.WriteFault → ⊥) → (end ≡ ended.Memory → ⊥) → Holds end text front old.unwritten → (flushes : Flushes result old new now after) → BeginsWith text (front ++ flushes.front)
writes-front ended.Done result old new text front now after no_fault no_want is flushes = front-begins text front flushes.front flushes.behind (is ∙ ap (λ (t : List ℕ). front ++ t) flushes.printed)
writes-front (ended.BadScript n) result old new text front now after no_fault no_want is flushes = front-begins text front flushes.front flushes.behind (is ∙ ap (λ (t : List ℕ). front ++ t) flushes.printed)
writes-front ended.InputTooLong result old new text front now after no_fault no_want is flushes = front-begins text front flushes.front flushes.behind (is ∙ ap (λ (t : List ℕ). front ++ t) flushes.printed)
writes-front ended.ReadFault result old new text front now after no_fault no_want is flushes = front-begins text front flushes.front flushes.behind (is ∙ ap (λ (t : List ℕ). front ++ t) flushes.printed)
writes-front ended.WriteFault result old new text front now after no_fault no_want is flushes = absurd (no_fault refl)
writes-front ended.Memory result old new text front now after no_fault no_want is flushes = absurd (no_want refl)

state-left : {S : Type 0} (end : Ended) (old : Middle S) (state : S) → (end ≡ ended.Memory → ⊥) → Leaves end state old.state → old.state ≡ state
state-left ended.Done old state no_want left = left
state-left (ended.BadScript n) old state no_want left = left
state-left ended.InputTooLong old state no_want left = left
state-left ended.ReadFault old state no_want left = left
state-left ended.WriteFault old state no_want left = left
state-left ended.Memory old state no_want left = absurd (no_want refl)

pub runs-fault : {S : Type 0} (language : Language S) (first : S) (end : Ended) (input : Option Judgement) (before now after : Option (List ℕ)) (old new : Middle S) (result : Result (Unit {0}) Failed) → (end ≡ ended.WriteFault → ⊥) → (end ≡ ended.Memory → ⊥) → Stopped language first end input before old now → Flushes result old new now after → Runs language first ended.WriteFault input before after new.state
runs-fault language first end input before now after old new result no_fault no_want stopped flushes = record {
  lines = stopped.lines;
  done = stopped.done;
  ran = stopped.ran;
  ends = begins-input language end stopped.lines stopped.done.state input stopped.ends;
  writes = (stopped.front ++ flushes.front, writes-front end result old new stopped.done.text stopped.front now after no_fault no_want stopped.text flushes, held-more stopped.front flushes.front before now after stopped.written flushes.written);
  leaves = flushes.state ∙ state-left end old stopped.done.state no_want stopped.state;
}
