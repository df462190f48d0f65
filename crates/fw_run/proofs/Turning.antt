-- A run in its middle stays one over a flush and over a line.
use Rattle.std.proofs.Common.{◌≡◌, ℕ, List, [], ◌∷◌, ◌++◌, Option, None, Some, Ok, refl, sym, ap, ◌∙◌, append_assoc, append-nil, arith, length-append}
use Rattle.std.specs.Option.{option_map}
use Rattle.fw_base.specs.declared.source.Failed.{Failed}
use Rattle.fw_input.specs.Lines.{Judgement, judged, with_line}
use Rattle.fw_input.specs.Reading.{Reader, outlook}
use Rattle.fw_text.specs.Steps.{◌>>=◌}
use Rattle.fw_run.specs.Endings.{WritesAll}
use Rattle.fw_run.specs.Language.{Language, Step, behind, run_all}
use Rattle.fw_run.specs.Turns.{Flushes, Middle, Progress, TakesLine, after_line, with_lines}

-- one line more: by what the lines behind the first one do
more-rest : {S : Type 0} (language : Language S) (lines : List (List ℕ)) (line : List ℕ) (first done step : Step S) (rest : Option (Step S)) → run_all language first.state lines ≡ rest → option_map (behind first.text) rest ≡ Some done → ((between : Step S) → run_all language first.state lines ≡ Some between → language between.state line ≡ Some step → run_all language first.state (lines ++ line ∷ []) ≡ Some (record { text = between.text ++ step.text; state = step.state })) → language done.state line ≡ Some step → option_map (behind first.text) (run_all language first.state (lines ++ line ∷ [])) ≡ Some (record { text = done.text ++ step.text; state = step.state })
more-rest language lines line first done step None is ran more said = cc
more-rest language lines line first done step (Some between) is ran more said =
    let done_is : done ≡ behind first.text between = cc in
    let said_is : language between.state line ≡ Some step = rw done_is at said in
    rw (more between is said_is) (rw done_is (ap (λ (text : List ℕ). Some (record { text = text; state = step.state })) (sym (append_assoc first.text between.text step.text))))

-- the two steps of a list of lines
abbrev pub then_all : {S : Type 0} → Language S → List (List ℕ) → Option (Step S) → Option (Step S)
then_all language lines None = None
then_all language lines (Some first) = option_map (behind first.text) (run_all language first.state lines)

map-is-bind : {S : Type 0} (text : List ℕ) (rest : Option (Step S)) → option_map (behind text) rest ≡ (rest >>= (λ r. Some (behind text r)))
map-is-bind text None = refl
map-is-bind text (Some rest) = refl

all-is-then : {S : Type 0} (language : Language S) (state : S) (line : List ℕ) (lines : List (List ℕ)) (first : Option (Step S)) → language state line ≡ first → run_all language state (line ∷ lines) ≡ then_all language lines first
all-is-then language state line lines None is = rw is refl
all-is-then language state line lines (Some first) is = rw is (sym (map-is-bind first.text (run_all language first.state lines)))

more-first : {S : Type 0} (language : Language S) (first_line : List ℕ) (lines : List (List ℕ)) (line : List ℕ) (state : S) (done step : Step S) (first : Option (Step S)) → language state first_line ≡ first → ((s : S) (between : Step S) → run_all language s lines ≡ Some between → language between.state line ≡ Some step → run_all language s (lines ++ line ∷ []) ≡ Some (record { text = between.text ++ step.text; state = step.state })) → run_all language state (first_line ∷ lines) ≡ Some done → language done.state line ≡ Some step → run_all language state (first_line ∷ (lines ++ line ∷ [])) ≡ Some (record { text = done.text ++ step.text; state = step.state })
more-first language first_line lines line state done step None is more ran said =
    let none : then_all language lines None ≡ Some done = sym (all-is-then language state first_line lines None is) ∙ ran in cc
more-first language first_line lines line state done step (Some first) is more ran said =
    all-is-then language state first_line (lines ++ line ∷ []) (Some first) is
    ∙ more-rest language lines line first done step (run_all language first.state lines) refl (sym (all-is-then language state first_line lines (Some first) is) ∙ ran) (more first.state) said

pub run_all-more : {S : Type 0} (language : Language S) (lines : List (List ℕ)) (line : List ℕ) (state : S) (done step : Step S) → run_all language state lines ≡ Some done → language done.state line ≡ Some step → run_all language state (lines ++ line ∷ []) ≡ Some (record { text = done.text ++ step.text; state = step.state })
run_all-more language [] line state done step ran said =
    let done_is : done ≡ record { text = []; state = state } = cc in
    let said_is : language state line ≡ Some step = rw done_is at said in
    all-is-then language state line [] (Some step) said_is ∙ rw done_is (ap (λ (text : List ℕ). Some (record { text = text; state = step.state })) (append-nil step.text))
run_all-more language (first ∷ lines) line state done step ran said =
    more-first language first lines line state done step (language state first) refl (λ s between. run_all-more language lines line s between step) ran said

pub held-more : (a b : List ℕ) (before now after : Option (List ℕ)) → WritesAll a before now → WritesAll b now after → WritesAll (a ++ b) before after
held-more a b None now after first second = second ∙ ap (option_map (λ held. held ++ b)) first
held-more a b (Some held) now after first second = second ∙ ap (option_map (λ held. held ++ b)) first ∙ ap Some (append_assoc held a b)

held-nothing : (before : Option (List ℕ)) → WritesAll [] before before
held-nothing None = refl
held-nothing (Some held) = ap Some (sym (append-nil held))

lines-nothing : (input : Option Judgement) → input ≡ option_map (with_lines []) input
lines-nothing None = refl
lines-nothing (Some judgement) = refl

pub progress-first : {S : Type 0} (language : Language S) (first : S) (input : Option Judgement) (before : Option (List ℕ)) → Progress language first input before (record { state = first; number = 1; unwritten = [] }) input before
progress-first language first input before = record {
  lines = [];
  done = record { text = []; state = first };
  ran = refl;
  state = refl;
  number = refl;
  lines_are = lines-nothing input;
  front = [];
  text = refl;
  written = held-nothing before;
}

-- what was printed is written, or a front of it
pub progress-flush : {S : Type 0} (language : Language S) (first : S) (input coming : Option Judgement) (before now after : Option (List ℕ)) (old new : Middle S) (done : Unit {0}) → Progress language first input before old coming now → Flushes {E = Failed} (Ok done) old new now after → Progress language first input before new coming after
progress-flush language first input coming before now after old new done progress flushes = record {
  lines = progress.lines;
  done = progress.done;
  ran = progress.ran;
  state = flushes.state ∙ progress.state;
  number = flushes.number ∙ progress.number;
  lines_are = progress.lines_are;
  front = progress.front ++ flushes.front;
  text = progress.text ∙ ap (λ (t : List ℕ). progress.front ++ t) (flushes.printed ∙ ap (λ (t : List ℕ). flushes.front ++ t) (sym flushes.kept)) ∙ sym (append_assoc progress.front flushes.front new.unwritten);
  written = held-more progress.front flushes.front before now after progress.written flushes.written;
}

lines-more : (lines : List (List ℕ)) (line : List ℕ) (input before after : Option Judgement) → input ≡ option_map (with_lines lines) before → before ≡ option_map (with_line line) after → input ≡ option_map (with_lines (lines ++ line ∷ [])) after
lines-more lines line input before None is next = is ∙ ap (option_map (with_lines lines)) next
lines-more lines line input before (Some judgement) is next =
    is ∙ ap (option_map (with_lines lines)) next ∙ ap (λ (all : List (List ℕ)). Some (record { lines = all; ending = judgement.ending })) (sym (append_assoc lines (line ∷ []) judgement.lines))

-- a line was run
pub progress-line : {S : Type 0} (language : Language S) (first : S) (input coming next : Option Judgement) (before now : Option (List ℕ)) (old new : Middle S) → Progress language first input before old coming now → TakesLine language None old new coming next → Progress language first input before new next now
progress-line language first input coming next before now old new progress takes =
    let line = takes.0 in
    let step = takes.1 in
    let new_is : new ≡ after_line old step = takes.3 in
    record {
      lines = progress.lines ++ line ∷ [];
      done = record { text = progress.done.text ++ step.text; state = step.state };
      ran = run_all-more language progress.lines line first progress.done step progress.ran (rw progress.state at takes.2);
      state = ap (λ m. m.state) new_is;
      number = ap (λ m. m.number) new_is ∙ omega (arith, progress.number, length-append progress.lines (line ∷ []));
      lines_are = lines-more progress.lines line input coming next progress.lines_are takes.4;
      front = progress.front;
      text = ap (λ (t : List ℕ). t ++ step.text) progress.text ∙ append_assoc progress.front old.unwritten step.text ∙ ap (λ (t : List ℕ). progress.front ++ t) (sym (ap (λ m. m.unwritten) new_is));
      written = progress.written;
    }

-- before the first read all bytes are to come
pub opening : (reader : Reader) (line_limit budget : ℕ) (left : Option (List ℕ)) → reader.ahead ≡ [] → reader.budget ≡ budget → reader.line_limit ≡ line_limit → outlook reader left ≡ option_map (judged line_limit budget) left
opening reader line_limit budget None ahead budget_is limit_is = refl
opening reader line_limit budget (Some bytes) ahead budget_is limit_is = rw (ahead, budget_is, limit_is) refl

pub progress-opening : {S : Type 0} (language : Language S) (first : S) (input coming : Option Judgement) (before : Option (List ℕ)) (middle : Middle S) → middle ≡ record { state = first; number = 1; unwritten = [] } → coming ≡ input → Progress language first input before middle coming before
progress-opening language first input coming before middle new all = rw (new, all) (progress-first language first input before)
