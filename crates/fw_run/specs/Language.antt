-- What the lines of a script do, one after another. The script language is this project's own.
use Rattle.std.specs.Prelude.{◌≡◌, ℕ, List, [], ◌∷◌, ◌++◌, Option, None, Some, Result, Ok, Err}
use Rattle.fw_text.specs.Steps.{◌>>=◌}
use Rattle.fw_words.specs.declared.error.LineError.{LineError}
use Rattle.fw_words.specs.declared.error.LineError.TheVariants as error

-- What was printed, and the state afterwards.
pub record Step (S : Type 0) : Type 0 where
  pub text : List ℕ
  pub state : S

-- What each line does in each state, where it is in the grammar.
abbrev pub Language : Type 0 → Type 0
Language S = S → List ℕ → Option (Step S)

-- something printed before
abbrev pub behind : {S : Type 0} → List ℕ → Step S → Step S
behind text step = record { text = text ++ step.text; state = step.state }

-- What lines do one after another, where all of them are in the grammar.
abbrev pub run_all : {S : Type 0} → Language S → S → List (List ℕ) → Option (Step S)
run_all language state [] = Some (record { text = []; state = state })
run_all language state (line ∷ lines) = do
  first ← language state line
  rest ← run_all language first.state lines
  Some (behind first.text rest)

-- A line was run, where `said` is what it does: its text was appended. A line outside the grammar does nothing.
abbrev pub RunsLine : {S : Type 0} → Result (Unit {0}) LineError → (said : Option (Step S)) → (old new : S) → (before after : List ℕ) → Type 0
RunsLine {S} (Ok done) said old new before after = (step : Step S) × (said ≡ Some step) × (new ≡ step.state) × (after ≡ before ++ step.text)
RunsLine (Err error.BadLine) said old new before after = (said ≡ None) × (new ≡ old) × (after ≡ before)
RunsLine (Err error.Memory) said old new before after = Unit {0}
