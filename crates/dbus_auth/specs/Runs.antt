-- Runs of lines: what the lines of one connection are answered, one after the other (D-Bus Specification,
-- "Authentication Protocol").
use Rattle.std.specs.Prelude.{◌≡◌, ℕ, Bool, true, false, List, [], ◌∷◌, count_by}
use Rattle.dbus_auth.specs.declared.answer.AuthAnswer.{AuthAnswer}
use Rattle.dbus_auth.specs.declared.answer.AuthAnswer.TheVariants as answer
use Rattle.dbus_auth.specs.declared.answer.Stage.{Stage}
use Rattle.dbus_auth.specs.declared.answer.Stage.TheVariants as stages
use Rattle.dbus_auth.specs.Table.{State, step}

-- a connection whose NUL has come
abbrev pub start : State
start = record { stage = stages.Start; rejections = 0 }

-- the state behind lines
abbrev pub after : State → List (List ℕ) → State
after state [] = state
after state (line ∷ lines) = after (step state line).1 lines

-- what lines are answered
abbrev pub answers : State → List (List ℕ) → List AuthAnswer
answers state [] = []
answers state (line ∷ lines) = (step state line).0 ∷ answers (step state line).1 lines

abbrev pub is_rejected : AuthAnswer → Bool
is_rejected answer.Ok = false
is_rejected answer.Data = false
is_rejected answer.Rejected = true
is_rejected answer.Error = false
is_rejected answer.Begin = false
is_rejected (answer.Ended end) = false

-- how many of the lines of a connection were rejected without ending it
abbrev pub rejections : List (List ℕ) → ℕ
rejections lines = count_by is_rejected (answers start lines)

-- what a line is answered behind these lines
abbrev pub answered : List (List ℕ) → List ℕ → AuthAnswer
answered lines line = (step (after start lines) line).0

-- The stage rejects the line: a connection that comes there without a rejection before answers `REJECTED EXTERNAL`.
abbrev pub Rejects : Stage → List ℕ → Type 0
Rejects stage line = (step (record { stage = stage; rejections = 0 }) line).0 ≡ answer.Rejected
