-- The server's side of the authentication protocol with the one mechanism EXTERNAL, as a table: for each
-- stage and line the answer and what comes after it (D-Bus Specification, "Authentication Protocol" and
-- its "Authentication state diagrams"). A line is without its CRLF, and matches as bytes.
use Rattle.std.specs.Prelude.{ℕ, ◌+◌, Bool, ◌||◌, nat_eq, nat_lt, if◌then◌else◌, List, codes}
use Rattle.std.specs.List.{starts_with}
use Rattle.std.specs.Str.{bytes_eq}
use Rattle.dbus_auth.specs.declared.answer.AuthAnswer.{AuthAnswer}
use Rattle.dbus_auth.specs.declared.answer.AuthAnswer.TheVariants as answer
use Rattle.dbus_auth.specs.declared.answer.AuthEnd.{AuthEnd}
use Rattle.dbus_auth.specs.declared.answer.AuthEnd.TheVariants as ends
use Rattle.dbus_auth.specs.declared.answer.Stage.{Stage}
use Rattle.dbus_auth.specs.declared.answer.Stage.TheVariants as stages
use Rattle.dbus_auth.specs.Identity.{gives_identity}

-- Where a connection is in the protocol, and how many of its lines were answered `REJECTED`.
pub record State : Type 0 where
  pub stage : Stage
  pub rejections : ℕ

-- The end of the connection.
abbrev pub ended : AuthEnd → State → AuthAnswer × State
ended end state = (answer.Ended end, record state { stage = stages.Ended end })

-- A rejection leads back to the start; the tenth of a connection ends it.
abbrev pub rejected : State → AuthAnswer × State
rejected state = if nat_lt (state.rejections + 1) 10
    then (answer.Rejected, record { stage = stages.Start; rejections = state.rejections + 1 })
    else ended ends.Rejections state

-- `ERROR` with or without a text.
abbrev pub is_error : List ℕ → Bool
is_error line = bytes_eq line (codes "ERROR") || starts_with nat_eq line (codes "ERROR ")

-- `DATA` with or without a text.
abbrev pub is_data : List ℕ → Bool
is_data line = bytes_eq line (codes "DATA") || starts_with nat_eq line (codes "DATA ")

-- At the start the client asks for the mechanism, with its identity or without.
abbrev pub step_start : State → List ℕ → AuthAnswer × State
step_start state line =
    if gives_identity (codes "AUTH EXTERNAL ") line then (answer.Ok, record state { stage = stages.Accepted })
    else if bytes_eq line (codes "AUTH EXTERNAL") then (answer.Data, record state { stage = stages.Data })
    else if starts_with nat_eq line (codes "AUTH") || is_error line then rejected state
    else if bytes_eq line (codes "BEGIN") then ended ends.EarlyBegin state
    else (answer.Error, state)

-- Asked for data the client gives its identity, or leaves that to the transport.
abbrev pub step_data : State → List ℕ → AuthAnswer × State
step_data state line =
    if bytes_eq line (codes "DATA") || gives_identity (codes "DATA ") line then (answer.Ok, record state { stage = stages.Accepted })
    else if is_data line || bytes_eq line (codes "CANCEL") || is_error line then rejected state
    else if bytes_eq line (codes "BEGIN") then ended ends.EarlyBegin state
    else (answer.Error, state)

-- Accepted, the client begins with messages, or gives up.
abbrev pub step_accepted : State → List ℕ → AuthAnswer × State
step_accepted state line =
    if bytes_eq line (codes "BEGIN") then (answer.Begin, record state { stage = stages.Begun })
    else if bytes_eq line (codes "CANCEL") || is_error line then rejected state
    else (answer.Error, state)

-- The stage's row. A line after BEGIN is none of this protocol, and a line after an end gets that end.
abbrev pub row : Stage → State → List ℕ → AuthAnswer × State
row stages.Start state line = step_start state line
row stages.Data state line = step_data state line
row stages.Accepted state line = step_accepted state line
row stages.Begun state line = (answer.Error, state)
row (stages.Ended end) state line = (answer.Ended end, state)

-- The answer to a line, and the state after it.
abbrev pub step : State → List ℕ → AuthAnswer × State
step state line = row state.stage state line
