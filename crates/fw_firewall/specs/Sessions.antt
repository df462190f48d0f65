-- Sessions: for each client of a script, how many signals its session was told, where it has a session.
use Rattle.std.specs.Prelude.{ℕ, List, Option, None, Some, slice_get, replicate}

-- for the clients 0 to 9999
abbrev pub no_session : List (Option ℕ)
no_session = replicate 10000 None

-- what is found of a client's session; a client outside the list has none
abbrev pub found : Option (Option ℕ) → Option ℕ
found None = None
found (Some told) = told

abbrev pub told_to : List (Option ℕ) → ℕ → Option ℕ
told_to sessions client = found (slice_get sessions client)
