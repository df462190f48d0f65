-- Readings in steps, each of which may find nothing: `do` in a definition goes through them.
use Rattle.std.specs.Prelude.{Option}
use Rattle.std.specs.Option.{option_and_then}

infixl 10 ◌>>=◌
-- what the second step makes of the first one's value
abbrev pub ◌>>=◌ : {X Y : Type 0} → Option X → (X → Option Y) → Option Y
found >>= step = option_and_then step found
