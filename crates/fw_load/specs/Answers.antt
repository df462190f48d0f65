-- What a reader answers.
use Rattle.std.specs.Prelude.{◌≡◌, ℕ, List, Result, Ok, Err}
use Rattle.fw_load.specs.declared.stop.Stop.{Stop}
use Rattle.fw_load.specs.declared.stop.Stop.TheVariants as stop

-- Why nothing was read: the way to the first fault, or want of memory.
abbrev pub Stops : {X : Type 0} → Stop → Result X (List ℕ) → Type 0
Stops (stop.Fault way) wanted = wanted ≡ Err way
Stops stop.Memory wanted = Unit {0}

-- What was read: what is said, the way to the first fault, or want of memory.
abbrev pub Says : {X : Type 0} → Result X Stop → Result X (List ℕ) → Type 0
Says (Ok x) wanted = wanted ≡ Ok x
Says (Err stop) wanted = Stops stop wanted
