-- What is taken from words.
use Rattle.std.specs.Prelude.{◌≡◌, Option, None, Some, Result, Ok, Err}
use Rattle.fw_command.specs.declared.error.PickError.{PickError}
use Rattle.fw_command.specs.declared.error.PickError.TheVariants as error

-- A refusal: exactly since nothing is said, or for want of memory.
abbrev pub Refuses : {X : Type 0} → PickError → Option X → Type 0
Refuses error.Usage said = said ≡ None
Refuses error.Memory said = Unit {0}

-- What is said is taken, or it is refused.
abbrev pub Picks : {X : Type 0} → Result X PickError → Option X → Type 0
Picks (Ok x) said = said ≡ Some x
Picks (Err e) said = Refuses e said
