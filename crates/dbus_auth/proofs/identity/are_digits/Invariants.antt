-- What is left decides as the whole text does.
use Rattle.std.proofs.Common.{◌≡◌, length}
use Rattle.dbus_auth.specs.Identity.{spells_digits}
use Rattle.dbus_auth.proofs.identity.are_digits.Given as goal

abbrev pub invariant-loop-rest : goal.invariant-loop-rest
invariant-loop-rest l = spells_digits l.rest ≡ spells_digits l.text

abbrev pub decreases-loop-rest : goal.decreases-loop-rest
decreases-loop-rest l = length l.rest
