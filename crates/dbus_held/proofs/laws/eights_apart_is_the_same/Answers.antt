use Rattle.dbus_wire.specs.Values.{max_open}
use Rattle.dbus_held.proofs.Eights.{all_stay}
use Rattle.dbus_held.proofs.laws.eights_apart_is_the_same.Goals as goal

pub returns : goal.returns
returns c = λ endian kind at to value apart fits. (all_stay endian max_open).values kind at to value apart fits
