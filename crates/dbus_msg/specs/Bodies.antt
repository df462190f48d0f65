-- The values of a body.
use Rattle.std.specs.Prelude.{List}
use Rattle.dbus_wire.specs.declared.value.Value.{Value}
use Rattle.dbus_msg.specs.declared.body.Form.{Form}
use Rattle.dbus_msg.specs.declared.body.Form.TheVariants as form

-- However they are held.
abbrev pub values_in : Form → List Value
values_in (form.Held values) = values
values_in (form.Values values) = values
