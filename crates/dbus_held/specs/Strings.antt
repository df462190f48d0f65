-- What strings hold.
use Rattle.std.specs.Prelude.{ℕ, Bool, List}
use Rattle.dbus_wire.specs.Texts.{is_text}
use Rattle.dbus_held.specs.Ends.{is_path_text}
use Rattle.dbus_held.specs.declared.strings.Holds.{Holds}
use Rattle.dbus_held.specs.declared.strings.Holds.TheVariants as holds

abbrev pub is_string : Holds → List ℕ → Bool
is_string holds.Text = is_text
is_string holds.Path = is_path_text
