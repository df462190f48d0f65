-- What arrays hold.
use Rattle.std.specs.Prelude.{ℕ}
use Rattle.dbus_signature.specs.Reading.{Reader}
use Rattle.dbus_signature.specs.Signatures.{IsKind}
use Rattle.dbus_wire.specs.declared.value.Endian.{Endian}
use Rattle.dbus_wire.specs.declared.value.Value.{Value}
use Rattle.dbus_wire.specs.declared.containers.Element.{Element}
use Rattle.dbus_wire.specs.declared.containers.Element.TheVariants as element
use Rattle.dbus_wire.specs.Alignment.{alignment}
use Rattle.dbus_wire.specs.Values.{value_at, entry_at}

-- a value or an entry of an array
abbrev pub element_at : Endian → ℕ → Element → Reader Value
element_at endian room (element.Whole kind) = value_at endian room kind.now
element_at endian room (element.Entry key kind) = entry_at endian room key kind.now

-- what elements begin at a multiple of
abbrev pub element_align : Element → ℕ
element_align (element.Whole kind) = alignment kind.now
element_align (element.Entry key kind) = 8

-- its type keeps the limits
abbrev pub ElementIs : Element → Type 0
ElementIs (element.Whole kind) = IsKind kind.now
ElementIs (element.Entry key kind) = IsKind kind.now
