-- What arrays hold.
use Rattle.std.specs.Prelude.{◌≡◌, ℕ}
use Rattle.dbus_signature.specs.declared.kind.Basic.TheVariants.{Byte}
use Rattle.dbus_signature.specs.declared.kind.Kind.TheVariants.{Basic as Plain}
use Rattle.dbus_signature.specs.Signatures.{IsKind}
use Rattle.dbus_wire.specs.declared.value.Endian.{Endian}
use Rattle.dbus_wire.specs.Alignment.{alignment}
use Rattle.dbus_held.specs.declared.ends.Element.{Element}
use Rattle.dbus_held.specs.declared.ends.Element.TheVariants as element
use Rattle.dbus_held.specs.Ends.{Ending, value_end, entry_end}

-- a value or an entry of an array
abbrev pub element_end : Endian → ℕ → Element → Ending
element_end endian room (element.Whole kind) = value_end endian room kind.now
element_end endian room (element.Entry key kind) = entry_end endian room key kind.now

-- what elements begin at a multiple of
abbrev pub element_align : Element → ℕ
element_align (element.Whole kind) = alignment kind.now
element_align (element.Entry key kind) = 8

-- its type keeps the limits
abbrev pub ElementIs : Element → Type 0
ElementIs (element.Whole kind) = IsKind kind.now
ElementIs (element.Entry key kind) = IsKind kind.now

-- they are bytes
abbrev pub AreBytes : Element → Type 0
AreBytes (element.Whole kind) = kind.now ≡ Plain Byte
AreBytes (element.Entry key kind) = ⊥
