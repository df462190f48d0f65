-- What contracts see of what comes next.
use Rattle.std.specs.Prelude.{ℕ, ◌<◌, ◌≤◌, List, length, drop}
use Rattle.dbus_msg.specs.declared.cutting.Coming.{Coming}
use Rattle.dbus_msg.specs.declared.cutting.Coming.TheVariants as coming
use Rattle.dbus_msg.specs.Streams.{Next, part, refused, whole}

abbrev pub seen_next : List ℕ → Coming → Next
seen_next bytes coming.Part = part
seen_next bytes coming.Refused = refused
seen_next bytes (coming.Whole message len) = whole message (drop len bytes)

-- a message has some bytes, and no more than are there
abbrev pub IsWithin : List ℕ → Coming → Type 0
IsWithin bytes coming.Part = Unit {0}
IsWithin bytes coming.Refused = Unit {0}
IsWithin bytes (coming.Whole message len) = (0 < len) × (len ≤ length bytes)
