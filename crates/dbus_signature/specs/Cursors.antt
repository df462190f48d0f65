-- What contracts see of a cursor.
use Rattle.std.specs.Prelude.{ℕ, ◌<◌, List, length, Option}
use Rattle.std.specs.Option.{option_map}
use Rattle.dbus_signature.specs.declared.cursor.Cursor.{Cursor}
use Rattle.dbus_signature.specs.Reading.{Read, Reader}

-- what a reader reads at a cursor
abbrev pub read_at : {A : Type 0} → Reader A → Cursor → Read A
read_at reader from = reader from.at from.rest.now

-- a value and the cursor after it
abbrev pub seen : {A : Type 0} → A × Cursor → A × ℕ × List ℕ
seen found = (found.0, found.1.at, found.1.rest.now)

-- a byte at least was taken
abbrev pub Shortens : {A : Type 0} → Cursor → A × Cursor → Type 0
Shortens from found = length found.1.rest.now < length from.rest.now

-- a cursor as an offset and the bytes from there on
abbrev pub place : Cursor → ℕ × List ℕ
place from = (from.at, from.rest.now)

abbrev pub place_in : Option Cursor → Option (ℕ × List ℕ)
place_in found = option_map place found
