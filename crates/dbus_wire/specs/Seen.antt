-- What contracts see of what is read.
use Rattle.std.specs.Prelude.{ℕ, List}
use Rattle.dbus_signature.specs.declared.cursor.Cursor.{Cursor}
use Rattle.dbus_signature.specs.declared.kind.Kind.{Kind}

-- a type, its spelling and the cursor after them
abbrev pub seen_type : Kind × List ℕ × Cursor → (Kind × List ℕ) × ℕ × List ℕ
seen_type found = ((found.0, found.1), found.2.at, found.2.rest.now)

-- the codes of a signature with their offset, and the cursor behind them
abbrev pub seen_codes : Cursor × Cursor → (ℕ × List ℕ) × ℕ × List ℕ
seen_codes found = ((found.0.at, found.0.rest.now), found.1.at, found.1.rest.now)
