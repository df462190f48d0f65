-- Letters that lie in place or in a block.
use Rattle.std.specs.Prelude.{ℕ, List, take}
use Rattle.dbus_signature.specs.declared.letters.Letters.{Letters}
use Rattle.dbus_signature.specs.declared.letters.Letters.TheVariants as letters

-- which letters they are: of those in place the first, as many as is said
abbrev pub letters_of : Letters → List ℕ
letters_of (letters.Short front count) = take count front
letters_of (letters.Long block) = block
