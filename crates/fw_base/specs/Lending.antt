-- What a list is after an item of it was lent for writing.
use Rattle.std.specs.Prelude.{ℕ, List, slice_set}
use Rattle.std.specs.Borrow.{Lends, Fml, RattleType, MutBor}
use Rattle.fw_base.specs.contracts.seq.Seq.{the_row}

-- the list ends with the item at this place set to the last value behind the reference
abbrev pub lends_item : (T : RattleType) → MutBor (List T.Denot) → ℕ → MutBor T.Denot → Fml
lends_item T items at item = Lends (the_row T) T items item (slice_set items.now at)
