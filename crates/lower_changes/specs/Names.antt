-- The names of the chains that packets meet at prerouting and postrouting.
use Rattle.std.specs.Prelude.{ℕ, List, codes}
use Rattle.fw_verdict.specs.declared.sides.Side.{Side}
use Rattle.fw_verdict.specs.declared.sides.Side.TheVariants as side

-- the base chain of a side
abbrev pub base_name : Side → List ℕ
base_name side.Marked = codes "mangle_PREROUTING"
base_name side.Translated = codes "nat_PREROUTING"
base_name side.Leaving = codes "nat_POSTROUTING"

-- what the names of the chains of zones begin with
abbrev pub start : Side → List ℕ
start side.Marked = codes "mangle_PRE_"
start side.Translated = codes "nat_PRE_"
start side.Leaving = codes "nat_POST_"
