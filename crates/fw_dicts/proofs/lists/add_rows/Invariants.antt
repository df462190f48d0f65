-- What the rows that are left make of the settings so far is what all of them make of the first ones.
use Rattle.std.proofs.Common.{◌≡◌, drop}
use Rattle.fw_dicts.specs.Lists.{row_setting, with_all}
use Rattle.fw_dicts.proofs.lists.add_rows.Given as goal

abbrev pub invariant-loop-row : goal.invariant-loop-row
invariant-loop-row l = with_all (row_setting l.list) l.fn.rules l.rows ≡ with_all (row_setting l.list) l.rules (drop l.row-index l.rows)
