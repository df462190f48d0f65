-- The digits that are left, behind the number so far, spell what the whole text spells.
use Rattle.std.proofs.Common.{◌≡◌, ◌≤◌, drop}
use Rattle.fw_text.specs.Number.{digits_to}
use Rattle.fw_text.proofs.number.read_digits.Given as goal

abbrev pub invariant-loop-byte : goal.invariant-loop-byte
invariant-loop-byte l = record {
  spells : digits_to l.most l.before (drop l.byte-index l.text) ≡ digits_to l.most 0 l.text;
  fits : l.before ≤ l.most;
}
