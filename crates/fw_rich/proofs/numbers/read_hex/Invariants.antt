-- The digits that are left, behind the number so far, spell what the whole text spells.
use Rattle.std.proofs.Common.{◌≡◌, ◌<◌, ◌^◌, drop}
use Rattle.fw_rich.specs.Numbers.{hex_to}
use Rattle.fw_rich.proofs.numbers.read_hex.Given as goal

abbrev pub invariant-loop-byte : goal.invariant-loop-byte
invariant-loop-byte l = record {
  spells : hex_to l.before (drop l.byte-index l.text) ≡ hex_to 0 l.text;
  fits : l.before < 16 ^ l.byte-index;
}
