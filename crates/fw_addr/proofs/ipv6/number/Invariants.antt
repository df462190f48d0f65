-- The number is that of the groups so far.
use Rattle.std.proofs.Common.{◌≡◌, ◌<◌, ◌^◌, take}
use Rattle.std.specs.Int.Digits.{number_from_digits}
use Rattle.fw_addr.proofs.ipv6.number.Given as goal

abbrev pub invariant-loop-group : goal.invariant-loop-group
invariant-loop-group l = record {
  spells : l.number ≡ number_from_digits 65536 (take l.group-index l.groups);
  fits : l.number < 65536 ^ l.group-index;
}
