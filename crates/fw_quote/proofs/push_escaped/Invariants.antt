-- What stands there, and then what is left, is the whole text.
use Rattle.std.proofs.Common.{◌≡◌, ◌++◌, string_bytes}
use Rattle.std.specs.List.{flat_map}
use Rattle.fw_quote.specs.Quoted.{quoted_byte}
use Rattle.fw_quote.proofs.push_escaped.Given as goal

abbrev pub invariant-loop-letter : goal.invariant-loop-letter
invariant-loop-letter l = string_bytes l.out ++ flat_map quoted_byte l.letter-iterator.rest.now ≡ string_bytes l.initial.out ++ flat_map quoted_byte l.text
