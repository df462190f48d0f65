-- The values are what was found, and then those of the words that are left.
use Rattle.std.specs.Option.{option_copied}
use Rattle.fw_words.proofs.Finding.{Finds}
use Rattle.fw_words.proofs.keys.at_most_one.Given as goal

abbrev pub invariant-loop-word : goal.invariant-loop-word
invariant-loop-word l = Finds l.key l.words (option_copied l.found) l.word-index
