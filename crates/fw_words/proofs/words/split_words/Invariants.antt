-- The words of the line are those found, and then those of the text that is left.
use denote.Text.{Utf8}
use denote.Shadow.{shadow}
use Rattle.fw_words.proofs.Splitting.{IsSplit}
use Rattle.fw_words.proofs.words.split_words.Given as goal

abbrev pub invariant-loop : goal.invariant-loop
invariant-loop l = shadow (Utf8 l.text) × IsSplit l.line l.found.items l.counter l.text
