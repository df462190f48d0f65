-- What was read stands before what the words that are left say.
use Rattle.fw_packet.proofs.Collecting.{Collects}
use Rattle.fw_packet.proofs.value.repeated.Given as goal

abbrev pub invariant-loop-word : goal.invariant-loop-word
invariant-loop-word g l = Collects g.T.Value.reading g.T.Value.in_range l.key l.words l.found l.word-index
