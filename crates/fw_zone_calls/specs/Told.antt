-- What is told of a zone.
use Rattle.std.specs.Prelude.{ℕ, List, [], ◌∷◌}
use Rattle.fw_answer.specs.declared.answer.Answer.{Answer}
use Rattle.fw_told.specs.declared.told.Reply.TheVariants as reply
use Rattle.fw_told.specs.declared.told.Signal.{Signal}
use Rattle.fw_told.specs.declared.told.Value.TheVariants as value

-- one signal, and a reply with the zone's name
abbrev pub told_of : (zone : List ℕ) → Signal → Answer
told_of zone signal = record { signals = signal ∷ []; reply = reply.Ok (value.Text zone ∷ []) }
