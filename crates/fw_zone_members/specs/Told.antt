-- What is told of an edit.
use Rattle.std.specs.Prelude.{Result, Ok, Err}
use Rattle.fw_act.specs.declared.answer.Answer.{Answer}
use Rattle.fw_act.specs.declared.stop.Stop.{Stop}

-- an answer, where the edit that it tells of was made; else why it wasn't
abbrev pub after_edit : Result (Unit {0}) Stop → Answer → Result Answer Stop
after_edit (Ok done) answer = Ok answer
after_edit (Err stop) answer = Err stop
