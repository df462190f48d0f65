-- A refusal leaves the settings as they were, also where an answer was made beside the edit.
use Rattle.std.proofs.Common.{◌≡◌, Result, Ok, Err, OnErr, refl}
use Rattle.fw_act.specs.Acts.{Keeps}
use Rattle.fw_zone_members.specs.Told.{after_edit}
use Rattle.fw_act.specs.declared.answer.Answer.{Answer}
use Rattle.fw_act.specs.declared.stop.Stop.{Stop}
use Rattle.fw_act.specs.declared.stop.Stop.TheVariants as stop

pub kept_after : {S : Type 0} (old new : S) (edited : Result (Unit {0}) Stop) (answer : Answer) → Keeps old new edited → Keeps old new (after_edit edited answer)
kept_after old new (Ok done) answer kept = λ refusal is. cc
kept_after old new (Err (stop.Refused one)) answer kept = λ refusal is. kept one refl
kept_after old new (Err stop.Memory) answer kept = λ refusal is. cc

pub kept_from : {S X : Type 0} (old new : S) (result : Result X Stop) → OnErr result (new ≡ old) → Keeps old new result
kept_from old new (Ok x) kept = λ refusal is. cc
kept_from old new (Err stop) kept = λ refusal is. kept
