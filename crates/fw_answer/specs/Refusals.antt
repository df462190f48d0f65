-- Calls that are refused (firewalld.dbus(5), "Errors"), and steps of which each may refuse: `do` goes through them.
use Rattle.std.specs.Prelude.{◌≡◌, ℕ, List, [], ◌∷◌, Result, Ok, Err}
use Rattle.fw_model.specs.declared.code.Code.{Code}
use Rattle.fw_told.specs.declared.told.Reply.{Reply}
use Rattle.fw_told.specs.declared.told.Reply.TheVariants as reply
use Rattle.fw_told.specs.declared.told.Signal.{Signal}
use Rattle.fw_told.specs.declared.told.Value.{Value}
use Rattle.fw_told.specs.declared.told.Value.TheVariants as value
use Rattle.fw_answer.specs.declared.answer.Answer.{Answer}
use Rattle.fw_answer.specs.declared.edits.EditError.{EditError}
use Rattle.fw_answer.specs.declared.edits.EditError.TheVariants as edit
use Rattle.fw_answer.specs.declared.refusal.Refusal.{Refusal}
use Rattle.fw_answer.specs.declared.refusal.Stop.{Stop}
use Rattle.fw_answer.specs.declared.refusal.Stop.TheVariants as stop

-- what a call answers, and the settings afterwards
pub record Answered (S : Type 0) : Type 0 where
  pub signals : List Signal
  pub reply : Reply
  pub after : S

-- no signal, and a reply with one value
abbrev pub value_answer : Value → Answer
value_answer value = record { signals = []; reply = reply.Ok (value ∷ []) }

-- a refusal names what it refuses
abbrev pub refused : {X : Type 0} → Code → (subject : List ℕ) → Result X Refusal
refused code subject = Err (record { code = code; subject = subject })

-- an edit, whose refusal names what it refuses
abbrev pub refused_as : {X : Type 0} → (subject : List ℕ) → Result X Code → Result X Refusal
refused_as subject (Ok x) = Ok x
refused_as subject (Err code) = refused code subject

abbrev pub result_and_then : {X Y : Type 0} → (X → Result Y Refusal) → Result X Refusal → Result Y Refusal
result_and_then step (Ok x) = step x
result_and_then step (Err refusal) = Err refusal

infixl 10 ◌>>=◌
-- the second step, where the first one doesn't refuse
abbrev pub ◌>>=◌ : {X Y : Type 0} → Result X Refusal → (X → Result Y Refusal) → Result Y Refusal
found >>= step = result_and_then step found

-- Why nothing was read of an argument: its refusal, or want of memory.
abbrev pub Stops : {X : Type 0} → Stop → Result X Refusal → Type 0
Stops (stop.Refused refusal) wanted = wanted ≡ Err refusal
Stops stop.Memory wanted = Unit {0}

-- What was read of an argument: what it is to be, its refusal, or want of memory.
abbrev pub Reads : {X : Type 0} → Result X Stop → Result X Refusal → Type 0
Reads (Ok x) wanted = wanted ≡ Ok x
Reads (Err stop) wanted = Stops stop wanted

-- What a call did: what it is to answer and to change; its refusal, and no change; or want of memory, and no change.
abbrev pub Answers : {S : Type 0} → (old new : S) → Result Answer Stop → Result (Answered S) Refusal → Type 0
Answers old new (Ok answer) wanted = wanted ≡ Ok (record { signals = answer.signals; reply = answer.reply; after = new })
Answers old new (Err stop) wanted = Stops stop wanted × (new ≡ old)

-- The same of a call that changes nothing.
abbrev pub Tells : {S : Type 0} → (settings : S) → Result Answer Stop → Result (Answered S) Refusal → Type 0
Tells settings result wanted = Answers settings settings result wanted

-- What an edit did: what it is to make of the settings; its refusal, and no change; or want of memory, and no change.
abbrev pub Edits : {S D : Type 0} → (old new : S) → Result D EditError → Result S Code → Type 0
Edits old new (Ok done) wanted = wanted ≡ Ok new
Edits old new (Err (edit.Refused code)) wanted = (wanted ≡ Err code) × (new ≡ old)
Edits old new (Err edit.Memory) wanted = new ≡ old

-- no signal, one value in reply, and no change
abbrev pub with_value : {S : Type 0} → S → Value → Answered S
with_value settings value = record { signals = []; reply = reply.Ok (value ∷ []); after = settings }

-- a refusal is a reply, and changes nothing
abbrev pub replied : {S : Type 0} → S → Result (Answered S) Refusal → Answered S
replied settings (Ok answered) = answered
replied settings (Err refusal) = record { signals = []; reply = reply.Refused refusal.code refusal.subject; after = settings }
