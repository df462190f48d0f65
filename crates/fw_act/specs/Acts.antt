-- Members that may be refused (firewalld.dbus(5), "Errors"), and steps of which each may refuse: `do` goes through them.
use Rattle.std.specs.Prelude.{◌≡◌, ℕ, Bool, if◌then◌else◌, List, [], ◌∷◌, Option, None, Some, Result, Ok, Err}
use Rattle.fw_act.specs.declared.answer.Answer.{Answer}
use Rattle.fw_act.specs.declared.edit.EditError.{EditError}
use Rattle.fw_act.specs.declared.edit.EditError.TheVariants as edit
use Rattle.fw_act.specs.declared.stop.Stop.{Stop}
use Rattle.fw_act.specs.declared.stop.Stop.TheVariants as stop
use Rattle.fw_calls.specs.declared.reply.Refusal.{Refusal}
use Rattle.fw_calls.specs.declared.reply.Reply.{Reply}
use Rattle.fw_calls.specs.declared.signal.Signal.{Signal}
use Rattle.fw_model.specs.declared.code.Code.{Code}

-- what a member answers, and the settings afterwards
pub record Answered (S : Type 0) : Type 0 where
  pub signals : List Signal
  pub reply : Reply
  pub after : S

-- a reply, no signal, and no change
abbrev pub replied : {S : Type 0} → S → Reply → Answered S
replied settings reply = record { signals = []; reply = reply; after = settings }

-- one signal, a reply, and other settings
abbrev pub changed : {S : Type 0} → Signal → Reply → S → Answered S
changed signal reply settings = record { signals = signal ∷ []; reply = reply; after = settings }

-- a refusal names what it refuses
abbrev pub refused : {X : Type 0} → Code → (subject : List ℕ) → Result X Refusal
refused code subject = Err (record { code = code; subject = subject })

-- an edit, whose refusal names what it refuses
abbrev pub refused_as : {X : Type 0} → (subject : List ℕ) → Result X Code → Result X Refusal
refused_as subject (Ok x) = Ok x
refused_as subject (Err code) = refused code subject

-- something that has to hold
abbrev pub required : Bool → Code → (subject : List ℕ) → Result (Unit {0}) Refusal
required holds code subject = if holds then Ok tt else refused code subject

-- something that has to be found
abbrev pub found_or : {X : Type 0} → Code → (subject : List ℕ) → Option X → Result X Refusal
found_or code subject None = refused code subject
found_or code subject (Some x) = Ok x

abbrev pub result_and_then : {X Y : Type 0} → (X → Result Y Refusal) → Result X Refusal → Result Y Refusal
result_and_then step (Ok x) = step x
result_and_then step (Err refusal) = Err refusal

infixl 10 ◌>>=◌
-- the second step, where the first one doesn't refuse
abbrev pub ◌>>=◌ : {X Y : Type 0} → Result X Refusal → (X → Result Y Refusal) → Result Y Refusal
found >>= step = result_and_then step found

-- Why nothing came of a step: its refusal, or want of memory.
abbrev pub Stops : {X : Type 0} → Stop → Result X Refusal → Type 0
Stops (stop.Refused refusal) wanted = wanted ≡ Err refusal
Stops stop.Memory wanted = Unit {0}

-- What was read of an argument: what it is to be, its refusal, or want of memory.
abbrev pub Reads : {X : Type 0} → Result X Stop → Result X Refusal → Type 0
Reads (Ok x) wanted = wanted ≡ Ok x
Reads (Err stop) wanted = Stops stop wanted

-- What an edit that names what it refuses made of the settings: what it is to make of them, its refusal, or want of memory.
abbrev pub Makes : {S : Type 0} → (new : S) → Result (Unit {0}) Stop → Result S Refusal → Type 0
Makes new (Ok done) wanted = wanted ≡ Ok new
Makes new (Err stop) wanted = Stops stop wanted

-- What a member did: what it is to answer and to make of the settings; its refusal; or want of memory.
abbrev pub Acts : {S : Type 0} → (new : S) → Result Answer Stop → Result (Answered S) Refusal → Type 0
Acts new (Ok answer) wanted = wanted ≡ Ok (record { signals = answer.signals; reply = answer.reply; after = new })
Acts new (Err stop) wanted = Stops stop wanted

-- A refusal leaves the settings as they were. After want of memory nothing is said of them here.
abbrev pub Keeps : {S X : Type 0} → (old new : S) → Result X Stop → Type 0
Keeps old new result = (refusal : Refusal) → result ≡ Err (stop.Refused refusal) → new ≡ old

-- What an edit did: what it is to make of the settings; its refusal, and no change; or want of memory, and no change.
abbrev pub Edits : {S D : Type 0} → (old new : S) → Result D EditError → Result S Code → Type 0
Edits old new (Ok done) wanted = wanted ≡ Ok new
Edits old new (Err (edit.Refused code)) wanted = (wanted ≡ Err code) × (new ≡ old)
Edits old new (Err edit.Memory) wanted = new ≡ old
