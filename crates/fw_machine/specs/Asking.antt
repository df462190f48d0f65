-- What a call that only asks is answered, over settings that are only read (this project's own).
use Rattle.std.specs.Prelude.{◌≡◌, Bool, false, Option, None, Some, Result, Ok, Err}
use Rattle.fw_act.specs.Acts.{Answered, Stops}
use Rattle.fw_act.specs.declared.answer.Answer.{Answer}
use Rattle.fw_act.specs.declared.stop.Stop.{Stop}
use Rattle.fw_calls.specs.declared.reply.Refusal.{Refusal}
use Rattle.fw_settings.specs.declared.settings.Settings.{Settings}

-- What was told: what is to be answered, without a change; None where the call doesn't only ask; its refusal; or want of memory.
abbrev pub Tells : Settings → (asks : Bool) → Result (Option Answer) Stop → Result (Answered Settings) Refusal → Type 0
Tells settings asks (Ok None) wanted = asks ≡ false
Tells settings asks (Ok (Some answer)) wanted = wanted ≡ Ok (record { signals = answer.signals; reply = answer.reply; after = settings })
Tells settings asks (Err stop) wanted = Stops stop wanted
