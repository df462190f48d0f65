-- What an event is to do, as a proposal says it (this project's own): nothing where nothing would change, a save exactly where the
-- permanent settings would change, and a commit exactly where the settings in force would.
use Rattle.std.specs.Prelude.{◌≡◌, ◌↔◌, false, IsNone, Result, Ok, Err}
use Rattle.fw_act.specs.Acts.{Answered, replied}
use Rattle.fw_calls.specs.declared.reply.Refusal.{Refusal}
use Rattle.fw_calls.specs.declared.reply.Reply.TheVariants as reply
use Rattle.fw_settings.specs.Settling.{next_settings}
use Rattle.fw_settings.specs.declared.proposal.Proposal.{Proposal}
use Rattle.fw_settings.specs.declared.settings.Settings.{Settings}

-- a refusal is a reply, and changes nothing
abbrev pub or_refused : Settings → Result (Answered Settings) Refusal → Answered Settings
or_refused settings (Ok answered) = answered
or_refused settings (Err refusal) = replied settings (reply.Refused refusal)

pub record Proposes (settings : Settings) (answered : Answered Settings) (proposal : Proposal) : Type 0 where
  pub reply : proposal.reply ≡ answered.reply
  pub signals : proposal.signals ≡ answered.signals
  pub next : next_settings settings proposal ≡ answered.after
  pub change : IsNone proposal.next ↔ (answered.after ≡ settings)
  pub save : (proposal.needs_save ≡ false) ↔ (answered.after.permanent ≡ settings.permanent)
  pub commit : (proposal.needs_commit ≡ false) ↔ (answered.after.runtime ≡ settings.runtime)
