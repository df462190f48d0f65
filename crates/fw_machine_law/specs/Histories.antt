-- What a history of events leaves of the settings: each is entered with what became of its save and of its commit (this project's own).
use Rattle.std.specs.Prelude.{List, [], ◌∷◌}
use Rattle.fw_calls.specs.declared.event.Entry.{Entry}
use Rattle.fw_machine.specs.Machine.{step}
use Rattle.fw_proposals.specs.Proposals.{Proposes}
use Rattle.fw_settings.specs.Settling.{settled}
use Rattle.fw_settings.specs.declared.proposal.Proposal.{Proposal}
use Rattle.fw_settings.specs.declared.settings.Settings.{Settings}

-- Entries, one after another, leave these settings of those. Each does what was proposed for its event, as far as its results allow.
pub data Leaves : Settings → List Entry → Settings → Type 0 where
  nothing : {settings : Settings} → Leaves settings [] settings
  enters : {settings last : Settings} {entries : List Entry} (entry : Entry) (proposal : Proposal) → Proposes settings (step settings entry.event) proposal
      → Leaves (settled settings proposal entry.save entry.commit).settings entries last → Leaves settings (entry ∷ entries) last
