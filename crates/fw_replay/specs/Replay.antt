-- What a journal says of the daemon (this project's own): from the first settings on, the settings that each entry leaves, one after another, with
-- what it is answered and what sessions are told of it.
use Rattle.std.specs.Prelude.{List, [], ◌∷◌}
use Rattle.fw_act.specs.Acts.{Answered}
use Rattle.fw_calls.specs.declared.applied.Applied.{Applied}
use Rattle.fw_calls.specs.declared.applied.Applied.TheVariants as applied
use Rattle.fw_calls.specs.declared.event.Entry.{Entry}
use Rattle.fw_calls.specs.declared.reply.Reply.{Reply}
use Rattle.fw_calls.specs.declared.reply.Reply.TheVariants as reply
use Rattle.fw_calls.specs.declared.signal.Signal.{Signal}
use Rattle.fw_machine.specs.Machine.{step}
use Rattle.fw_settings.specs.Settling.{Settled, answered, kept_alone, refused_commit}
use Rattle.fw_settings.specs.declared.settings.Settings.{Settings}

-- an event of which the save didn't fail
abbrev pub committed_as : Settings → Answered Settings → (commit : Applied) → Settled
committed_as settings done applied.Failed = record {
  reply = refused_commit done.reply;
  signals = [];
  settings = kept_alone settings done.after;
}
committed_as settings done applied.Skipped = record { reply = answered done.reply applied.Skipped; signals = done.signals; settings = done.after }
committed_as settings done applied.Done = record { reply = answered done.reply applied.Done; signals = done.signals; settings = done.after }

-- What an event leaves, by what it is to do and what became of its save and its commit. A save that failed leaves everything, and a commit that
-- failed leaves the settings in force with their timers; neither is told to anybody but the one who asked.
unfoldable pub settled_as : Settings → Answered Settings → (save commit : Applied) → Settled
settled_as settings done applied.Failed commit = record { reply = reply.SaveFailed; signals = []; settings = settings }
settled_as settings done applied.Skipped commit = committed_as settings done commit
settled_as settings done applied.Done commit = committed_as settings done commit

-- an entry, over the settings before it
abbrev pub played : Settings → Entry → Settled
played settings entry = settled_as settings (step settings entry.event) entry.save entry.commit

-- the settings that entries leave, from the first ones on
unfoldable pub replay : Settings → List Entry → Settings
replay first [] = first
replay first (entry ∷ others) = replay (played first entry).settings others

-- what sessions are told of each entry
unfoldable pub signals_of : Settings → List Entry → List (List Signal)
signals_of first [] = []
signals_of first (entry ∷ others) = (played first entry).signals ∷ signals_of (played first entry).settings others

-- and what each is answered
unfoldable pub replies_of : Settings → List Entry → List Reply
replies_of first [] = []
replies_of first (entry ∷ others) = (played first entry).reply ∷ replies_of (played first entry).settings others
