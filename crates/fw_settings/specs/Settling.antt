-- What an event leaves, by what became of its save and its commit (this project's own). The save comes first: where it failed, the
-- commit isn't tried.
use Rattle.std.specs.Prelude.{Bool, true, false, if◌then◌else◌, List, []}
use Rattle.std.specs.Option.{unwrap_or}
use Rattle.fw_calls.specs.declared.applied.Applied.{Applied}
use Rattle.fw_calls.specs.declared.applied.Applied.TheVariants as applied
use Rattle.fw_calls.specs.declared.reply.Reply.{Reply}
use Rattle.fw_calls.specs.declared.reply.Reply.TheVariants as reply
use Rattle.fw_calls.specs.declared.signal.Signal.{Signal}
use Rattle.fw_settings.specs.declared.proposal.Proposal.{Proposal}
use Rattle.fw_settings.specs.declared.settings.Settings.{Settings}

-- what an event is answered, what sessions are told, and the settings afterwards
pub record Settled : Type 0 where
  pub reply : Reply
  pub signals : List Signal
  pub settings : Settings

-- the settings that are proposed; none are those that there are
abbrev pub next_settings : Settings → Proposal → Settings
next_settings settings proposal = unwrap_or proposal.next settings

-- The settings in force and the timers stay; the permanent settings with their numbers, and the time, are the next ones.
abbrev pub kept_alone : (settings next : Settings) → Settings
kept_alone settings next = record next { runtime = settings.runtime; timers = settings.timers }

-- Ticks and events of links are answered with the result of their commit.
unfoldable pub is_event : Reply → Bool
is_event reply.None = false
is_event (reply.Bool flag) = false
is_event (reply.Text text) = false
is_event (reply.Path path) = false
is_event (reply.Texts texts) = false
is_event (reply.ActiveZones zones) = false
is_event (reply.ActivePolicies policies) = false
is_event (reply.ZoneSettings zone) = false
is_event (reply.PolicySettings policy) = false
is_event reply.Opened = false
is_event (reply.Event before) = true
is_event reply.Shut = false
is_event (reply.Refused refusal) = false
is_event reply.SaveFailed = false
is_event reply.CommitFailed = false

abbrev pub answered : Reply → (commit : Applied) → Reply
answered before commit = if is_event before then reply.Event commit else before

abbrev pub refused_commit : Reply → Reply
refused_commit before = if is_event before then reply.Event applied.Failed else reply.CommitFailed

-- the commit was tried, or wasn't needed
abbrev pub committed : Settings → Proposal → (commit : Applied) → Settled
committed settings proposal applied.Failed = record {
  reply = refused_commit proposal.reply;
  signals = [];
  settings = kept_alone settings (next_settings settings proposal);
}
committed settings proposal commit = record {
  reply = answered proposal.reply commit;
  signals = proposal.signals;
  settings = next_settings settings proposal;
}

abbrev pub settled : Settings → Proposal → (save commit : Applied) → Settled
settled settings proposal applied.Failed commit = record { reply = reply.SaveFailed; signals = []; settings = settings }
settled settings proposal save commit = committed settings proposal commit
