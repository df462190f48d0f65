-- Members on the firewall as a whole (firewalld.dbus(5), interface `org.fedoraproject.FirewallD1`), but for those that make one
-- configuration of another.
use Rattle.std.specs.Prelude.{ℕ, Bool, true, false, not, codes, List, [], ◌∷◌, map, Result, Ok}
use Rattle.std.specs.List.{list_any}
use Rattle.std.specs.Str.{bytes_eq}
use Rattle.fw_act.specs.Acts.{Answered, ◌>>=◌, changed, found_or, replied, required}
use Rattle.fw_act.specs.declared.answer.Answer.{Answer}
use Rattle.fw_calls.specs.declared.reply.Refusal.{Refusal}
use Rattle.fw_calls.specs.declared.reply.Reply.TheVariants as reply
use Rattle.fw_calls.specs.declared.signal.Arg.TheVariants as arg
use Rattle.fw_calls.specs.declared.signal.Signal.{Signal}
use Rattle.fw_calls.specs.declared.signal_kind.SignalKind.{SignalKind}
use Rattle.fw_calls.specs.declared.signal_kind.SignalKind.TheVariants as signal
use Rattle.fw_model.specs.declared.code.Code.TheVariants as code
use Rattle.fw_model.specs.declared.config.Config.{Config}
use Rattle.fw_model.specs.declared.config.LogDenied.{LogDenied}
use Rattle.fw_settings.specs.Parts.{with_config}
use Rattle.fw_settings.specs.declared.settings.Settings.{Settings}
use Rattle.fw_root_members.specs.LogDenied.{log_denied, log_denied_text, same_log_denied}
use Rattle.fw_root_members.specs.Reloading.{reloaded}

-- a signal that carries nothing, and one that carries a text
abbrev pub plain : SignalKind → Signal
plain kind = record { kind = kind; args = [] }

abbrev pub with_text : SignalKind → (text : List ℕ) → Signal
with_text kind text = record { kind = kind; args = arg.Text text ∷ [] }

-- `getDefaultZone()`
abbrev pub default_zone_member : Settings → Answered Settings
default_zone_member settings = replied settings (reply.Text settings.runtime.config.default_zone)

-- `getLogDenied()`
abbrev pub log_denied_member : Settings → Answered Settings
log_denied_member settings = replied settings (reply.Text (log_denied_text settings.runtime.config.log_denied))

-- `queryPanicMode()`
abbrev pub panic_mode_member : Settings → Answered Settings
panic_mode_member settings = replied settings (reply.Bool settings.runtime.panic)

-- `listServices()`
abbrev pub services_member : Settings → Answered Settings
services_member settings = replied settings (reply.Texts (map (λ service. service.name) settings.runtime.config.services))

-- whether a configuration has a zone of a name
abbrev pub has_zone : Config → (name : List ℕ) → Bool
has_zone config name = list_any (λ zone. bytes_eq zone.name name) config.zones

-- another default zone, in force and in the permanent settings
abbrev pub with_default_zone : Settings → (zone : List ℕ) → Settings
with_default_zone settings zone =
    record (with_config settings (record settings.runtime.config { default_zone = zone })) { permanent = record settings.permanent { default_zone = zone } }

-- the signal of this
abbrev pub default_zone_changed : (zone : List ℕ) → Answer
default_zone_changed zone = record { signals = with_text signal.RootDefaultZoneChanged zone ∷ []; reply = reply.None }

-- `setDefaultZone(zone)`
unfoldable pub set_default_zone_member : Settings → (zone : List ℕ) → Result (Answered Settings) Refusal
set_default_zone_member settings zone = do
  in_force ← required (has_zone settings.runtime.config zone) code.InvalidZone zone
  kept ← required (has_zone settings.permanent zone) code.InvalidZone zone
  other ← required (not (bytes_eq settings.runtime.config.default_zone zone)) code.ZoneAlreadySet zone
  Ok (record {
    signals = (default_zone_changed zone).signals;
    reply = (default_zone_changed zone).reply;
    after = with_default_zone settings zone;
  })

-- denied packets are logged otherwise, by both configurations
abbrev pub with_log_denied : Settings → LogDenied → Settings
with_log_denied settings denied =
    record (with_config settings (record settings.runtime.config { log_denied = denied })) { permanent = record settings.permanent { log_denied = denied } }

-- the signals of this, one behind the other
abbrev pub log_denied_changed : (value : List ℕ) → Answer
log_denied_changed value = record {
  signals = with_text signal.RootLogDeniedChanged value ∷ plain signal.RootReloaded ∷ [];
  reply = reply.None;
}

-- `setLogDenied(value)`, which reloads, too
unfoldable pub set_log_denied_member : Settings → (value : List ℕ) → Result (Answered Settings) Refusal
set_log_denied_member settings value = do
  denied ← found_or code.InvalidValue value (log_denied value)
  other ← required (not (same_log_denied settings.runtime.config.log_denied denied)) code.AlreadySet value
  Ok (record {
    signals = (log_denied_changed value).signals;
    reply = (log_denied_changed value).reply;
    after = reloaded (with_log_denied settings denied);
  })

abbrev pub with_panic : Settings → Bool → Settings
with_panic settings panic = record settings { runtime = record settings.runtime { panic = panic } }

-- `enablePanicMode()`
unfoldable pub enable_panic_member : Settings → Result (Answered Settings) Refusal
enable_panic_member settings = do
  off ← required (not settings.runtime.panic) code.AlreadyEnabled (codes "panic")
  Ok (changed (plain signal.RootPanicModeEnabled) reply.None (with_panic settings true))

-- `disablePanicMode()`
unfoldable pub disable_panic_member : Settings → Result (Answered Settings) Refusal
disable_panic_member settings = do
  on ← required settings.runtime.panic code.NotEnabled (codes "panic")
  Ok (changed (plain signal.RootPanicModeDisabled) reply.None (with_panic settings false))

-- `reload()` and `completeReload()`
abbrev pub reload_member : Settings → Answered Settings
reload_member settings = changed (plain signal.RootReloaded) reply.None (reloaded settings)
