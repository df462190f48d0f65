-- The lines that tell a client of signals and replies (firewalld.dbus(5), its signals and the error
-- `org.fedoraproject.FirewallD1.Exception`; D-Bus Specification, "Standard Interfaces", for the other errors; the spelling of the lines is this
-- project's own).
use Rattle.std.specs.Prelude.{ℕ, Bool, if◌then◌else◌, codes, decimal, List, [], ◌∷◌, ◌++◌}
use Rattle.std.specs.List.{flat_map}
use Rattle.std.specs.Fmt.{signed_decimal}
use Rattle.fw_calls.specs.Interfaces.{script_name}
use Rattle.fw_calls.specs.Signals.{signal_interface, signal_name}
use Rattle.fw_calls.specs.declared.applied.Applied.{Applied}
use Rattle.fw_calls.specs.declared.applied.Applied.TheVariants as applied
use Rattle.fw_calls.specs.declared.reply.Reply.{Reply}
use Rattle.fw_calls.specs.declared.reply.Reply.TheVariants as reply
use Rattle.fw_calls.specs.declared.signal.Arg.{Arg}
use Rattle.fw_calls.specs.declared.signal.Arg.TheVariants as arg
use Rattle.fw_calls.specs.declared.signal.Signal.{Signal}
use Rattle.fw_calls.specs.declared.signal_kind.SignalKind.{SignalKind}
use Rattle.fw_dicts.specs.Dicts.{policy_dict, zone_dict}
use Rattle.fw_event_told.specs.Dicts.{actives_text, dict_text, policy_keys, zone_keys}
use Rattle.fw_event_told.specs.Values.{flag_text, texts_text}
use Rattle.fw_model.specs.Codes.{code_name}
use Rattle.fw_model.specs.declared.code.Code.{Code}
use Rattle.fw_model.specs.declared.code.Code.TheVariants as code
use Rattle.fw_quote.specs.Quoted.{quoted}

-- what a signal carries
unfoldable pub arg_text : Arg → List ℕ
arg_text (arg.Text text) = quoted text
arg_text (arg.Int number) = signed_decimal number
arg_text (arg.Zone zone) = dict_text zone_keys (zone_dict zone)
arg_text (arg.Policy policy) = dict_text policy_keys (policy_dict policy)

abbrev pub args_text : List Arg → List ℕ
args_text args = flat_map (λ arg. 32 ∷ arg_text arg) args

-- the name of a signal: its interface's name in scripts, a dot and its own
abbrev pub full_name : SignalKind → List ℕ
full_name kind = script_name (signal_interface kind) ++ codes "." ++ signal_name kind

-- the line of a signal
unfoldable pub signal_line : (client : ℕ) → Signal → List ℕ
signal_line client told = codes "signal " ++ decimal client ++ codes " " ++ full_name told.kind ++ args_text told.args ++ 10 ∷ []

-- an error, by its name and what it says
unfoldable pub error_text : (name reason : List ℕ) → List ℕ
error_text name reason = codes "error " ++ name ++ codes " " ++ quoted reason

-- the daemon's own error: a refusal's code, and what it refuses
unfoldable pub refusal_text : Code → (subject : List ℕ) → List ℕ
refusal_text code subject = error_text (codes "org.fedoraproject.FirewallD1.Exception") (code_name code ++ codes ": " ++ subject)

-- a reply, with its value behind a blank, or the error
unfoldable pub reply_text : Reply → List ℕ
reply_text reply.None = codes "ok"
reply_text (reply.Bool flag) = codes "ok " ++ flag_text flag
reply_text (reply.Text text) = codes "ok " ++ quoted text
reply_text (reply.Path path) = codes "ok " ++ quoted path
reply_text (reply.Texts texts) = codes "ok " ++ texts_text texts
reply_text (reply.ActiveZones zones) = codes "ok " ++ actives_text (codes "interfaces") (codes "sources") zones
reply_text (reply.ActivePolicies policies) = codes "ok " ++ actives_text (codes "ingress_zones") (codes "egress_zones") policies
reply_text (reply.ZoneSettings zone) = codes "ok " ++ dict_text zone_keys (zone_dict zone)
reply_text (reply.PolicySettings policy) = codes "ok " ++ dict_text policy_keys (policy_dict policy)
reply_text reply.Opened = codes "ok"
reply_text (reply.Event result) = codes "ok"
reply_text reply.Shut = codes "ok"
reply_text (reply.Refused refusal) = refusal_text refusal.code refusal.subject
reply_text reply.SaveFailed = error_text (codes "org.freedesktop.DBus.Error.IOError") (codes "permanent settings not saved")
reply_text reply.CommitFailed = refusal_text code.CommandFailed (codes "transaction refused")

-- the line of a reply
unfoldable pub reply_line : (client : ℕ) → Reply → List ℕ
reply_line client told = codes "reply " ++ decimal client ++ codes " " ++ reply_text told ++ 10 ∷ []

-- D-Bus's error of arguments that aren't of the member's types
unfoldable pub invalid_args_text : (letters : List ℕ) → List ℕ
invalid_args_text letters = error_text (codes "org.freedesktop.DBus.Error.InvalidArgs") letters

-- the line of a call whose arguments aren't of them
unfoldable pub unfit_line : (client : ℕ) → (letters : List ℕ) → List ℕ
unfit_line client letters =
    codes "reply " ++ decimal client ++ codes " " ++ invalid_args_text letters ++ 10 ∷ []

-- what became of a tick or a link
unfoldable pub applied_text : Applied → List ℕ
applied_text applied.Skipped = codes "skipped"
applied_text applied.Done = codes "done"
applied_text applied.Failed = codes "failed"

-- the line of a tick
unfoldable pub tick_line : (now : ℕ) → Applied → List ℕ
tick_line now result = codes "tick " ++ decimal now ++ codes " " ++ applied_text result ++ 10 ∷ []

-- the line of a link that came up, or is gone
abbrev pub link_word : (up : Bool) → List ℕ
link_word up = if up then codes "up " else codes "gone "

unfoldable pub link_line : (up : Bool) → (name : List ℕ) → Applied → List ℕ
link_line up name result = codes "link " ++ link_word up ++ name ++ codes " " ++ applied_text result ++ 10 ∷ []
