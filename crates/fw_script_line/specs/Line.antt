-- What a line of a script says. The script language is this project's own; its calls are those of firewalld.dbus(5).
use Rattle.std.specs.Prelude.{ℕ, ◌==◌, Bool, true, not, if◌then◌else◌, codes, List, [], ◌∷◌, Option, None, Some}
use Rattle.std.specs.Option.{option_map}
use Rattle.std.specs.Str.{bytes_eq, is_utf8}
use Rattle.fw_event_line.specs.Events.{event_line}
use Rattle.fw_event_line.specs.declared.asked.Asked.{Asked}
use Rattle.fw_event_line.specs.declared.asked.Asked.TheVariants as asked
use Rattle.fw_event_line.specs.declared.line.EventLine.{EventLine}
use Rattle.fw_event_line.specs.declared.line.EventLine.TheVariants as event
use Rattle.fw_packet.specs.Packets.{packet_of}
use Rattle.fw_text.specs.Number.{number_to}
use Rattle.fw_text.specs.Steps.{◌>>=◌}
use Rattle.fw_words.specs.Reading.{Read, at_end, next}
use Rattle.fw_words.specs.Words.{words}
use Rattle.fw_script_line.specs.Bytes.{bytes_of}
use Rattle.fw_script_line.specs.declared.line.Line.{Line}
use Rattle.fw_script_line.specs.declared.line.Line.TheVariants as line

-- a call of a client, or one with a JSON text that isn't of its argument's type
abbrev pub asked_line : (client : ℕ) → Asked → Line
asked_line client (asked.Call call) = line.Call client call
asked_line client (asked.Unfit letters) = line.Unfit client letters

-- the line of an event
abbrev pub told_line : EventLine → Line
told_line (event.Call client asked) = asked_line client asked
told_line (event.End client) = line.End client
told_line (event.Tick now) = line.Tick now
told_line (event.Link up name) = line.Link up name

-- `call CLIENT MEMBER ARGUMENTS`, `end CLIENT`, `tick SECONDS`, `link up NAME` and `link gone NAME`
unfoldable pub event_line_of : List (List ℕ) → Option Line
event_line_of words = option_map told_line (event_line words)

-- the number of a connection, up to 9999
unfoldable pub connection : List (List ℕ) → Option (Read ℕ)
connection words = do
  word ← next words
  number ← number_to 9999 word.0
  Some (number, word.1)

-- nothing follows `rules`
abbrev pub rules_line : List (List ℕ) → Option Line
rules_line words = at_end line.Rules words

-- `dbus CONNECTION DIGITS`
unfoldable pub dbus_line : List (List ℕ) → Option Line
dbus_line words = do
  connection ← connection words
  digits ← next connection.1
  bytes ← bytes_of digits.0
  at_end (line.Dbus connection.0 bytes) digits.1

-- `hang CONNECTION`
unfoldable pub hang_line : List (List ℕ) → Option Line
hang_line words = do
  connection ← connection words
  at_end (line.Hang connection.0) connection.1

-- by its first word a line is of a packet, the ruleset or a connection, or all its words tell an event
abbrev pub line_by : (kind : List ℕ) (behind words : List (List ℕ)) → Option Line
line_by kind behind words =
    if bytes_eq kind (codes "packet") then option_map line.Packet (packet_of behind)
    else if bytes_eq kind (codes "rules") then rules_line behind
    else if bytes_eq kind (codes "dbus") then dbus_line behind
    else if bytes_eq kind (codes "hang") then hang_line behind
    else event_line_of words

unfoldable pub line_of_words : List (List ℕ) → Option Line
line_of_words words = do
  kind ← next words
  line_by kind.0 kind.1 words

-- an empty line, and one that begins with `#`
abbrev pub is_skipped : List ℕ → Bool
is_skipped [] = true
is_skipped (first ∷ line) = first == 35

-- What a line says, where it is in the grammar: text in UTF-8 that is skipped, or its words.
unfoldable pub line_of : List ℕ → Option Line
line_of bytes =
    if not (is_utf8 bytes) then None
    else if is_skipped bytes then Some line.Skip
    else words bytes >>= line_of_words
