-- What a line of a script says. The script language is this project's own.
use Rattle.std.specs.Prelude.{ℕ, ◌==◌, Bool, true, not, if◌then◌else◌, codes, List, [], ◌∷◌, Option, None, Some}
use Rattle.std.specs.Option.{option_map}
use Rattle.std.specs.Str.{bytes_eq, is_utf8}
use Rattle.fw_text.specs.Number.{number_to}
use Rattle.fw_text.specs.Steps.{◌>>=◌}
use Rattle.fw_words.specs.Reading.{Read, at_end, next}
use Rattle.fw_words.specs.Words.{words}
use Rattle.fw_call.specs.Calls.{call_of}
use Rattle.fw_call.specs.declared.call.Request.{Request}
use Rattle.fw_call.specs.declared.call.Request.TheVariants as request
use Rattle.fw_packet.specs.Packets.{packet_of}
use Rattle.fw_line.specs.declared.line.Line.{Line}
use Rattle.fw_line.specs.declared.line.Line.TheVariants as line

-- the number of a client, up to 9999
abbrev pub client : List (List ℕ) → Option (Read ℕ)
client words = do
  word ← next words
  number ← number_to 9999 word.0
  Some (number, word.1)

-- a call of a client, or one whose arguments aren't of their types
abbrev pub request_line : (client : ℕ) → Request → Line
request_line client (request.Call call) = line.Call client call
request_line client (request.Unfit signature) = line.Unfit client signature

-- `call CLIENT MEMBER ARGUMENTS`
unfoldable pub call_line : List (List ℕ) → Option Line
call_line words = do
  client ← client words
  request ← call_of client.1
  Some (request_line client.0 request)

-- `end CLIENT`
unfoldable pub end_line : List (List ℕ) → Option Line
end_line words = do
  client ← client words
  at_end (line.End client.0) client.1

-- by its first word a line is a call, the end of a session or a packet
unfoldable pub line_of_words : List (List ℕ) → Option Line
line_of_words [] = None
line_of_words (word ∷ words) =
    if bytes_eq word (codes "call") then call_line words
    else if bytes_eq word (codes "end") then end_line words
    else if bytes_eq word (codes "packet") then option_map line.Packet (packet_of words)
    else None

-- an empty line, and one that begins with `#`
abbrev pub is_skipped : List ℕ → Bool
is_skipped [] = true
is_skipped (first ∷ line) = first == 35

-- What a line says, where it is in the grammar: text in UTF-8 that is skipped, or its words.
unfoldable pub line_of : List ℕ → Option Line
line_of bytes =
    if not (is_utf8 bytes) then None
    else if is_skipped bytes then Some line.Skip
    else words bytes >>= line_of_words
