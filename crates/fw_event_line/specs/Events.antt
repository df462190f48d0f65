-- Lines of a script that are events of the settings machine: calls, ticks and links (the spelling is this project's own).
use Rattle.std.specs.Prelude.{ℕ, ◌^◌, ◌==◌, Bool, true, false, if◌then◌else◌, codes, List, [], ◌∷◌, Option, None, Some}
use Rattle.std.specs.List.{list_any}
use Rattle.std.specs.Str.{bytes_eq}
use Rattle.fw_addr.specs.Interfaces.{interface}
use Rattle.fw_event_line.specs.Calls.{call_in}
use Rattle.fw_event_line.specs.declared.line.EventLine.{EventLine}
use Rattle.fw_event_line.specs.declared.line.EventLine.TheVariants as line
use Rattle.fw_text.specs.Number.{number_to}
use Rattle.fw_text.specs.Steps.{◌>>=◌}
use Rattle.fw_words.specs.Reading.{Read, at_end, next}

-- the number of a client, up to 9999
unfoldable pub client : List (List ℕ) → Option (Read ℕ)
client words = do
  word ← next words
  number ← number_to 9999 word.0
  Some (number, word.1)

-- `call CLIENT MEMBER ARGUMENTS`
unfoldable pub call_line : List (List ℕ) → Option EventLine
call_line words = do
  client ← client words
  asked ← call_in client.1
  Some (line.Call client.0 asked)

-- `end CLIENT`
unfoldable pub end_line : List (List ℕ) → Option EventLine
end_line words = do
  client ← client words
  at_end (line.End client.0) client.1

-- `tick SECONDS`, up to 2^62
unfoldable pub tick_line : List (List ℕ) → Option EventLine
tick_line words = do
  word ← next words
  now ← number_to (2 ^ 62) word.0
  at_end (line.Tick now) word.1

-- a name of an interface, without a `+`
unfoldable pub link_name : List ℕ → Option (List ℕ)
link_name text = if list_any (λ byte. byte == 43) text then None else interface text

-- whether a link came up or is gone
abbrev pub is_up : List ℕ → Option Bool
is_up word = if bytes_eq word (codes "up") then Some true else (if bytes_eq word (codes "gone") then Some false else None)

-- `link up NAME`, `link gone NAME`
unfoldable pub link_line : List (List ℕ) → Option EventLine
link_line words = do
  word ← next words
  up ← is_up word.0
  text ← next word.1
  name ← link_name text.0
  at_end (line.Link up name) text.1

-- an event, by the line's first word
unfoldable pub event_line : List (List ℕ) → Option EventLine
event_line [] = None
event_line (word ∷ words) =
    if bytes_eq word (codes "call") then call_line words
    else (if bytes_eq word (codes "end") then end_line words
    else (if bytes_eq word (codes "tick") then tick_line words
    else (if bytes_eq word (codes "link") then link_line words
    else None)))
