-- A list of items is walked from its first on: an item whose condition holds of the packet logs a line or decides, and what
-- decides ends the walk.
use Rattle.std.specs.Prelude.{List, [], ◌∷◌, ◌++◌, map, Bool, Option, None, Some, if◌then◌else◌}
use Rattle.fw_addr.specs.declared.log.LogLine.{LogLine}
use Rattle.fw_model.specs.declared.outcome.Verdict.{Verdict}
use Rattle.fw_model.specs.declared.packet.Packet.{Packet}

-- A log line is given and the walk goes on; accept, drop or a reject of some type ends it.
pub data Effect : Type 0 where
  log : LogLine → Effect
  decide : Verdict → Effect

pub record Item : Type 0 where
  pub hits : Packet → Bool
  pub effect : Effect

-- What was decided, if anything, and the log lines before that.
pub record Walked : Type 0 where
  pub decided : Option Verdict
  pub logs : List LogLine

-- with no log line
abbrev pub silently : Option Verdict → Walked
silently decided = record { decided = decided; logs = [] }

abbrev pub nothing : Walked
nothing = silently None

-- the effect of an item
abbrev pub done : Effect → Walked
done (log line) = record { decided = None; logs = line ∷ [] }
done (decide verdict) = silently (Some verdict)

-- what an item does to a packet
abbrev pub does : Packet → Item → Walked
does packet item = if item.hits packet then done item.effect else nothing

-- One, and where it decided nothing then the other, whose log lines come behind.
abbrev pub or_then : Option Verdict → List LogLine → Walked → Walked
or_then (Some verdict) lines other = record { decided = Some verdict; logs = lines }
or_then None lines other = record { decided = other.decided; logs = lines ++ other.logs }

-- One after another: the first that decides ends it, and log lines before that are kept.
abbrev pub in_turn : List Walked → Walked
in_turn [] = nothing
in_turn (one ∷ others) = or_then one.decided one.logs (in_turn others)

abbrev pub walk : List Item → Packet → Walked
walk items packet = in_turn (map (does packet) items)
