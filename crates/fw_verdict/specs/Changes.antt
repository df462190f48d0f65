-- What rules outside the filter do with a packet on its way: a list that is walked from its first item on. An item whose condition
-- holds of the packet as it is now logs a line, marks the packet, translates its destination, or has it leave with the host's own
-- address.
use Rattle.std.specs.Prelude.{ℕ, ◌-◌, ◌^◌, List, [], ◌∷◌, ◌++◌, bit_and, bit_xor, Bool, true, false, Option, None, Some, unwrap_or, if◌then◌else◌}
use Rattle.fw_addr.specs.declared.dnat.Dnat.{Dnat}
use Rattle.fw_addr.specs.declared.log.LogLine.{LogLine}
use Rattle.fw_model.specs.declared.packet.Packet.{Packet}

pub data Change : Type 0 where
  log : LogLine → Change
  mark : (value mask : ℕ) → Change
  translate : Dnat → Change
  masquerade : Change

pub record ChangeItem : Type 0 where
  pub hits : Packet → Bool
  pub change : Change

-- A packet on its way.
pub record Passing : Type 0 where
  -- the packet as it is now
  pub packet : Packet
  -- how its destination was translated
  pub dnat : Option Dnat
  -- whether it is to leave with the host's own address
  pub masquerade : Bool
  -- what was logged so far
  pub logs : List LogLine

abbrev pub first_passing : Packet → Passing
first_passing packet = record { packet = packet; dnat = None; masquerade = false; logs = [] }

-- Another mark: the bits of the mask are cleared in the old one, which has 32, and the value's bits turned.
abbrev pub new_mark : (value mask old : ℕ) → ℕ
new_mark value mask old = bit_xor (bit_and old (2 ^ 32 - 1 - mask)) value

abbrev pub with_mark : ℕ → Packet → Packet
with_mark number packet = record packet { mark = number }

-- Another destination: the address where one is given, and the port where one is given. The packet's connection is translated then.
abbrev pub with_destination : Dnat → Packet → Packet
with_destination dnat packet = record packet { dst = unwrap_or dnat.addr packet.dst; dport = unwrap_or dnat.port packet.dport; dnat = true }

abbrev pub changed : Change → Passing → Passing
changed (log line) now = record now { logs = now.logs ++ line ∷ [] }
changed (mark value mask) now = record now { packet = with_mark (new_mark value mask now.packet.mark) now.packet }
changed (translate dnat) now = record now { packet = with_destination dnat now.packet; dnat = Some dnat }
changed masquerade now = record now { masquerade = true }

-- Translation and masquerade end the walk.
abbrev pub ends : Change → Bool
ends (log line) = false
ends (mark value mask) = false
ends (translate dnat) = true
ends masquerade = true

-- Where a walk has come to, and whether an item ended it there.
pub record Reached : Type 0 where
  pub now : Passing
  pub over : Bool

abbrev pub going_on : Passing → Reached
going_on now = record { now = now; over = false }

-- what an item does
abbrev pub reached_by : ChangeItem → Passing → Reached
reached_by item now = if item.hits now.packet then record { now = changed item.change now; over = ends item.change } else going_on now

-- what comes next, where the walk isn't over
abbrev pub and_on : Reached → (Passing → Reached) → Reached
and_on reached others = if reached.over then reached else others reached.now

abbrev pub through : List ChangeItem → Passing → Reached
through [] now = going_on now
through (item ∷ items) now = and_on (reached_by item now) (through items)
