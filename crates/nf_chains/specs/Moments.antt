-- A packet at one moment of its way through a ruleset.
use Rattle.std.specs.Prelude.{ℕ, suc, List, [], ◌∷◌, ◌++◌, Bool, true, false, Option, None, Some}
use Rattle.fw_addr.specs.declared.dnat.Dnat.{Dnat}
use Rattle.fw_addr.specs.declared.log.LogLine.{LogLine}
use Rattle.fw_model.specs.declared.outcome.Outcome.{Outcome}
use Rattle.fw_model.specs.declared.outcome.Verdict.{Verdict}
use Rattle.fw_model.specs.declared.packet.Packet.{Packet}
use Rattle.nf_chains.specs.Marks.{marked, translated}

pub record Moment : Type 0 where
  -- the packet as it is now
  pub packet : Packet
  -- how its destination was translated
  pub dnat : Option Dnat
  -- whether it is to leave with the host's own address
  pub masquerade : Bool
  -- what was logged so far
  pub logs : List LogLine
  -- how many rules were looked at so far
  pub looked_at : ℕ

abbrev pub first_moment : Packet → Moment
first_moment packet = record { packet = packet; dnat = None; masquerade = false; logs = []; looked_at = 0 }

-- one line more
abbrev pub logging : LogLine → Moment → Moment
logging line now = record now { logs = now.logs ++ line ∷ [] }

-- one rule more
abbrev pub looking : Moment → Moment
looking now = record now { looked_at = suc now.looked_at }

-- another mark
abbrev pub marking : (value mask : ℕ) → Moment → Moment
marking value mask now = record now { packet = record now.packet { mark = marked value mask now.packet.mark } }

-- another destination
abbrev pub translating : Dnat → Moment → Moment
translating dnat now = record now { packet = translated dnat now.packet; dnat = Some dnat }

-- to leave with the host's own address
abbrev pub masquerading : Moment → Moment
masquerading now = record now { masquerade = true }

abbrev pub outcome_of : Verdict → Moment → Outcome
outcome_of verdict now = record { verdict = verdict; mark = now.packet.mark; dnat = now.dnat; masquerade = now.masquerade; logs = now.logs }
