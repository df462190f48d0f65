-- Outcomes in which a packet gets a verdict and nothing else.
use Rattle.std.specs.Prelude.{false, [], None}
use Rattle.fw_model.specs.declared.outcome.Verdict.{Verdict}
use Rattle.fw_model.specs.declared.outcome.Outcome.{Outcome}

-- The verdict alone: mark 0, no translation, no masquerade, no log line.
abbrev pub plain_outcome : Verdict → Outcome
plain_outcome verdict = record { verdict = verdict; mark = 0; dnat = None; masquerade = false; logs = [] }
