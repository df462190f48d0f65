-- Walks of one list and then of another, with the lines that they log.
use Rattle.std.proofs.Common.{◌≡◌, ◌∙◌, List, ◌++◌, Option, None, Some, true, refl, sym, ap, subst, append_assoc}
use Rattle.std.specs.Prelude.{is_some}
use Rattle.fw_addr.specs.declared.log.LogLine.{LogLine}
use Rattle.fw_model.specs.declared.outcome.Verdict.{Verdict}
use Rattle.fw_model.specs.declared.packet.Packet.{Packet}
use Rattle.fw_verdict.specs.Given.{Walks}
use Rattle.fw_verdict.specs.Walk.{Item, Walked, or_then, walk}
use Rattle.fw_verdict.proofs.Walks.{walk_append}

-- A walk that decides nothing goes on with what stands behind.
pub goes_on : (one other : List Item) (packet : Packet) (first second third : List LogLine) (decided : Option Verdict)
    → Walks (walk one packet) first second None
    → Walks (walk other packet) second third decided
    → Walks (walk (one ++ other) packet) first third decided
goes_on one other packet first second third decided before behind =
    subst (λ (walked : Walked). Walks walked first third decided) (sym (walk_append one other packet))
    (joined (walk one packet) (walk other packet) before behind)
  where
    joined : (walked later : Walked) → Walks walked first second None → Walks later second third decided
        → Walks (or_then walked.decided walked.logs later) first third decided
    joined walked later before behind =
        subst (λ (chosen : Option Verdict). Walks (or_then chosen walked.logs later) first third decided) before.decides
        (record {
          decides = behind.decides;
          logs = behind.logs ∙ ap (λ (logs : List LogLine). logs ++ later.logs) before.logs ∙ append_assoc first walked.logs later.logs;
        })

-- One that decides ends.
pub ends : (one other : List Item) (packet : Packet) (first second : List LogLine) (decided : Option Verdict)
    → is_some decided ≡ true
    → Walks (walk one packet) first second decided
    → Walks (walk (one ++ other) packet) first second decided
ends one other packet first second decided there before =
    subst (λ (walked : Walked). Walks walked first second decided) (sym (walk_append one other packet))
    (kept decided (walk one packet) there before)
  where
    kept : (chosen : Option Verdict) (walked : Walked) → is_some chosen ≡ true → Walks walked first second chosen
        → Walks (or_then walked.decided walked.logs (walk other packet)) first second chosen
    kept None walked there before = cc
    kept (Some verdict) walked there before =
        subst (λ (found : Option Verdict). Walks (or_then found walked.logs (walk other packet)) first second (Some verdict)) before.decides
        (record { decides = refl; logs = before.logs })
