-- Walks one after another, with the lines that they log.
use Rattle.std.proofs.Common.{◌≡◌, ◌∙◌, List, ◌∷◌, ◌++◌, Option, None, Some, true, refl, ap, subst, append_assoc}
use Rattle.std.specs.Prelude.{is_some}
use Rattle.fw_addr.specs.declared.log.LogLine.{LogLine}
use Rattle.fw_model.specs.declared.outcome.Verdict.{Verdict}
use Rattle.fw_verdict.specs.Given.{Walks}
use Rattle.fw_verdict.specs.Walk.{Walked, in_turn, or_then}

-- One that decides ends the walk.
pub turn_ends : (one : Walked) (others : List Walked) (first second : List LogLine) (decided : Option Verdict)
    → is_some decided ≡ true
    → Walks one first second decided
    → Walks (in_turn (one ∷ others)) first second decided
turn_ends one others first second None there walks = cc
turn_ends one others first second (Some verdict) there walks =
    subst (λ (found : Option Verdict). Walks (or_then found one.logs (in_turn others)) first second (Some verdict)) walks.decides
    (record { decides = refl; logs = walks.logs })

-- One that doesn't goes on with the others.
pub turn_goes_on : (one : Walked) (others : List Walked) (first second third : List LogLine) (decided : Option Verdict)
    → Walks one first second None
    → Walks (in_turn others) second third decided
    → Walks (in_turn (one ∷ others)) first third decided
turn_goes_on one others first second third decided before behind =
    subst (λ (found : Option Verdict). Walks (or_then found one.logs (in_turn others)) first third decided) before.decides
    (record {
      decides = behind.decides;
      logs = behind.logs ∙ ap (λ (logs : List LogLine). logs ++ (in_turn others).logs) before.logs ∙ append_assoc first one.logs (in_turn others).logs;
    })
