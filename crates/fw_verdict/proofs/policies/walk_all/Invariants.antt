use Rattle.std.proofs.Common.{List, Option, drop}
use Rattle.fw_addr.specs.declared.log.LogLine.{LogLine}
use Rattle.fw_model.specs.declared.outcome.Verdict.{Verdict}
use Rattle.fw_order.specs.Borrowed.{lent}
use Rattle.fw_verdict.specs.Given.{Walks}
use Rattle.fw_verdict.specs.Policies.{walk_all}
use Rattle.fw_verdict.proofs.policies.walk_all.Given as goal

-- an end from the policies that are left is an end from all
abbrev pub invariant-loop-policy : goal.invariant-loop-policy
invariant-loop-policy l =
    (logs : List LogLine) (decided : Option Verdict)
    → Walks (walk_all l.config l.packet (lent (drop l.policy-index l.policies))) l.logs logs decided
    → Walks (walk_all l.config l.packet (lent l.policies)) l.initial.logs logs decided
