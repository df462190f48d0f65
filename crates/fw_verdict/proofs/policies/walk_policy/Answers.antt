use Rattle.std.proofs.Common.{[], ◌∷◌, false, sym}
use Rattle.fw_verdict.specs.Items.{items}
use Rattle.fw_verdict.specs.Policies.{decided_by_target}
use Rattle.fw_verdict.specs.Walk.{silently, walk}
use Rattle.fw_verdict.proofs.Turns.{turn_ends}
use Rattle.fw_verdict.proofs.policies.walk_policy.Goals as goal

pub returns-then-is_some : goal.returns-then-is_some
returns-then-is_some c =
    turn_ends (walk (items c.args.config.now c.args.policy.now.rules false) c.args.packet.now) (silently (decided_by_target c.args.policy.now.target) ∷ []) _ _ _
    (sym c.if-is_some.ensures) c.in_ok-decided.ensures
