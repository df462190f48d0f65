-- What the parts that were read make together.
use Rattle.std.proofs.Common.{rules}
use Rattle.fw_load.specs.Objects.{policy}
use Rattle.fw_load.proofs.Ends.{reads}
use Rattle.fw_load.proofs.objects.PolicyTold.read.Goals as goal

pub returns : goal.returns
unfolding policy
returns c =
    reads _ _ _ _ c.in_ok-has_policy_keys.ensures (
    reads _ _ _ _ c.in_ok-name.ensures (
    reads _ _ _ _ c.in_ok-notes.ensures (
    reads _ _ _ _ c.in_ok-target.ensures (
    reads _ _ _ _ c.in_ok-priority.ensures (
    reads _ _ _ _ c.in_ok-ingress.ensures (
    reads _ _ _ _ c.in_ok-egress.ensures (
    reads _ _ _ _ c.in_ok-listed.ensures (
    reads _ _ _ _ c.in_ok-translated.ensures (
    search (rules, c.rules_of.ensures))))))))))
