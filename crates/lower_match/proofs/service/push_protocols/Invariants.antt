-- The alternatives of the protocols so far are added.
use Rattle.std.proofs.Common.{◌≡◌, ◌++◌, take}
use Rattle.lower_match.specs.Forms.{each_at}
use Rattle.nf_rules.specs.declared.test.Test.TheVariants.{Proto}
use Rattle.lower_match.proofs.service.push_protocols.Given as goal

abbrev pub invariant-loop-protocol : goal.invariant-loop-protocol
invariant-loop-protocol l = l.alternatives ≡ l.fn.alternatives ++ each_at l.ends Proto (take l.protocol-index l.protocols)
