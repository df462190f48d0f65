-- Of the items so far each is kept once, and the keys that were seen are theirs.
use Rattle.fw_ipset.proofs.Seen.{HasSeen}
use Rattle.fw_ipset.specs.Once.{IsKeptOnce}
use Rattle.fw_ipset.proofs.once.keep_once.Given as goal

abbrev pub invariant-loop-item : goal.invariant-loop-item
invariant-loop-item l = record {
  once : IsKeptOnce l.yielded l.kept;
  seen : HasSeen l.seen l.yielded;
}
