-- The alternatives of the source ports so far are added.
use Rattle.std.proofs.Common.{◌≡◌, ◌++◌, take}
use Rattle.lower_match.specs.Forms.{each_at, source_port_test}
use Rattle.lower_match.proofs.service.push_source_ports.Given as goal

abbrev pub invariant-loop-port : goal.invariant-loop-port
invariant-loop-port l = l.alternatives ≡ l.fn.alternatives ++ each_at l.ends source_port_test (take l.port-index l.ports)
