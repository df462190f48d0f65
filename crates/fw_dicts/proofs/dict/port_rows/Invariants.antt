-- What was made of the ports so far.
use Rattle.std.proofs.Common.{◌≡◌, map, take}
use Rattle.fw_dicts.specs.Dicts.{port_row}
use Rattle.fw_dicts.proofs.dict.port_rows.Given as goal

abbrev pub invariant-loop-port : goal.invariant-loop-port
invariant-loop-port l = l.rows ≡ map port_row (take l.port-index l.ports)
