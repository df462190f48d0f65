-- Each status by its own literal.
use Rattle.fw_script.proofs.status.write_line.Goals as goal

pub returns-in-BadScript-clause-writes : goal.returns-in-BadScript-clause-writes
returns-in-BadScript-clause-writes g c = rw (c.in-BadScript.is, ← c.format.ensures.text, ← c.as_bytes.ensures.value) c.write_three.ensures.writes

pub returns-in-ReadFault-clause-writes : goal.returns-in-ReadFault-clause-writes
returns-in-ReadFault-clause-writes g c = rw c.in-ReadFault.is c.write-in-ReadFault.ensures.writes

pub returns-in-WriteFault-clause-writes : goal.returns-in-WriteFault-clause-writes
returns-in-WriteFault-clause-writes g c = rw c.in-WriteFault.is c.write-in-WriteFault.ensures.writes

pub returns-in-InputTooLong-clause-writes : goal.returns-in-InputTooLong-clause-writes
returns-in-InputTooLong-clause-writes g c = rw c.in-InputTooLong.is c.write-in-InputTooLong.ensures.writes

pub returns-in-Memory-clause-writes : goal.returns-in-Memory-clause-writes
returns-in-Memory-clause-writes g c = rw c.in-Memory.is c.write-in-Memory.ensures.writes
