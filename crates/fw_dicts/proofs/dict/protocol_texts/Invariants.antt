-- What was made of the protocols so far.
use Rattle.std.proofs.Common.{◌≡◌, map, take}
use Rattle.fw_addr.specs.Protocols.{proto_text}
use Rattle.fw_dicts.proofs.dict.protocol_texts.Given as goal

abbrev pub invariant-loop-protocol : goal.invariant-loop-protocol
invariant-loop-protocol l = l.texts ≡ map proto_text (take l.protocol-index l.protocols)
