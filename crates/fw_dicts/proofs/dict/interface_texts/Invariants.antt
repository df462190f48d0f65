-- The texts so far.
use Rattle.std.proofs.Common.{◌≡◌, take}
use Rattle.fw_dicts.proofs.dict.interface_texts.Given as goal

abbrev pub invariant-loop-iface : goal.invariant-loop-iface
invariant-loop-iface l = l.texts ≡ take l.iface-index l.interfaces
