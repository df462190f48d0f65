-- The settings so far were added.
use Rattle.std.proofs.Common.{◌≡◌, ◌++◌, map, take}
use Rattle.fw_model.specs.declared.setting.Setting.TheVariants as setting
use Rattle.lower_zone.proofs.listed.push_protocols.Given as goal

abbrev pub invariant-loop-protocol : goal.invariant-loop-protocol
invariant-loop-protocol l = l.settings ≡ l.fn.settings ++ map setting.Protocol (take l.protocol-index l.protocols)
