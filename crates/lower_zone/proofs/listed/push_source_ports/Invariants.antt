-- The settings so far were added.
use Rattle.std.proofs.Common.{◌≡◌, ◌++◌, map, take}
use Rattle.fw_model.specs.declared.setting.Setting.TheVariants as setting
use Rattle.lower_zone.proofs.listed.push_source_ports.Given as goal

abbrev pub invariant-loop-port : goal.invariant-loop-port
invariant-loop-port l = l.settings ≡ l.fn.settings ++ map setting.SourcePort (take l.port-index l.ports)
