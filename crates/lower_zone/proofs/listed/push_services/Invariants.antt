-- The settings so far were added.
use Rattle.std.proofs.Common.{◌≡◌, ◌++◌, map, take}
use Rattle.fw_model.specs.declared.setting.Setting.TheVariants as setting
use Rattle.lower_zone.proofs.listed.push_services.Given as goal

abbrev pub invariant-loop-name : goal.invariant-loop-name
invariant-loop-name l = l.settings ≡ l.fn.settings ++ map setting.Service (take l.name-index l.names)
