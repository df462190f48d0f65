-- The names so far, each once.
use Rattle.std.proofs.Common.{◌≡◌, fold, [], take}
use Rattle.fw_dicts.specs.Values.{with_name}
use Rattle.fw_dicts.proofs.values.each_once.Given as goal

abbrev pub invariant-loop-name : goal.invariant-loop-name
invariant-loop-name l = l.told ≡ fold with_name [] (take l.name-index l.names)
