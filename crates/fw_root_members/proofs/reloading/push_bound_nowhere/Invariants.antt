-- Those of the names so far that no zone lists.
use Rattle.std.proofs.Common.{◌≡◌, ◌++◌, take}
use Rattle.fw_root_members.specs.Reloading.{bound_nowhere}
use Rattle.fw_root_members.proofs.reloading.push_bound_nowhere.Given as goal

abbrev pub invariant-loop-name : goal.invariant-loop-name
invariant-loop-name l = l.interfaces ≡ l.initial.interfaces ++ bound_nowhere l.zones (take l.name-index l.names)
