use Rattle.std.proofs.Common.{◌≡◌, length}
use Rattle.dbus_msg.specs.Names.{is_part}
use Rattle.dbus_msg.proofs.NameLaws.{all_parts}
use Rattle.dbus_msg.proofs.names.are_parts.Given as goal

abbrev pub invariant-loop-rest : goal.invariant-loop-rest
invariant-loop-rest l = all_parts (is_part l.part) l.rest ≡ all_parts (is_part l.part) l.text

abbrev pub decreases-loop-rest : goal.decreases-loop-rest
decreases-loop-rest l = length l.rest
