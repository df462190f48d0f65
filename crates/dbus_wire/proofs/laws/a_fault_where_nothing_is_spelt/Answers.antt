use Rattle.dbus_wire.proofs.ReadLaws.{not_spelt, value_is_spelt, all_bytes}
use Rattle.dbus_wire.proofs.ValueBlames.{value_fault}
use Rattle.dbus_wire.proofs.laws.a_fault_where_nothing_is_spelt.Goals as goal

pub returns-clause-fault : goal.returns-clause-fault
returns-clause-fault c = not_spelt

pub returns-clause-spelt : goal.returns-clause-spelt
returns-clause-spelt c = λ endian kind offset bytes found is all found_is. value_is_spelt endian kind offset bytes found is (all_bytes bytes all) found_is

pub returns-clause-place : goal.returns-clause-place
returns-clause-place c = value_fault
