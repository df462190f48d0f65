use Rattle.std.proofs.Common.{◌≡◌, length, arith}
use Rattle.dbus_wire.proofs.StringLaws.{one_type_kind}
use Rattle.dbus_held.proofs.strings.type_end.Goals as goal

pub returns-clause-valid : goal.returns-clause-valid
returns-clause-valid c =
    let none : length c.in_ok-kind.last.rest.now ≡ 0 = grind arith in
    one_type_kind _ c.in_ok-codes.codes.rest.now c.in_ok-kind.kind c.in_ok-kind.last.at c.in_ok-kind.last.rest.now c.in_ok-kind.ensures.exact none c.in_ok-codes.ensures.short
