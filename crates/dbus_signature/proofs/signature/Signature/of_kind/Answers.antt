use Rattle.std.proofs.Common.{◌≡◌, rules}
use Rattle.dbus_signature.proofs.Whole.{type_is_signature}
use Rattle.dbus_signature.specs.Types.{codes}
use Rattle.dbus_signature.proofs.signature.Signature.of_kind.Goals as goal

pub invariant_of-result : goal.invariant_of-result
invariant_of-result c =
    let spelt : c.as_slice.result.now ≡ codes c.args.kind.now = search rules in
    rw (c.in_ok-letters.ensures, spelt) (type_is_signature (codes c.args.kind.now) c.args.kind.now c.requires)
