use Rattle.std.proofs.Common.{sym, ap}
use Rattle.std.specs.Prelude.{not}
use Rattle.std.proofs.lemmas.Bool.{and_from, and_left}
use Rattle.std.proofs.lemmas.Str.{is_utf8-from_IsUtf8}
use Rattle.dbus_wire.proofs.FieldLaws.{not_utf8}
use Rattle.dbus_held.proofs.strings.as_text.Goals as goal

pub returns-in_default-clause-none : goal.returns-in_default-clause-none
returns-in_default-clause-none c = and_left _ _ (not_utf8 c.args.bytes.now c.in_default.ensures.cases.0)

pub returns-else-contains-clause-text : goal.returns-else-contains-clause-text
returns-else-contains-clause-text c =
    (c.in-Ok.ensures.cases.0, and_from _ _ (is_utf8-from_IsUtf8 c.args.bytes.now c.in-Ok.ensures.cases.1) (ap not (sym c.if-contains.ensures.value)))
