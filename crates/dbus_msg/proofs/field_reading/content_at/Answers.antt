use Rattle.std.proofs.Common.{subst, sym, ◌∙◌}
use Rattle.dbus_signature.specs.Reading.{Gives, Read}
use Rattle.dbus_msg.specs.FieldReading.{seen_content}
use Rattle.dbus_msg.specs.Known.{Content}
use Rattle.dbus_msg.proofs.FieldReadingLaws.{told_content}
use Rattle.dbus_msg.proofs.field_reading.content_at.Goals as goal

pub returns-in-Some-clause-exact : goal.returns-in-Some-clause-exact
returns-in-Some-clause-exact c =
    subst (λ (r : Read Content). Gives seen_content c.told_at.result r) (sym (told_content c.args.endian c.args.kind.now c.in-Some.told c.args.from.at c.args.from.rest.now (sym c.told_in.ensures ∙ c.in-Some.is))) c.told_at.ensures.exact
