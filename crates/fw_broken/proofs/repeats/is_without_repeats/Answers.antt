-- An item that stands behind its own place is there twice.
use Rattle.std.proofs.Common.{◌+◌, length, refl, subst}
use Rattle.std.proofs.lemmas.Bool.{false≢true}
use Rattle.std.proofs.lemmas.List.{take_rest}
use Rattle.std.proofs.lemmas.Option.{slice_get_read}
use Rattle.fw_broken.proofs.Lists.{not_behind}
use Rattle.fw_zone.specs.Lists.{IsIn}
use Rattle.fw_broken.proofs.repeats.is_without_repeats.Goals as goal

pub returns-then-contains : goal.returns-then-contains
returns-then-contains g c =
    let item = slice_get_read c.args.items.now (length c.args.items.now) c.loop-place.place c.index-items-place.result refl c.loop-place-test.true c.index-items-place.is in (
      (λ is. absurd (false≢true is)),
      (λ once. absurd (not_behind c.args.items.now c.loop-place.place _ once item (subst (IsIn c.index-items-place.result) (take_rest c.args.items.now (c.loop-place.place + 1)) (c.contains.ensures.0 c.if-contains.true)))),
    )
