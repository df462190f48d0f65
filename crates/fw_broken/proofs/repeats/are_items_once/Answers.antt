-- As many are kept as there are exactly where none is there twice.
use Rattle.std.proofs.Common.{◌∙◌}
use Rattle.fw_broken.proofs.Kept.{as_many_kept}
use Rattle.fw_broken.proofs.repeats.are_items_once.Goals as goal

pub returns : goal.returns
returns c =
    as_many_kept c.args.items.now c.into_vec.result.items c.in_ok-kept.kept c.as_slice.result.now c.as_slice-2.result.now c.in_ok-kept.ensures (c.into_vec.ensures ∙ c.in_ok-copy.ensures)
    c.as_slice.ensures c.as_slice-2.ensures
