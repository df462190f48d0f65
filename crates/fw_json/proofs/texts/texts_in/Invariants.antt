-- The texts so far, and then those of the items that are left, are those of all.
use Rattle.std.proofs.Common.{◌≡◌, ◌++◌, drop}
use Rattle.std.specs.Option.{option_map}
use Rattle.fw_json.specs.Texts.{texts_in}
use Rattle.serde_json.specs.View.{items_view}
use Rattle.fw_json.proofs.texts.texts_in.Given as goal

abbrev pub invariant-loop-item : goal.invariant-loop-item
invariant-loop-item l = option_map (λ rest. l.texts ++ rest) (texts_in (items_view (drop l.item-index l.items))) ≡ texts_in (items_view l.items)
