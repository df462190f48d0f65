-- Edits of one ipset keep it as a valid configuration has it.
use Rattle.std.proofs.Common.{◌≡◌, Bool, true, false, if◌then◌else◌, List, [], ◌∷◌, ◌++◌, IsTrue, refl, sym, fold}
use Rattle.fw_answer.proofs.Equality as equality
use Rattle.fw_answer.proofs.Items.{is_in_decides}
use Rattle.fw_answer.specs.Equal.{same_item}
use Rattle.fw_answer.specs.Lists.{is_in, without}
use Rattle.fw_ipset.specs.Entries.{fits, with_items}
use Rattle.fw_ipset_members.specs.Items.{each_once, with_new}
use Rattle.fw_model.specs.declared.ipset.IpSet.{IpSet}
use Rattle.fw_model.specs.declared.ipset.Item.{Item}
use Rattle.fw_valid.specs.Each.{Each, IsWithoutRepeats}
use Rattle.fw_valid.specs.Sets.{IsSet}
use Rattle.fw_zone.specs.Lists.{IsIn}
use Rattle.fw_zone_laws.proofs.Lists.{each_less, each_more, once_less, once_more}

-- an ipset of this name, as it must be
pub record IsEdit (old new : IpSet) : Type 0 where
  pub named : new.name ≡ old.name
  pub set : IsSet new
  pub once : IsWithoutRepeats new.items

-- other items, of a set whose entries come without a timeout
pub items_changed : (old : IpSet) (items : List Item) → IsSet old → old.timeout ≡ false → Each (λ (item : Item). IsTrue (fits old item)) items → IsWithoutRepeats items → IsEdit old (with_items old items)
items_changed old items is untimed each once = record {
  named = refl;
  set = record {
    hardware_is_inet = is.hardware_is_inet;
    items_fit = each;
    timeout_is_empty = λ (timed : IsTrue old.timeout). let impossible = sym untimed in cc;
  };
  once = once;
}

absent : (item : Item) (items : List Item) → is_in same_item item items ≡ false → ¬ (IsIn item items)
absent item items none found = let impossible = (is_in_decides same_item equality.items item items).1 found in cc

pub item_added : (old : IpSet) (item : Item) → IsSet old → IsWithoutRepeats old.items → old.timeout ≡ false → IsTrue (fits old item) → is_in same_item item old.items ≡ false
    → IsEdit old (with_items old (old.items ++ item ∷ []))
item_added old item is once untimed fit none =
    items_changed old (old.items ++ item ∷ []) is untimed (each_more (λ (item : Item). IsTrue (fits old item)) old.items item is.items_fit fit)
    (once_more old.items item once (absent item old.items none))

pub item_removed : (old : IpSet) (item : Item) → IsSet old → IsWithoutRepeats old.items → old.timeout ≡ false → IsEdit old (with_items old (without same_item item old.items))
item_removed old item is once untimed =
    items_changed old (without same_item item old.items) is untimed (each_less same_item (λ (item : Item). IsTrue (fits old item)) old.items item is.items_fit)
    (once_less same_item old.items item once)

-- items of a list, each once
module _ (P : Item → Type 0) where
  new_each : (items : List Item) (item : Item) → Each P items → P item → Each P (with_new items item)
  new_each items item each is = by (is_in same_item item items)
    where
      by : (known : Bool) → Each P (if known then items else items ++ item ∷ [])
      by true = each
      by false = each_more P items item each is

  pub once_each : (so_far items : List Item) → Each P so_far → Each P items → Each P (fold with_new so_far items)
  once_each so_far [] each others = each
  once_each so_far (item ∷ items) each others = once_each (with_new so_far item) items (new_each so_far item each others.0) others.1

new_once : (items : List Item) (item : Item) → IsWithoutRepeats items → IsWithoutRepeats (with_new items item)
new_once items item once = by (is_in same_item item items) refl
  where
    by : (known : Bool) → is_in same_item item items ≡ known → IsWithoutRepeats (if known then items else items ++ item ∷ [])
    by true is = once
    by false is = once_more items item once (absent item items is)

pub once_once : (so_far items : List Item) → IsWithoutRepeats so_far → IsWithoutRepeats (fold with_new so_far items)
once_once so_far [] once = once
once_once so_far (item ∷ items) once = once_once (with_new so_far item) items (new_once so_far item once)

pub items_set : (old : IpSet) (items : List Item) → IsSet old → old.timeout ≡ false → Each (λ (item : Item). IsTrue (fits old item)) items → IsEdit old (with_items old (each_once items))
items_set old items is untimed each =
    items_changed old (each_once items) is untimed (once_each (λ (item : Item). IsTrue (fits old item)) [] items tt each) (once_once [] items tt)
