-- Lists in which an item that is repeated is kept once, at its first place.
use Rattle.std.specs.Prelude.{◌≡◌, List, [], ◌∷◌, ◌++◌}
use Rattle.fw_ipset.specs.Entries.{with_items}
use Rattle.fw_model.specs.declared.ipset.IpSet.{IpSet}
use Rattle.fw_model.specs.declared.ipset.Item.{Item}
use Rattle.fw_zone.specs.Lists.{IsIn}

-- Of a list, item after item, each that wasn't there before is kept.
pub data IsKeptOnce {A : Type 0} : List A → List A → Type 0 where
  nothing : IsKeptOnce [] []
  first : {items kept : List A} (item : A) → IsKeptOnce items kept → ¬ (IsIn item items) → IsKeptOnce (items ++ item ∷ []) (kept ++ item ∷ [])
  repeated : {items kept : List A} (item : A) → IsKeptOnce items kept → IsIn item items → IsKeptOnce (items ++ item ∷ []) kept

-- a set got these items, each once, in place of its own
abbrev pub IsReplaced : List Item → IpSet → IpSet → Type 0
IsReplaced items old new = (kept : List Item) × IsKeptOnce items kept × (new ≡ with_items old kept)
