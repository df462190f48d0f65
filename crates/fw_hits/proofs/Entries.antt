-- One interface entry more that stands for a name.
use Rattle.std.proofs.Common.{◌≡◌, ◌∙◌, ℕ, suc, List, ◌++◌, map, drop, Some, true, ap, slice_get}
use Rattle.std.specs.List.{filter}
use Rattle.fw_addr.specs.Interfaces.{matches}
use Rattle.fw_model.specs.declared.zone.Zone.{Zone}
use Rattle.fw_hits.specs.Bindings.{Entry, earlier, entry_order, first_by}
use Rattle.fw_hits.proofs.Places.{filter_at}

abbrev pub entries_from : Zone → List ℕ → List (List ℕ) → List Entry
entries_from zone name texts = map (λ text. record { zone = zone; text = text }) (filter (λ text. matches text name) texts)

pub entry_more : (zone : Zone) (name : List ℕ) (texts : List (List ℕ)) (place next : ℕ) (text : List ℕ) (others : List Entry)
    → slice_get texts place ≡ Some text
    → matches text name ≡ true
    → suc place ≡ next
    → first_by entry_order (entries_from zone name (drop place texts) ++ others)
    ≡ earlier entry_order (record { zone = zone; text = text }) (first_by entry_order (entries_from zone name (drop next texts) ++ others))
entry_more zone name texts place next text others is stands after =
    ap (λ kept. first_by entry_order (map (λ text. record { zone = zone; text = text }) kept ++ others)) (filter_at (λ text. matches text name) texts place text is stands)
    ∙ ap (λ from. earlier entry_order (record { zone = zone; text = text }) (first_by entry_order (entries_from zone name (drop from texts) ++ others))) after
