-- Zones are in an order by their names, and interface entries by their prefixes and then by their zones.
use Rattle.std.proofs.Common.{◌≡◌, ℕ, List, length, Option, None, Some, refl, subst}
use Rattle.std.specs.Cmp.{IsTotalOrder, back_total, nat_cmp_total, on_total, then_total}
use Rattle.std.specs.Cmp.Lexicographic.{nat_list_cmp_total, options_total}
use Rattle.std.specs.Option.{option_cmp}
use Rattle.std.specs.Ordering.{nat_cmp}
use Rattle.fw_addr.specs.Interfaces.{before_plus}
use Rattle.fw_hits.specs.Bindings.{Entry, entry_order, prefix_order, zone_order}
use Rattle.fw_model.specs.declared.zone.Zone.{Zone}

prefix_is : (one other : Option (List ℕ)) → option_cmp (λ front longer. nat_cmp (length longer) (length front)) one other ≡ prefix_order one other
prefix_is None None = refl
prefix_is None (Some other) = refl
prefix_is (Some front) None = refl
prefix_is (Some front) (Some other) = refl

prefix_total : IsTotalOrder prefix_order
prefix_total =
    subst IsTotalOrder (λ i one other. prefix_is one other i) (options_total (back_total (on_total (λ (front : List ℕ). length front) nat_cmp_total)))

pub zone_total : IsTotalOrder zone_order
zone_total = on_total (λ (zone : Zone). zone.name) nat_list_cmp_total

pub entry_total : IsTotalOrder entry_order
entry_total = then_total (on_total (λ (entry : Entry). before_plus entry.text) prefix_total) (on_total (λ (entry : Entry). entry.zone) zone_total)
