-- The entry is taken out at its first place in the zone's list.
use Rattle.std.proofs.Common.{◌≡◌, ℕ, List, ap, refl, remove, slice_set, subst}
use Rattle.fw_zone.proofs.Items.{removed_at}
use Rattle.fw_zone.specs.Lists.{IsFirstPlace}
use Rattle.fw_zone.proofs.bindings.take_from.Goals as goal

pub returns-in-Some : goal.returns-in-Some
returns-in-Some g c =
    let zone = c.get_mut-zone.result.now in
    let left = remove (g.T.Entry.of zone) c.in-Some.at in
    let found = subst (λ items. IsFirstPlace items c.in-Some.at c.args.entry.now) c.entries.ensures c.in-Some.ensures.found in
    record {
      zone = zone;
      left = left;
      at = c.get_mut-zone.ensures.value;
      removed = removed_at (g.T.Entry.of zone) left c.in-Some.at c.args.entry.now found refl;
      is = ap (λ changed. slice_set c.args.zones.now c.args.place changed) c.take_out.ensures;
    }
