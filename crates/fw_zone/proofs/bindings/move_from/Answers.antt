-- What another zone lists is as it was before the entry was appended.
use Rattle.std.proofs.Common.{◌≡◌, ◌∙◌, ℕ, List, Some, ap, refl, sym, remove, slice_get, slice_set, subst}
use Rattle.fw_zone.proofs.Items.{removed_at}
use Rattle.fw_zone.proofs.Zones.{other_stays}
use Rattle.fw_zone.proofs.bindings.move_from.Goals as goal

pub returns-clause-moved : goal.returns-clause-moved
returns-clause-moved g c =
    let zone = c.get_mut.result.now in
    let bound = c.in_ok-append_at.ensures.bound in
    let was = sym (other_stays c.args.zones.now c.args.place c.args.from _ c.requires.other) ∙ sym (ap (λ zones. slice_get zones c.args.from) bound.is) ∙ c.get_mut.ensures.value in
    let found = c.place_in-at.ensures zone (ap (λ zones. slice_get zones c.args.from) c.as_slice.ensures ∙ was) in
    let left = remove (g.T.Entry.of zone) c.place_in-at.result in
    record {
      between = c.append_at.new.zones;
      bound = bound;
      unbound = record {
        zone = zone;
        left = left;
        at = c.get_mut.ensures.value;
        removed = removed_at (g.T.Entry.of zone) left c.place_in-at.result c.args.entry found refl;
        is = ap (λ changed. slice_set c.append_at.new.zones c.args.from changed) c.take_out.ensures;
      };
    }
