-- Each entry is listed by one zone where each zone is the first that lists its entries.
use Rattle.std.proofs.Common.{◌∙◌, ◌≤◌, arith, length, refl, subst, sym}
use Rattle.std.proofs.lemmas.Bool.{false≢true}
use Rattle.std.proofs.lemmas.Option.{slice_get_read}
use Rattle.std.specs.Bool.{Decides}
use Rattle.fw_broken.proofs.OneZone.{all_in_one, each_here, listed_here, one_more}
use Rattle.fw_valid.specs.Each.{Each}
use Rattle.fw_zone.specs.Bindings.{IsFirstListed}
use Rattle.fw_broken.proofs.one_zone.is_in_one_zone.Goals as goal

pub returns-then-not-are_first_at : goal.returns-then-not-are_first_at
returns-then-not-are_first_at g c =
    let zones = c.args.zones.now in
    let zone = slice_get_read zones (length zones) c.loop-place.place c.index-zones-place.result refl c.loop-place-test.true c.index-zones-place.is in
    let decides = subst (λ entries. Decides c.are_first_at.result (Each (λ entry. IsFirstListed g.T.Entry.of g.T.Entry.with zones c.loop-place.place entry) entries)) c.entries.ensures c.are_first_at.ensures in (
      (λ is. absurd (false≢true is)),
      (λ one. absurd (false≢true (sym c.if-not-are_first_at.true ∙ decides.1 (each_here g.T.Entry.of g.T.Entry.with zones one c.loop-place.place c.index-zones-place.result zone)))),
    )

pub loop-place-preserved : goal.loop-place-preserved
loop-place-preserved g c =
    let zones = c.args.zones.now in
    let zone = slice_get_read zones (length zones) c.loop-place.place c.index-zones-place.result refl c.loop-place-test.true c.index-zones-place.is in
    let decides = subst (λ entries. Decides c.are_first_at.result (Each (λ entry. IsFirstListed g.T.Entry.of g.T.Entry.with zones c.loop-place.place entry) entries)) c.entries.ensures c.are_first_at.ensures in
    one_more g.T.Entry.of g.T.Entry.with zones c.loop-place.place c.index-zones-place.result c.loop-place.invariant zone
    (listed_here g.T.Entry.of g.T.Entry.with zones c.loop-place.place c.index-zones-place.result (decides.0 c.if-not-are_first_at.false))

pub returns : goal.returns
returns g c =
    let past = c.loop-place-test.false in
    let whole : length c.args.zones.now ≤ c.loop-place.place = omega arith in
    ((λ is. all_in_one g.T.Entry.of g.T.Entry.with c.args.zones.now c.loop-place.place whole c.loop-place.invariant), (λ one. refl))
