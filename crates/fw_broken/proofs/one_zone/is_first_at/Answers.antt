-- The first zone that lists an entry is the one at a place exactly where it is that place.
use Rattle.std.proofs.Common.{IfSome, subst}
use Rattle.fw_broken.proofs.OneZone.{found_first}
use Rattle.fw_zone.specs.Bindings.{IsFirstListed}
use Rattle.fw_broken.proofs.one_zone.is_first_at.Goals as goal

pub returns-in-Some : goal.returns-in-Some
returns-in-Some g c =
    found_first g.T.Entry.of g.T.Entry.with c.args.zones.now c.args.entry.now c.in-Some.first c.args.place
    (subst (λ found. IfSome found (λ place. IsFirstListed g.T.Entry.of g.T.Entry.with c.args.zones.now place c.args.entry.now)) c.in-Some.is c.first_zone.ensures.first)
