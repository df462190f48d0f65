-- What was found is the first of the zones from here on.
use Rattle.std.proofs.Common.{◌≡◌, drop}
use Rattle.std.specs.List.{filter}
use Rattle.std.specs.Option.{option_copied}
use Rattle.fw_hits.specs.Bindings.{first_by, has_source, zone_order}
use Rattle.fw_hits.proofs.bindings.source_zone.Given as goal

abbrev pub invariant-loop-place : goal.invariant-loop-place
invariant-loop-place l =
    option_copied l.first ≡ first_by zone_order (filter (has_source l.config l.peer.address l.peer.mac) (drop l.place l.config.zones))
