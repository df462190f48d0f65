-- The rules of the sources so far were added.
use Rattle.std.proofs.Common.{◌≡◌, ◌++◌, take}
use Rattle.std.specs.List.{flat_map}
use Rattle.lower_dispatch.specs.Forms.{peer_test, rule_where}
use Rattle.lower_dispatch.proofs.sources.push_zone.Given as goal

abbrev pub invariant-loop-source : goal.invariant-loop-source
invariant-loop-source l =
    l.rules ≡ l.fn.rules ++ flat_map (λ told. rule_where l.start l.zone (peer_test l.direction l.ipsets told)) (take l.source-index l.zone.sources)
