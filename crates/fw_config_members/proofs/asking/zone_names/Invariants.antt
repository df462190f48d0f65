-- The names so far.
use Rattle.std.proofs.Common.{◌≡◌, take, map}
use Rattle.fw_config_members.proofs.asking.zone_names.Given as goal

abbrev pub invariant-loop-zone : goal.invariant-loop-zone
invariant-loop-zone l = l.names ≡ map (λ zone. zone.name) (take l.zone-index l.zones)
