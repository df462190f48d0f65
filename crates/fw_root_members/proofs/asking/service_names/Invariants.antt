-- The names so far.
use Rattle.std.proofs.Common.{◌≡◌, take, map}
use Rattle.fw_root_members.proofs.asking.service_names.Given as goal

abbrev pub invariant-loop-service : goal.invariant-loop-service
invariant-loop-service l = l.names ≡ map (λ service. service.name) (take l.service-index l.services)
