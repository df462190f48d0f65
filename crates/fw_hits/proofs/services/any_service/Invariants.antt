-- None of the services so far is about the packet.
use Rattle.std.proofs.Common.{◌≡◌, false, take}
use Rattle.std.specs.List.{list_any}
use Rattle.fw_hits.specs.Services.{service_hits}
use Rattle.fw_hits.proofs.services.any_service.Given as goal

abbrev pub invariant-loop-name : goal.invariant-loop-name
invariant-loop-name l = list_any (λ name. service_hits l.services name l.packet) (take l.name-index l.names) ≡ false
