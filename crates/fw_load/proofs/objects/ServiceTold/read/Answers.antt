-- What the parts that were read make together.
use Rattle.std.proofs.Common.{refl}
use Rattle.fw_load.specs.Objects.{service}
use Rattle.fw_load.proofs.Ends.{reads}
use Rattle.fw_load.proofs.objects.ServiceTold.read.Goals as goal

pub returns : goal.returns
unfolding service
returns c =
    reads _ _ _ _ c.in_ok-has_service_keys.ensures (
    reads _ _ _ _ c.in_ok-name.ensures (
    reads _ _ _ _ c.in_ok-includes.ensures (
    reads _ _ _ _ c.in_ok-ports.ensures (
    reads _ _ _ _ c.in_ok-protocols.ensures (
    reads _ _ _ _ c.in_ok-source_ports.ensures (
    reads _ _ _ _ c.in_ok-v4.ensures (
    reads _ _ _ _ c.in_ok-v6.ensures (
    refl))))))))
