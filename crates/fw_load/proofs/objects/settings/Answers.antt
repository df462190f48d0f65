-- What the parts that were read make together, and where one isn't read.
use Rattle.std.proofs.Common.{refl}
use Rattle.fw_load.specs.Objects.{settings}
use Rattle.fw_load.proofs.Ends.{goes_on, hands_on, reads, stops}
use Rattle.fw_load.proofs.objects.settings.Goals as goal

pub returns : goal.returns
unfolding settings
returns c =
    reads _ _ _ _ c.in_ok-default_zone.ensures (
    reads _ _ _ _ c.in_ok-log_denied.ensures (
    reads _ _ _ _ c.in_ok-zones.ensures (
    reads _ _ _ _ c.in_ok-policies.ensures (
    reads _ _ _ _ c.in_ok-services.ensures (
    reads _ _ _ _ c.in_ok-ipsets.ensures (
    refl))))))

pub returns-in_err-log_denied : goal.returns-in_err-log_denied
unfolding settings
returns-in_err-log_denied c = hands_on _ _ _ c.from_residual-in_err-log_denied.ensures (
    goes_on _ _ _ _ c.in_ok-default_zone.ensures (
    stops _ _ _ c.in_err-log_denied.ensures))

pub returns-in_err-zones : goal.returns-in_err-zones
unfolding settings
returns-in_err-zones c = hands_on _ _ _ c.from_residual-in_err-zones.ensures (
    goes_on _ _ _ _ c.in_ok-default_zone.ensures (
    goes_on _ _ _ _ c.in_ok-log_denied.ensures (
    stops _ _ _ c.in_err-zones.ensures)))

pub returns-in_err-policies : goal.returns-in_err-policies
unfolding settings
returns-in_err-policies c = hands_on _ _ _ c.from_residual-in_err-policies.ensures (
    goes_on _ _ _ _ c.in_ok-default_zone.ensures (
    goes_on _ _ _ _ c.in_ok-log_denied.ensures (
    goes_on _ _ _ _ c.in_ok-zones.ensures (
    stops _ _ _ c.in_err-policies.ensures))))

pub returns-in_err-services : goal.returns-in_err-services
unfolding settings
returns-in_err-services c = hands_on _ _ _ c.from_residual-in_err-services.ensures (
    goes_on _ _ _ _ c.in_ok-default_zone.ensures (
    goes_on _ _ _ _ c.in_ok-log_denied.ensures (
    goes_on _ _ _ _ c.in_ok-zones.ensures (
    goes_on _ _ _ _ c.in_ok-policies.ensures (
    stops _ _ _ c.in_err-services.ensures)))))

pub returns-in_err-ipsets : goal.returns-in_err-ipsets
unfolding settings
returns-in_err-ipsets c = hands_on _ _ _ c.from_residual-in_err-ipsets.ensures (
    goes_on _ _ _ _ c.in_ok-default_zone.ensures (
    goes_on _ _ _ _ c.in_ok-log_denied.ensures (
    goes_on _ _ _ _ c.in_ok-zones.ensures (
    goes_on _ _ _ _ c.in_ok-policies.ensures (
    goes_on _ _ _ _ c.in_ok-services.ensures (
    stops _ _ _ c.in_err-ipsets.ensures))))))
