-- What the lists of each kind of record are without repeats.
use Rattle.fw_model.specs.declared.config.Config.{Config}
use Rattle.fw_model.specs.declared.ipset.IpSet.{IpSet}
use Rattle.fw_model.specs.declared.policy.Policy.{Policy}
use Rattle.fw_model.specs.declared.service.Service.{Service}
use Rattle.fw_model.specs.declared.zone.Zone.{Zone}
use Rattle.fw_valid.specs.Each.{IsWithoutRepeats}

pub record ZoneOnce (config : Config) (zone : Zone) : Type 0 where
  pub interfaces : IsWithoutRepeats zone.interfaces
  pub sources : IsWithoutRepeats zone.sources

pub record PolicyOnce (config : Config) (policy : Policy) : Type 0 where
  pub ingress : IsWithoutRepeats policy.ingress
  pub egress : IsWithoutRepeats policy.egress

pub record ServiceOnce (config : Config) (service : Service) : Type 0 where
  pub includes : IsWithoutRepeats service.includes
  pub ports : IsWithoutRepeats service.ports
  pub protocols : IsWithoutRepeats service.protocols
  pub source_ports : IsWithoutRepeats service.source_ports

abbrev pub SetOnce : Config → IpSet → Type 0
SetOnce config set = IsWithoutRepeats set.items
