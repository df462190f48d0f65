-- What the types of a configuration's values hold: numbers of so many bits, nets without bits behind their prefixes, names of interfaces.
use Rattle.std.specs.Prelude.{◌<◌, ◌^◌, ℤ, pos, negsuc, IsTrue}
use Rattle.fw_addr.specs.Interfaces.{is_interface}
use Rattle.fw_model.specs.declared.config.Config.{Config}
use Rattle.fw_model.specs.declared.ipset.IpSet.{IpSet}
use Rattle.fw_model.specs.declared.ipset.Item.{Item}
use Rattle.fw_model.specs.declared.ipset.Item.TheVariants as entries
use Rattle.fw_model.specs.declared.policy.Policy.{Policy}
use Rattle.fw_model.specs.declared.port.Port.{Port}
use Rattle.fw_model.specs.declared.rules.Rules.{Rules}
use Rattle.fw_model.specs.declared.service.Service.{Service}
use Rattle.fw_model.specs.declared.zone.Zone.{Zone}
use Rattle.fw_rich_law.specs.Values.{HasValues, IsBinding, IsForward, IsNet, IsRange}
use Rattle.fw_valid.specs.Each.{Each, IfThere}

abbrev pub IsPort : Port → Type 0
IsPort port = IsRange port.range

abbrev pub IsEntry : Item → Type 0
IsEntry (entries.Net net) = IsNet net
IsEntry (entries.Mac address) = address < 2 ^ 48

-- within 32 bits with a sign
abbrev pub IsI32 : ℤ → Type 0
IsI32 (pos n) = n < 2 ^ 31
IsI32 (negsuc n) = n < 2 ^ 31

pub record IsSetInRange (set : IpSet) : Type 0 where
  pub items : Each IsEntry set.items

pub record IsServiceInRange (service : Service) : Type 0 where
  pub ports : Each IsPort service.ports
  pub protocols : Each (λ protocol. protocol < 2 ^ 8) service.protocols
  pub source_ports : Each IsPort service.source_ports
  pub v4 : IfThere IsNet service.v4
  pub v6 : IfThere IsNet service.v6

pub record AreRulesInRange (rules : Rules) : Type 0 where
  pub ports : Each IsPort rules.ports
  pub protocols : Each (λ protocol. protocol < 2 ^ 8) rules.protocols
  pub source_ports : Each IsPort rules.source_ports
  pub forwards : Each IsForward rules.forwards
  pub rich : Each HasValues rules.rich

pub record IsZoneInRange (zone : Zone) : Type 0 where
  pub rules : AreRulesInRange zone.rules
  pub interfaces : Each (λ name. IsTrue (is_interface name)) zone.interfaces
  pub sources : Each IsBinding zone.sources

pub record IsPolicyInRange (policy : Policy) : Type 0 where
  pub rules : AreRulesInRange policy.rules
  pub priority : IsI32 policy.priority

-- all values of a configuration
pub record IsInRange (config : Config) : Type 0 where
  pub zones : Each IsZoneInRange config.zones
  pub policies : Each IsPolicyInRange config.policies
  pub services : Each IsServiceInRange config.services
  pub ipsets : Each IsSetInRange config.ipsets
