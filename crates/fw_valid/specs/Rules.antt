-- The settings that zones and policies have alike (firewalld.zone(5)), over a whole configuration.
use Rattle.std.specs.Prelude.{◌≡◌, ◌⊎◌, ℕ, List, ◌++◌, map, Option, None, Some, IsNone}
use Rattle.std.specs.List.{flat_map}
use Rattle.fw_addr.specs.Subnets.{family}
use Rattle.fw_addr.specs.declared.packet.Family.TheVariants as families
use Rattle.fw_model.specs.declared.binding.Binding.TheVariants as binding
use Rattle.fw_model.specs.declared.config.Config.{Config}
use Rattle.fw_model.specs.declared.forward.Forward.{Forward}
use Rattle.fw_model.specs.declared.policy.Policy.{Policy}
use Rattle.fw_model.specs.declared.rich.Element.TheVariants as element
use Rattle.fw_model.specs.declared.rich.Rich.{Rich}
use Rattle.fw_model.specs.declared.rich.Side.{Side}
use Rattle.fw_model.specs.declared.rules.Rules.{Rules}
use Rattle.fw_model.specs.declared.service.Service.{Service}
use Rattle.fw_model.specs.declared.zone.Zone.{Zone}
use Rattle.fw_valid.specs.Each.{Each, IfThere, IsWithoutRepeats}
use Rattle.fw_valid.specs.Names.{IsIcmpType, ipset_names, service_names}
use Rattle.fw_valid.specs.Riches.{HasTarget, IsOfFamily}
use Rattle.fw_zone.specs.Lists.{IsIn}

-- the settings of all zones and policies
abbrev pub all_rules : Config → List Rules
all_rules config = map (λ (zone : Zone). zone.rules) config.zones ++ map (λ (policy : Policy). policy.rules) config.policies

-- Each service that is named is there, and each ICMP type that is blocked.
pub record NamesKnown (config : Config) (rules : Rules) : Type 0 where
  pub services : Each (λ name. IsIn name (service_names config)) rules.services
  pub icmp_types : Each IsIcmpType rules.icmp_blocks
  pub rich_services : (rule : Rich) (name : List ℕ) → IsIn rule rules.rich → rule.element ≡ Some (element.Service name) → IsIn name (service_names config)
  pub rich_icmp_types : (rule : Rich) (name : List ℕ) → IsIn rule rules.rich → ((rule.element ≡ Some (element.IcmpBlock name)) ⊎ (rule.element ≡ Some (element.IcmpType name))) → IsIcmpType name

-- What a service includes is there, and each of its destinations is of its family.
pub record IsService (config : Config) (service : Service) : Type 0 where
  pub includes : Each (λ name. IsIn name (service_names config)) service.includes
  pub in_ipv4 : IfThere (λ net. family net.address ≡ families.V4) service.v4
  pub in_ipv6 : IfThere (λ net. family net.address ≡ families.V6) service.v6

-- a source or a destination names the set of a name
abbrev pub NamesSet : Option Side → List ℕ → Type 0
NamesSet None name = ⊥
NamesSet (Some side) name = side.what ≡ binding.Set name

-- Each ipset that rich rules name is there.
abbrev pub SetsKnown : Config → Rules → Type 0
SetsKnown config rules =
    (rule : Rich) (name : List ℕ) → IsIn rule rules.rich → (NamesSet rule.source name ⊎ NamesSet rule.dest name) → IsIn name (ipset_names config)

-- a plain forward port: it has a target, which is no address of IPv6
pub record IsPlainForward (forward : Forward) : Type 0 where
  pub target : HasTarget forward
  pub in_ipv4 : IfThere (λ address. family address ≡ families.V4) forward.to_addr

-- no setting is there twice
pub record AreOnce (rules : Rules) : Type 0 where
  pub services : IsWithoutRepeats rules.services
  pub ports : IsWithoutRepeats rules.ports
  pub protocols : IsWithoutRepeats rules.protocols
  pub source_ports : IsWithoutRepeats rules.source_ports
  pub icmp_blocks : IsWithoutRepeats rules.icmp_blocks
  pub forwards : IsWithoutRepeats rules.forwards
  pub rich : IsWithoutRepeats rules.rich
