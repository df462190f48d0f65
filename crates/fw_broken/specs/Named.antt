-- What settings of zones and policies name, one by one: an ipset, a service, an ICMP type.
use Rattle.std.specs.Prelude.{◌≡◌, ◌⊎◌, ℕ, List, Some}
use Rattle.fw_model.specs.declared.binding.Binding.{Binding}
use Rattle.fw_model.specs.declared.binding.Binding.TheVariants as binding
use Rattle.fw_model.specs.declared.config.Config.{Config}
use Rattle.fw_model.specs.declared.rich.Element.TheVariants as element
use Rattle.fw_model.specs.declared.rich.Rich.{Rich}
use Rattle.fw_model.specs.declared.rules.Rules.{Rules}
use Rattle.fw_valid.specs.Each.{Each}
use Rattle.fw_valid.specs.Names.{IsIcmpType, ipset_names, service_names}
use Rattle.fw_valid.specs.Rules.{NamesSet}
use Rattle.fw_zone.specs.Lists.{IsIn}

-- the ipset that a source is, if it is one, is there
abbrev pub IsBindingKnown : Config → Binding → Type 0
IsBindingKnown config source = (name : List ℕ) → source ≡ binding.Set name → IsIn name (ipset_names config)

-- and so are those of a rich rule
abbrev pub AreSidesKnown : Config → Rich → Type 0
AreSidesKnown config rule = (name : List ℕ) → (NamesSet rule.source name ⊎ NamesSet rule.dest name) → IsIn name (ipset_names config)

-- a service of the name is there
abbrev pub IsServiceKnown : Config → List ℕ → Type 0
IsServiceKnown config name = IsIn name (service_names config)

-- an ICMP type of the name is there, whatever the configuration
abbrev pub IsTypeKnown : Config → List ℕ → Type 0
IsTypeKnown config name = IsIcmpType name

-- what the element of a rich rule names is there
pub record IsElementKnown (config : Config) (rule : Rich) : Type 0 where
  pub service : (name : List ℕ) → rule.element ≡ Some (element.Service name) → IsIn name (service_names config)
  pub icmp_type : (name : List ℕ) → ((rule.element ≡ Some (element.IcmpBlock name)) ⊎ (rule.element ≡ Some (element.IcmpType name))) → IsIcmpType name

-- the same of the settings of a zone or a policy, one by one
pub record AreKnownOneByOne (config : Config) (rules : Rules) : Type 0 where
  pub services : Each (IsServiceKnown config) rules.services
  pub icmp_types : Each (IsTypeKnown config) rules.icmp_blocks
  pub elements : Each (IsElementKnown config) rules.rich
