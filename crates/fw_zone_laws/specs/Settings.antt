-- What a valid configuration asks of one setting of a zone or a policy.
use Rattle.std.specs.Prelude.{◌≡◌, ◌⊎◌, ℕ, List, Some}
use Rattle.fw_model.specs.declared.config.Config.{Config}
use Rattle.fw_model.specs.declared.rich.Element.TheVariants as element
use Rattle.fw_model.specs.declared.rich.Rich.{Rich}
use Rattle.fw_model.specs.declared.setting.Setting.{Setting}
use Rattle.fw_model.specs.declared.setting.Setting.TheVariants as setting
use Rattle.fw_valid.specs.Names.{IsIcmpType, ipset_names, service_names}
use Rattle.fw_valid.specs.Riches.{IsRich}
use Rattle.fw_valid.specs.Rules.{IsPlainForward, NamesSet}
use Rattle.fw_zone.specs.Lists.{IsIn}

-- a rich rule whose parts go together, and which names only what there is
pub record IsKnownRule (config : Config) (rule : Rich) : Type 0 where
  pub rich : IsRich rule
  pub service : (name : List ℕ) → rule.element ≡ Some (element.Service name) → IsIn name (service_names config)
  pub icmp_type : (name : List ℕ) → ((rule.element ≡ Some (element.IcmpBlock name)) ⊎ (rule.element ≡ Some (element.IcmpType name))) → IsIcmpType name
  pub ipsets : (name : List ℕ) → (NamesSet rule.source name ⊎ NamesSet rule.dest name) → IsIn name (ipset_names config)

abbrev pub IsSetting : Config → Setting → Type 0
IsSetting config (setting.Service name) = IsIn name (service_names config)
IsSetting config (setting.Port port) = Unit {0}
IsSetting config (setting.Protocol protocol) = Unit {0}
IsSetting config (setting.SourcePort port) = Unit {0}
IsSetting config (setting.IcmpBlock name) = IsIcmpType name
IsSetting config setting.Masquerade = Unit {0}
IsSetting config (setting.Forward forward) = IsPlainForward forward
IsSetting config (setting.Rich rule) = IsKnownRule config rule
