-- What is asked of one setting and of one entry, so that it may come to a zone or a policy of a valid configuration.
use Rattle.std.specs.Prelude.{◌≡◌, ◌⊎◌, ℕ, List, Some}
use Rattle.fw_model.specs.declared.binding.Binding.TheVariants as binding
use Rattle.fw_model.specs.declared.config.Config.{Config}
use Rattle.fw_model.specs.declared.rich.Element.TheVariants as element
use Rattle.fw_model.specs.declared.rich.Rich.{Rich}
use Rattle.fw_model.specs.declared.setting.Setting.{Setting}
use Rattle.fw_model.specs.declared.setting.Setting.TheVariants as setting
use Rattle.fw_model.specs.declared.zone.Zone.{Zone}
use Rattle.fw_valid.specs.Each.{Each}
use Rattle.fw_valid.specs.Names.{IsIcmpType, ipset_names, service_names}
use Rattle.fw_valid.specs.Riches.{IsRich}
use Rattle.fw_valid.specs.Rules.{IsPlainForward, NamesSet}
use Rattle.fw_zone.specs.Lists.{IsIn}
use Rattle.fw_zone_edits.specs.declared.entry.Entry.{Entry}
use Rattle.fw_zone_edits.specs.declared.entry.Entry.TheVariants as entry

-- a rich rule whose service, ICMP type and ipsets are there
pub record IsFitRule (config : Config) (rule : Rich) : Type 0 where
  pub rich : IsRich rule
  pub service : (name : List ℕ) → rule.element ≡ Some (element.Service name) → IsIn name (service_names config)
  pub icmp_type : (name : List ℕ) → ((rule.element ≡ Some (element.IcmpBlock name)) ⊎ (rule.element ≡ Some (element.IcmpType name))) → IsIcmpType name
  pub sets : (name : List ℕ) → (NamesSet rule.source name ⊎ NamesSet rule.dest name) → IsIn name (ipset_names config)

-- a setting by itself
abbrev pub IsFitSetting : Config → Setting → Type 0
IsFitSetting config (setting.Service name) = IsIn name (service_names config)
IsFitSetting config (setting.Port port) = Unit {0}
IsFitSetting config (setting.Protocol protocol) = Unit {0}
IsFitSetting config (setting.SourcePort port) = Unit {0}
IsFitSetting config (setting.IcmpBlock name) = IsIcmpType name
IsFitSetting config setting.Masquerade = Unit {0}
IsFitSetting config (setting.Forward forward) = IsPlainForward forward
IsFitSetting config (setting.Rich rule) = IsFitRule config rule

-- an interface or a source that no other zone lists; an ipset is there
abbrev pub IsFitEntry : Config → (others : List Zone) → Entry → Type 0
IsFitEntry config others (entry.Interface name) = Each (λ (other : Zone). ¬ (IsIn name other.interfaces)) others
IsFitEntry config others (entry.Source source) =
    Each (λ (other : Zone). ¬ (IsIn source other.sources)) others × ((name : List ℕ) → source ≡ binding.Set name → IsIn name (ipset_names config))
