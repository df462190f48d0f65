-- What a valid configuration asks of one interface or source of a zone.
use Rattle.fw_model.specs.declared.binding.Binding.{Binding}
use Rattle.fw_model.specs.declared.binding.Binding.TheVariants as source
use Rattle.fw_model.specs.declared.config.Config.{Config}
use Rattle.fw_valid.specs.Names.{ipset_names}
use Rattle.fw_zone.specs.Lists.{IsIn}
use Rattle.fw_zone_edits.specs.declared.entry.Entry.{Entry}
use Rattle.fw_zone_edits.specs.declared.entry.Entry.TheVariants as entry

-- an ipset that a source names is there
abbrev pub IsSource : Config → Binding → Type 0
IsSource config (source.Net net) = Unit {0}
IsSource config (source.Mac mac) = Unit {0}
IsSource config (source.Set name) = IsIn name (ipset_names config)

abbrev pub IsEntry : Config → Entry → Type 0
IsEntry config (entry.Interface name) = Unit {0}
IsEntry config (entry.Source source) = IsSource config source
