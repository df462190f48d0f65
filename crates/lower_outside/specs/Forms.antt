-- The lines of rich rules outside the filter.
use Rattle.fw_addr.specs.declared.log.LogKind.TheVariants as kind
use Rattle.fw_addr.specs.declared.log.LogLine.{LogLine}
use Rattle.fw_model.specs.declared.rich.RichLog.{RichLog}

-- the line of `log`
abbrev pub log_line : RichLog → LogLine
log_line rich = record { kind = kind.Rich; level = rich.level; prefix = rich.prefix }
