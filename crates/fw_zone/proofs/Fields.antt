-- Rich rules and log lines whose parts are the same are the same.
use Rattle.std.proofs.Common.{◌≡◌}
use Rattle.fw_model.specs.declared.rich.Rich.{Rich}
use Rattle.fw_model.specs.declared.rich.RichLog.{RichLog}

pub rich_from_fields : (one other : Rich) → one.priority ≡ other.priority → one.family ≡ other.family → one.source ≡ other.source → one.dest ≡ other.dest → one.element ≡ other.element → one.log ≡ other.log → one.audit ≡ other.audit → one.action ≡ other.action → one ≡ other
rich_from_fields one other priority family source dest element log audit action =
    λ i. record { priority = priority i; family = family i; source = source i; dest = dest i; element = element i; log = log i; audit = audit i; action = action i }

pub log_from_fields : (one other : RichLog) → one.prefix ≡ other.prefix → one.level ≡ other.level → one.limit ≡ other.limit → one ≡ other
log_from_fields one other prefix level limit = λ i. record { prefix = prefix i; level = level i; limit = limit i }
