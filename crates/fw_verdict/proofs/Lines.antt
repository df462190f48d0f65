-- The line of a rule outside the filter is that which the rule would log in it: a walk of changes logs what a walk of items does.
use Rattle.std.proofs.Common.{◌≡◌, List, [], Bool, true, false, ◌&&◌, Option, None, Some, refl, sym, ap, append-nil}
use Rattle.std.specs.Prelude.{if◌then◌else◌}
use Rattle.fw_addr.specs.declared.log.LogKind.TheVariants as kind
use Rattle.fw_addr.specs.declared.log.LogLine.{LogLine}
use Rattle.fw_hits.specs.Rich.{hits_rich}
use Rattle.fw_model.specs.declared.config.Config.{Config}
use Rattle.fw_model.specs.declared.packet.Packet.{Packet}
use Rattle.fw_model.specs.declared.rich.Rich.{Rich}
use Rattle.fw_model.specs.declared.rich.RichLog.{RichLog}
use Rattle.fw_verdict.specs.Changes.{Passing, and_on, changed, going_on, through}
use Rattle.fw_verdict.specs.Changes.Change.{log}
use Rattle.fw_verdict.specs.Outside.{log_items}
use Rattle.fw_verdict.specs.Rich.{logged, passes}
use Rattle.fw_verdict.specs.Walk.{Walked, done, nothing, or_then, walk}
use Rattle.fw_verdict.specs.Walk.Effect.{log as log_line}
use Rattle.fw_verdict.specs.Way.{with_lines}

no_lines : (now : Passing) → going_on now ≡ going_on (with_lines [] now)
no_lines now = ap (λ (logs : List LogLine). going_on (record now { logs = logs })) (sym (append-nil now.logs))

-- what an item that logs does in a walk
abbrev told : Bool → LogLine → Walked
told hit line = or_then (if hit then done (log_line line) else nothing).decided (if hit then done (log_line line) else nothing).logs nothing

one_line : (hit : Bool) (line : LogLine) (now : Passing)
    → and_on (if hit then record { now = changed (log line) now; over = false } else going_on now) going_on ≡ going_on (with_lines (told hit line).logs now)
one_line true line now = refl
one_line false line now = no_lines now

undecided : (hit : Bool) (line : LogLine) → (told hit line).decided ≡ None
undecided true line = refl
undecided false line = refl

pub lines_are : (config : Config) (rule : Rich) (rich : Option RichLog) (now : Passing)
    → through (log_items config rule rich) now ≡ going_on (with_lines (walk (logged config rule rich) now.packet).logs now)
lines_are config rule None now = no_lines now
lines_are config rule (Some rich) now =
    one_line (hits_rich config rule now.packet && passes rich.limit now.packet) (record { kind = kind.Rich; level = rich.level; prefix = rich.prefix }) now

pub lines_decide_nothing : (config : Config) (rule : Rich) (rich : Option RichLog) (packet : Packet) → (walk (logged config rule rich) packet).decided ≡ None
lines_decide_nothing config rule None packet = refl
lines_decide_nothing config rule (Some rich) packet =
    undecided (hits_rich config rule packet && passes rich.limit packet) (record { kind = kind.Rich; level = rich.level; prefix = rich.prefix })
