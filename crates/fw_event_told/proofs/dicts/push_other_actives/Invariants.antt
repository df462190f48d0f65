-- The items so far are appended.
use Rattle.std.proofs.Common.{◌≡◌, ◌++◌, take}
use Rattle.std.specs.String.{string_bytes}
use Rattle.fw_event_told.specs.Dicts.{active_text}
use Rattle.fw_event_told.specs.Joined.{others_text}
use Rattle.fw_event_told.proofs.dicts.push_other_actives.Given as goal

abbrev pub invariant-loop-other : goal.invariant-loop-other
invariant-loop-other l = string_bytes l.out ≡ string_bytes l.fn.out ++ others_text (active_text l.key l.other_key) (take l.other-index l.others)
