-- The fields so far, and then those of the members that are left, are all of them.
use Rattle.std.proofs.Common.{◌≡◌, ◌++◌, Some}
use Rattle.fw_event_line.specs.Dicts.{fields_in}
use Rattle.fw_text.specs.Steps.{◌>>=◌}
use Rattle.serde_json.specs.View.{members_view}
use Rattle.fw_event_line.proofs.dict.fields_in.Given as goal

abbrev pub invariant-loop-key : goal.invariant-loop-key
invariant-loop-key l = (fields_in l.owner (members_view l.key-iterator) >>= (λ rest. Some (l.fields ++ rest))) ≡ fields_in l.owner (members_view l.members.entries)
