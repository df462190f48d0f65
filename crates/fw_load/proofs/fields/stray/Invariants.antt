-- What is stray among the keys that are left is stray among all.
use Rattle.std.proofs.Common.{◌≡◌, ◌≤◌, length, drop, map, string_bytes}
use Rattle.fw_load.specs.Fields.{keys_in, stray}
use Rattle.fw_words.specs.Keys.{texts}
use Rattle.serde_json.specs.View.{members_view}
use Rattle.fw_load.proofs.fields.stray.Given as goal

abbrev pub invariant-loop-key : goal.invariant-loop-key
invariant-loop-key l =
    (l.place ≤ length l.keys)
    × (stray (texts (drop l.place l.keys)) (map string_bytes l.key-iterator) ≡ stray (texts l.keys) (keys_in (members_view l.members.entries)))
