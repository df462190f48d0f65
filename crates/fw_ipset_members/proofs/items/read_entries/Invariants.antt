-- The entries so far, and then those of the texts that are left, are those of all.
use Rattle.std.proofs.Common.{◌≡◌, drop}
use Rattle.fw_ipset_members.proofs.Reading.{behind}
use Rattle.fw_ipset_members.specs.Items.{items_of}
use Rattle.fw_ipset_members.proofs.items.read_entries.Given as goal

abbrev pub invariant-loop-text : goal.invariant-loop-text
invariant-loop-text l = behind l.items (items_of l.set (drop l.text-index l.texts)) ≡ items_of l.set l.texts
