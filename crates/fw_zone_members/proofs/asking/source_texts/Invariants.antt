-- The texts so far.
use Rattle.std.proofs.Common.{◌≡◌, take, map}
use Rattle.fw_zone_edits.specs.Entries.{source_text}
use Rattle.fw_zone_members.proofs.asking.source_texts.Given as goal

abbrev pub invariant-loop-source : goal.invariant-loop-source
invariant-loop-source l = l.texts ≡ map source_text (take l.source-index l.sources)
