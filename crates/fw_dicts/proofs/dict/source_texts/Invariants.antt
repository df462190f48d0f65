-- What was made of the sources so far.
use Rattle.std.proofs.Common.{◌≡◌, map, take}
use Rattle.fw_zone_edits.specs.Entries.{source_text}
use Rattle.fw_dicts.proofs.dict.source_texts.Given as goal

abbrev pub invariant-loop-source : goal.invariant-loop-source
invariant-loop-source l = l.texts ≡ map source_text (take l.source-index l.sources)
