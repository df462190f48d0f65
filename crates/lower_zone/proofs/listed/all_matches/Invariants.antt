-- The alternatives so far are those of the settings so far.
use Rattle.std.proofs.Common.{take}
use Rattle.std.specs.List.{list_any}
use Rattle.fw_hits.specs.Hits.{hits}
use Rattle.lower_zone.specs.Work.{Tells}
use Rattle.lower_zone.proofs.listed.all_matches.Given as goal

abbrev pub invariant-loop-setting : goal.invariant-loop-setting
invariant-loop-setting l = Tells l.config l.all (λ packet. list_any (λ told. hits l.config told packet) (take l.setting-index l.settings))
