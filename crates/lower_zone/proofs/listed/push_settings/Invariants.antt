-- What the settings so far decide was added.
use Rattle.std.proofs.Common.{◌≡◌, List, true, map, take}
use Rattle.fw_model.specs.declared.packet.Packet.{Packet}
use Rattle.fw_verdict.specs.Walk.{walk}
use Rattle.lower_zone.specs.Verdicts.{can_decide, decided_by}
use Rattle.lower_zone.specs.Work.{Adds}
use Rattle.lower_zone.proofs.listed.push_settings.Given as goal
use Rattle.nf_rules.specs.declared.chain.Chain.{Chain}

abbrev pub invariant-loop-setting : goal.invariant-loop-setting
invariant-loop-setting l =
    (chains : List Chain) → ((packet : Packet) → can_decide l.verdict packet ≡ true)
    → Adds l.config (walk (map (decided_by l.config l.verdict) (take l.setting-index l.settings))) l.initial.rules l.rules chains chains
