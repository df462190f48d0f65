-- A law: what a ruleset makes of a packet that compiles the settings is the packet's way, and nothing else.
use Rattle.std.specs.Prelude.{◌≡◌}
use Rattle.fw_model.specs.Packets.{IsPacket}
use Rattle.fw_model.specs.declared.outcome.Outcome.{Outcome}
use Rattle.fw_model.specs.declared.packet.Packet.{Packet}
use Rattle.fw_model.specs.declared.runtime.Runtime.{Runtime}
use Rattle.fw_verdict.specs.Way.{way}
use Rattle.nf_chains.specs.Hooks.{Eval}
use Rattle.nf_goal.specs.Compiles.{Compiles}
use Rattle.nf_rules.specs.declared.ruleset.Ruleset.{Ruleset}

abbrev pub OutcomesAreTheWay : Type 0
OutcomesAreTheWay =
    (rules : Ruleset) (runtime : Runtime)
    → Compiles rules runtime
    → (packet : Packet) → IsPacket packet
    → (outcome : Outcome) → Eval rules packet outcome
    → outcome ≡ way runtime packet
