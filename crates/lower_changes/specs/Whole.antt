-- The whole way of a packet over a ruleset: prerouting, routing, the filter, postrouting.
use Rattle.std.specs.Prelude.{◌≡◌, List, false}
use Rattle.fw_model.specs.Packets.{IsPacket}
use Rattle.fw_model.specs.declared.packet.Packet.{Packet}
use Rattle.fw_model.specs.declared.runtime.Runtime.{Runtime}
use Rattle.fw_model.specs.declared.zone.Zone.{Zone}
use Rattle.fw_verdict.specs.Way.{way}
use Rattle.lower_changes.specs.Hooks.{SidesStand}
use Rattle.lower_hooks.specs.Decides.{FilterStands}
use Rattle.nf_chains.specs.Hooks.{Eval}
use Rattle.nf_rules.specs.declared.chain.Chain.{Chain}
use Rattle.nf_rules.specs.declared.ruleset.Ruleset.{Ruleset}

-- A law: where the sides and the filter stand in a ruleset, what nft(8) makes of a packet is its way through the firewall.
abbrev pub WayIsLed : Type 0
WayIsLed =
    (runtime : Runtime) (zones : List Zone) (rules : Ruleset) (marks targets masks : List Chain)
    → runtime.panic ≡ false
    → SidesStand runtime.config zones rules marks targets masks
    → FilterStands runtime.config rules
    → (packet : Packet)
    → IsPacket packet
    → Eval rules packet (way runtime packet)
