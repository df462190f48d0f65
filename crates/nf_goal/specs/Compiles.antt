-- What a ruleset owes to the settings that it was made of: nft(8) on one side (`nf_chains`), firewalld's manuals on the other
-- (`fw_verdict`).
use Rattle.fw_model.specs.Packets.{IsPacket}
use Rattle.fw_model.specs.declared.packet.Packet.{Packet}
use Rattle.fw_model.specs.declared.runtime.Runtime.{Runtime}
use Rattle.fw_verdict.specs.Way.{way}
use Rattle.nf_chains.specs.Hooks.{Eval}
use Rattle.nf_rules.specs.declared.ruleset.Ruleset.{Ruleset}
use Rattle.nf_sound.specs.Sound.{SoundRules}

pub record Compiles (rules : Ruleset) (runtime : Runtime) : Type 0 where
  -- it can be installed
  pub sound : SoundRules rules
  -- and does with every packet what the settings say, on its whole way through the firewall
  pub outcomes : (packet : Packet) → IsPacket packet → Eval rules packet (way runtime packet)
