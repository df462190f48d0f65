-- A law: packets belong to zones in use alone.
use Rattle.std.specs.Prelude.{◌≡◌, ℕ, List, Option, Some}
use Rattle.fw_model.specs.declared.config.Config.{Config}
use Rattle.fw_model.specs.declared.packet.Packet.{Packet}
use Rattle.fw_model.specs.declared.zone.Zone.{Zone}
use Rattle.lower_dispatch.specs.Dispatch.{zone_on}
use Rattle.lower_dispatch.specs.Uses.{IsUsed}
use Rattle.lower_dispatch.specs.declared.direction.Direction.{Direction}

abbrev pub PacketsUseZones : Type 0
PacketsUseZones =
    (config : Config) (direction : Direction) (leaving : Option (List ℕ)) (packet : Packet) (zone : Zone)
    → zone_on direction config leaving packet ≡ Some zone
    → IsUsed config zone
