-- What a line asks about.
use Rattle.std.specs.Prelude.{◌<◌, IsTrue}
use Rattle.fw_model.specs.Packets.{IsPacket}
use Rattle.fw_model.specs.declared.packet.Packet.{Packet}
use Rattle.fw_packet.specs.Links.{is_plain}
use Rattle.fw_line.specs.declared.line.Line.{Line}
use Rattle.fw_line.specs.declared.line.Line.TheVariants as line

-- The packets that a line asks about: one that there is, of the host or by an interface whose name has no `+`.
pub record IsAskedPacket (packet : Packet) : Type 0 where
  pub is_packet : IsPacket packet
  pub plain : IsTrue (is_plain packet.origin)

-- A line is of one of the clients 0 to 9999, asks about such a packet, or does neither.
abbrev pub IsAsked : Line → Type 0
IsAsked line.Skip = Unit {0}
IsAsked (line.Call client call) = client < 10000
IsAsked (line.Unfit client signature) = client < 10000
IsAsked (line.End client) = client < 10000
IsAsked (line.Packet packet) = IsAskedPacket packet
