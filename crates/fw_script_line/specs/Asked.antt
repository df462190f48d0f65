-- What a line is bounded by.
use Rattle.std.specs.Prelude.{◌<◌, ◌≤◌, ◌^◌, IsTrue}
use Rattle.fw_model.specs.Packets.{IsPacket}
use Rattle.fw_model.specs.declared.packet.Packet.{Packet}
use Rattle.fw_packet.specs.Links.{is_plain}
use Rattle.fw_script_line.specs.declared.line.Line.{Line}
use Rattle.fw_script_line.specs.declared.line.Line.TheVariants as line

-- The packets that a line asks about: one that there is, of the host or by an interface whose name has no `+`.
pub record IsAskedPacket (packet : Packet) : Type 0 where
  pub is_packet : IsPacket packet
  pub plain : IsTrue (is_plain packet.origin)

-- A line is of one of the clients or connections 0 to 9999, tells a time up to 2^62, asks about such a packet, or does none of these.
abbrev pub IsAsked : Line → Type 0
IsAsked line.Skip = Unit {0}
IsAsked (line.Call client call) = client < 10000
IsAsked (line.Unfit client signature) = client < 10000
IsAsked (line.End client) = client < 10000
IsAsked (line.Tick now) = now ≤ 2 ^ 62
IsAsked (line.Link up name) = Unit {0}
IsAsked (line.Packet packet) = IsAskedPacket packet
IsAsked line.Rules = Unit {0}
IsAsked (line.Dbus connection bytes) = connection < 10000
IsAsked (line.Hang connection) = connection < 10000
