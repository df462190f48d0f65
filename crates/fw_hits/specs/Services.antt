-- Which packets a service is about (firewalld.service(5)): a service is about what one of its own ports, protocols and source
-- ports matches, at its own destinations, and about what the services that it includes are about.
use Rattle.std.specs.Prelude.{ℕ, ◌==◌, List, Bool, false, ◌&&◌, ◌||◌, Option, None, Some, is_none, if◌then◌else◌}
use Rattle.std.specs.List.{list_any}
use Rattle.fw_addr.specs.Ports.{in_range}
use Rattle.fw_addr.specs.Protocols.{proto_number}
use Rattle.fw_addr.specs.Subnets.{Subnet, in_net}
use Rattle.fw_addr.specs.declared.addr.Addr.{Addr}
use Rattle.fw_closure.specs.Includes.{reaches}
use Rattle.fw_model.specs.Packets.{is_v4}
use Rattle.fw_model.specs.Ports.{port_matches}
use Rattle.fw_model.specs.declared.packet.Packet.{Packet}
use Rattle.fw_model.specs.declared.port.Port.{Port}
use Rattle.fw_model.specs.declared.service.Service.{Service}

-- the protocol, and a source port in the range (`source-port`)
abbrev pub source_port_matches : Port → Packet → Bool
source_port_matches port packet = packet.proto == proto_number port.proto && in_range port.range packet.sport

-- one of the entries `port`, `protocol` and `source-port` matches
abbrev pub entries_match : Service → Packet → Bool
entries_match service packet =
    (list_any (λ port. port_matches port packet) service.ports
    || list_any (λ protocol. packet.proto == protocol) service.protocols)
    || list_any (λ port. source_port_matches port packet) service.source_ports

-- the net of a `destination` holds an address, where there is one
abbrev pub holds : Option Subnet → Addr → Bool
holds None address = false
holds (Some net) address = in_net net address

-- the destination for the family of an address (`ipv4`, `ipv6`)
abbrev pub destination_for : Service → Addr → Option Subnet
destination_for service address = if is_v4 address then service.v4 else service.v6

-- a service with no destination at all, of neither family
abbrev pub goes_anywhere : Service → Bool
goes_anywhere service = is_none service.v4 && is_none service.v6

-- A service with a destination is about packets to it alone: with one of IPv4 and none of IPv6 about no packet of IPv6.
abbrev pub allows_destination : Service → Addr → Bool
allows_destination service address = goes_anywhere service || holds (destination_for service address) address

-- a service is about a packet by itself, whatever it includes
abbrev pub member_hits : Service → Packet → Bool
member_hits service packet = entries_match service packet && allows_destination service packet.dst

-- A service to whose name a chain of includes leads from this one (`include`; a chain may have no include) is about a packet by
-- itself. Its own destinations count, and not those of the services that include it.
abbrev pub service_hits : List Service → List ℕ → Packet → Bool
service_hits services name packet =
    list_any (λ service. reaches services name service.name && member_hits service packet) services
