-- What an open port lets in (firewalld.zone(5), `port`).
use Rattle.std.specs.Prelude.{Bool, ◌==◌, ◌&&◌}
use Rattle.fw_addr.specs.Ports.{in_range}
use Rattle.fw_addr.specs.Protocols.{proto_number}
use Rattle.fw_model.specs.declared.packet.Packet.{Packet}
use Rattle.fw_model.specs.declared.port.Port.{Port}

-- An entry matches the packets of its protocol with a destination port in its range.
abbrev pub port_matches : Port → Packet → Bool
port_matches port packet = packet.proto == proto_number port.proto && in_range port.range packet.dport
