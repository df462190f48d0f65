use Rattle.std.proofs.Common.{◌≡◌, Some, refl}
use Rattle.fw_addr.specs.Protocols.{port_proto, port_proto_text}
use Rattle.fw_addr.specs.declared.proto.PortProto.{PortProto}
use Rattle.fw_addr.specs.declared.proto.PortProto.TheVariants.{Tcp, Udp, Sctp, Dccp}
use Rattle.fw_addr.proofs.LawLemmas.{proto_back}
use Rattle.fw_addr.proofs.laws.printed_protocols_are_read.Goals as goal

pub returns-clause-all : goal.returns-clause-all
returns-clause-all c = proto_back c.decimal_is_read.ensures.read

each : (protocol : PortProto) → port_proto (port_proto_text protocol) ≡ Some protocol
each Tcp = refl
each Udp = refl
each Sctp = refl
each Dccp = refl

pub returns-clause-with_ports : goal.returns-clause-with_ports
returns-clause-with_ports c = each
