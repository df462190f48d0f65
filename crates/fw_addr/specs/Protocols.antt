-- Protocols by name and by number (IANA's registry of protocol numbers), and those with ports.
use Rattle.std.specs.Prelude.{ℕ, codes, Bool, List, [], ◌∷◌, Option, unwrap_or, decimal, ◌==◌, ◌||◌}
use Rattle.std.specs.Option.{option_or}
use Rattle.fw_text.specs.Names.{named, name_of}
use Rattle.fw_text.specs.Number.{number_to}
use Rattle.fw_addr.specs.declared.proto.PortProto.{PortProto}
use Rattle.fw_addr.specs.declared.proto.PortProto.TheVariants.{Tcp, Udp, Sctp, Dccp}

abbrev pub port_proto_names : List (List ℕ × PortProto)
port_proto_names = (codes "tcp", Tcp) ∷ (codes "udp", Udp) ∷ (codes "sctp", Sctp) ∷ (codes "dccp", Dccp) ∷ []

-- a protocol with ports is spelled by its name alone
abbrev pub port_proto : List ℕ → Option PortProto
port_proto text = named port_proto_names text

abbrev pub port_proto_text : PortProto → List ℕ
port_proto_text Tcp = codes "tcp"
port_proto_text Udp = codes "udp"
port_proto_text Sctp = codes "sctp"
port_proto_text Dccp = codes "dccp"

-- ICMP in IPv4 (RFC 792) and ICMPv6 in IPv6 (RFC 4443)
abbrev pub icmp_protocol : ℕ
icmp_protocol = 1

abbrev pub icmpv6_protocol : ℕ
icmpv6_protocol = 58

abbrev pub proto_number : PortProto → ℕ
proto_number Tcp = 6
proto_number Udp = 17
proto_number Sctp = 132
proto_number Dccp = 33

-- Whether a protocol is one of those with ports.
abbrev pub has_ports : ℕ → Bool
has_ports protocol =
    protocol == proto_number Tcp || protocol == proto_number Udp || protocol == proto_number Dccp || protocol == proto_number Sctp

abbrev pub proto_names : List (List ℕ × ℕ)
proto_names =
    (codes "icmp", icmp_protocol) ∷ (codes "igmp", 2) ∷ (codes "tcp", proto_number Tcp) ∷ (codes "udp", proto_number Udp) ∷ (codes "dccp", proto_number Dccp)
    ∷ (codes "gre", 47) ∷ (codes "esp", 50) ∷ (codes "ah", 51) ∷ (codes "ipv6-icmp", icmpv6_protocol) ∷ (codes "sctp", proto_number Sctp) ∷ []

-- a protocol is spelled by its name, or in decimal
abbrev pub proto : List ℕ → Option ℕ
proto text = option_or (named proto_names text) (number_to 255 text)

-- the canonical text: the name where there is one
abbrev pub proto_text : ℕ → List ℕ
proto_text n = unwrap_or (name_of proto_names n) (decimal n)
