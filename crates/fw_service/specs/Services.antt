-- The services that there are from the start (firewalld.service(5)). The table is this project's own.
use Rattle.std.specs.Prelude.{ℕ, ◌+◌, ◌*◌, ◌^◌, List, [], ◌∷◌, Option, None, Some, codes}
use Rattle.fw_addr.specs.Subnets.{Subnet}
use Rattle.fw_addr.specs.declared.addr.Addr.TheVariants.{V4, V6}
use Rattle.fw_addr.specs.declared.proto.PortProto.TheVariants.{Tcp, Udp}
use Rattle.fw_model.specs.declared.port.Port.{Port}
use Rattle.fw_model.specs.declared.service.Service.{Service}

-- one port
abbrev pub tcp : ℕ → Port
tcp port = record { range = record { first = port; last = port }; proto = Tcp }

abbrev pub udp : ℕ → Port
udp port = record { range = record { first = port; last = port }; proto = Udp }

-- the address of four octets
abbrev pub ipv4_address : ℕ → ℕ → ℕ → ℕ → Subnet
ipv4_address a b c d = record { address = V4 (((a * 256 + b) * 256 + c) * 256 + d); prefix = 32 }

-- the net of a prefix whose addresses begin with a group of 16 bits and end with one, with zeros between
abbrev pub ipv6_net : ℕ → ℕ → ℕ → Subnet
ipv6_net first last prefix = record { address = V6 (first * 2 ^ 112 + last); prefix = prefix }

-- the service of a name, with its ports and its destinations in IPv4 and IPv6, if it has such
abbrev pub service_with : List ℕ → List Port → Option Subnet → Option Subnet → Service
service_with name ports v4 v6 = record {
  name = name;
  includes = [];
  ports = ports;
  protocols = [];
  source_ports = [];
  v4 = v4;
  v6 = v6;
}

-- a service with ports alone
abbrev pub service : List ℕ → List Port → Service
service name ports = service_with name ports None None

-- a service that is made of others
abbrev pub service_of : List ℕ → List (List ℕ) → Service
service_of name includes = record {
  name = name;
  includes = includes;
  ports = [];
  protocols = [];
  source_ports = [];
  v4 = None;
  v6 = None;
}

abbrev pub built_in_services : List Service
built_in_services =
    service (codes "dhcp") (udp 67 ∷ [])
    -- to fe80::/64, the link's own addresses
    ∷ service_with (codes "dhcpv6-client") (udp 546 ∷ []) None (Some (ipv6_net 65152 0 64))
    ∷ service (codes "dns") (tcp 53 ∷ udp 53 ∷ [])
    ∷ service (codes "http") (tcp 80 ∷ [])
    ∷ service (codes "https") (tcp 443 ∷ [])
    ∷ service (codes "ipp-client") (udp 631 ∷ [])
    -- to 224.0.0.251 and ff02::fb (RFC 6762, section 3)
    ∷ service_with (codes "mdns") (udp 5353 ∷ []) (Some (ipv4_address 224 0 0 251)) (Some (ipv6_net 65282 251 128))
    ∷ service (codes "ntp") (udp 123 ∷ [])
    ∷ service (codes "samba-client") (udp 137 ∷ udp 138 ∷ [])
    ∷ service (codes "smtp") (tcp 25 ∷ [])
    ∷ service (codes "ssh") (tcp 22 ∷ [])
    ∷ service_of (codes "web-site") (codes "http" ∷ codes "https" ∷ [])
    ∷ []
