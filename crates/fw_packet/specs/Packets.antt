-- What follows the word `packet`: its fields as words in any order, each a key and a value (this project's own spelling).
use Rattle.std.specs.Prelude.{ℕ, ◌==◌, false, if◌then◌else◌, codes, List, Option, None, Some, unwrap_or}
use Rattle.std.specs.List.{list_all}
use Rattle.fw_text.specs.Names.{named}
use Rattle.fw_text.specs.Number.{number_to}
use Rattle.fw_text.specs.Steps.{◌>>=◌}
use Rattle.fw_addr.specs.Addresses.{address}
use Rattle.fw_addr.specs.Hardware.{mac}
use Rattle.fw_addr.specs.Protocols.{icmp_protocol, icmpv6_protocol, proto}
use Rattle.fw_addr.specs.declared.addr.Addr.{Addr}
use Rattle.fw_addr.specs.declared.addr.Addr.TheVariants.{V4, V6}
use Rattle.fw_addr.specs.declared.packet.CtState.TheVariants.{New}
use Rattle.fw_addr.specs.declared.packet.Family.{Family}
use Rattle.fw_addr.specs.declared.packet.Family.TheVariants as families
use Rattle.fw_addr.specs.declared.packet.PktType.TheVariants.{Unicast}
use Rattle.fw_limit.specs.Limits.{limit}
use Rattle.fw_model.specs.declared.packet.Origin.{Origin}
use Rattle.fw_model.specs.declared.packet.Packet.{Packet}
use Rattle.fw_packet.specs.Links.{origin, origin_by, route}
use Rattle.fw_packet.specs.PacketWords.{given, is_known, optional, packet_types, repeated, required, states}

-- The family of two addresses and a protocol, where they have one: the addresses are of one family, and ICMP (1) is of IPv4
-- alone, ICMPv6 (58) of IPv6 alone (RFC 792, RFC 4443).
abbrev pub common_family : Addr → Addr → (protocol : ℕ) → Option Family
common_family (V4 m) (V4 n) protocol = if protocol == icmpv6_protocol then None else Some families.V4
common_family (V6 m) (V6 n) protocol = if protocol == icmp_protocol then None else Some families.V6
common_family (V4 m) (V6 n) protocol = None
common_family (V6 m) (V4 n) protocol = None

-- `in` with the name of an interface, or `host`
unfoldable pub origin_of : List (List ℕ) → Option Origin
origin_of words = do
  host ← optional (codes "host") given words
  link ← optional (codes "in=") origin words
  origin_by host link

-- What words with these keys describe. Where the word of a key may be lacking, the record has what stands in its place.
unfoldable pub described : List (List ℕ) → Option Packet
described words = do
  src ← required (codes "src=") address words
  dst ← required (codes "dst=") address words
  proto ← required (codes "proto=") proto words
  family ← common_family src dst proto
  mac ← optional (codes "mac=") mac words
  sport ← optional (codes "sport=") (number_to 65535) words
  dport ← optional (codes "dport=") (number_to 65535) words
  type ← optional (codes "type=") (number_to 255) words
  code ← optional (codes "code=") (number_to 255) words
  state ← optional (codes "state=") (named states) words
  dnat ← optional (codes "dnat") given words
  pkt ← optional (codes "pkt=") (named packet_types) words
  mark ← optional (codes "mark=") (number_to 4294967295) words
  origin ← origin_of words
  limits ← repeated (codes "limit=") limit words
  routes ← repeated (codes "route=") route words
  Some (record {
    origin = origin;
    src = src;
    dst = dst;
    mac = mac;
    proto = proto;
    sport = unwrap_or sport 0;
    dport = unwrap_or dport 0;
    icmp_type = unwrap_or type 0;
    icmp_code = unwrap_or code 0;
    state = unwrap_or state New;
    dnat = unwrap_or dnat false;
    pkt = unwrap_or pkt Unicast;
    mark = unwrap_or mark 0;
    limits = limits;
    routes = routes;
  })

-- a packet: words with these keys alone
unfoldable pub packet_of : List (List ℕ) → Option Packet
packet_of words = if list_all is_known words then described words else None
