-- What changes leave of a packet is a packet.
use Rattle.std.proofs.Common.{◌≡◌, ◌<◌, ◌^◌, ◌-◌, ℕ, Bool, true, false, List, [], ◌∷◌, ◌++◌, Option, None, Some, refl, sym, subst, arith}
use Rattle.std.specs.Prelude.{bit_and, if◌then◌else◌, unwrap_or}
use Rattle.std.proofs.lemmas.Nat.{and_le_l, xor_lt}
use Rattle.fw_addr.specs.Subnets.{family}
use Rattle.fw_addr.specs.declared.addr.Addr.{Addr}
use Rattle.fw_addr.specs.declared.dnat.Dnat.{Dnat}
use Rattle.fw_addr.specs.declared.packet.Family.{Family}
use Rattle.fw_addr.specs.declared.packet.Family.TheVariants.{V4, V6}
use Rattle.fw_model.specs.Packets.{IsAddress, IsPacket}
use Rattle.fw_model.specs.declared.packet.Packet.{Packet}
use Rattle.fw_valid.specs.Each.{IfThere}
use Rattle.fw_verdict.specs.Changes.{Change, ChangeItem, Passing, Reached, and_on, changed, ends, going_on, new_mark, through, with_destination, with_mark}
use Rattle.fw_verdict.specs.Changes.Change.{log, mark, masquerade, translate}
use Rattle.lower_outside.specs.Does.{KeepPackets}
use Rattle.lower_outside.specs.Steps.{CanBeMade, IsTarget}
use Rattle.lower_outside.proofs.Sequences.{through_append, through_one}
use Rattle.nf_chains.specs.Marks.{can_translate, is_of_family}
use Rattle.nf_eval.specs.Tests.{is_same_family}

mark_fits : (value mask old : ℕ) → value < 2 ^ 32 → old < 2 ^ 32 → new_mark value mask old < 2 ^ 32
mark_fits value mask old small fits =
    xor_lt 32 (bit_and old (2 ^ 32 - 1 - mask)) value (omega (arith, fits, and_le_l old (2 ^ 32 - 1 - mask))) small

marked : (value mask : ℕ) (packet : Packet) → value < 2 ^ 32 → IsPacket packet → IsPacket (with_mark (new_mark value mask packet.mark) packet)
marked value mask packet small is = record {
  src = is.src;
  dst = is.dst;
  one_family = is.one_family;
  icmp = is.icmp;
  icmpv6 = is.icmpv6;
  mac = is.mac;
  proto = is.proto;
  sport = is.sport;
  dport = is.dport;
  icmp_type = is.icmp_type;
  icmp_code = is.icmp_code;
  mark = mark_fits value mask packet.mark small is.mark;
  limits = is.limits;
  routes = is.routes;
}

same_family : (one other : Family) → is_same_family one other ≡ true → other ≡ one
same_family V4 V4 is = refl
same_family V4 V6 is = cc
same_family V6 V4 is = cc
same_family V6 V6 is = refl

-- the destination behind a translation
address_fits : (told : Option Addr) (old : Addr) → IfThere IsAddress told → IsAddress old → IsAddress (unwrap_or told old)
address_fits None old there is = is
address_fits (Some address) old there is = there

port_fits : (told : Option ℕ) (old : ℕ) → IfThere (λ port. port < 2 ^ 16) told → old < 2 ^ 16 → unwrap_or told old < 2 ^ 16
port_fits None old there is = is
port_fits (Some port) old there is = there

address_of_family : (told : Option Addr) (old : Addr) (source : Family) → is_of_family told source ≡ true → source ≡ family old → source ≡ family (unwrap_or told old)
address_of_family None old source can same = same
address_of_family (Some address) old source can same = same_family (family address) source can

translated : (dnat : Dnat) (packet : Packet) → IsTarget dnat → can_translate dnat packet ≡ true → IsPacket packet → IsPacket (with_destination dnat packet)
translated dnat packet target can is = record {
  src = is.src;
  dst = address_fits dnat.addr packet.dst target.address is.dst;
  one_family = address_of_family dnat.addr packet.dst (family packet.src) can is.one_family;
  icmp = is.icmp;
  icmpv6 = is.icmpv6;
  mac = is.mac;
  proto = is.proto;
  sport = is.sport;
  dport = port_fits dnat.port packet.dport target.port is.dport;
  icmp_type = is.icmp_type;
  icmp_code = is.icmp_code;
  mark = is.mark;
  limits = is.limits;
  routes = is.routes;
}

made_of : (condition : Packet → Bool) (change : Change) (now : Passing)
    → CanBeMade condition change → condition now.packet ≡ true → IsPacket now.packet → IsPacket (changed change now).packet
made_of condition (log line) now can hit is = is
made_of condition (mark value mask) now can hit is = marked value mask now.packet can is
made_of condition (translate dnat) now can hit is = translated dnat now.packet can.0 (can.1 now.packet hit) is
made_of condition masquerade now can hit is = is

where_hit : (condition : Packet → Bool) (change : Change) (now : Passing) (hit : Bool)
    → CanBeMade condition change → condition now.packet ≡ hit → IsPacket now.packet
    → IsPacket (if hit then record { now = changed change now; over = ends change } else going_on now).now.packet
where_hit condition change now true can hits is = made_of condition change now can hits is
where_hit condition change now false can hits is = is

pub keep_nothing : KeepPackets []
keep_nothing now is = is

pub keep_one : (item : ChangeItem) → CanBeMade item.hits item.change → KeepPackets (item ∷ [])
keep_one item can now is =
    subst (λ (reached : Reached). IsPacket reached.now.packet) (sym (through_one item now))
    (where_hit item.hits item.change now (item.hits now.packet) can refl is)

and_kept : (now : Passing) (over : Bool) (others : Passing → Reached)
    → IsPacket now.packet
    → ((next : Passing) → IsPacket next.packet → IsPacket (others next).now.packet)
    → IsPacket (and_on (record { now = now; over = over }) others).now.packet
and_kept now true others is keeps = is
and_kept now false others is keeps = keeps now is

pub keep_both : (one other : List ChangeItem) → KeepPackets one → KeepPackets other → KeepPackets (one ++ other)
keep_both one other first second now is =
    subst (λ (reached : Reached). IsPacket reached.now.packet) (sym (through_append one other now))
    (and_kept (through one now).now (through one now).over (through other) (first now is) second)
