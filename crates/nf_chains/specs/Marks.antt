-- Marks of packets, and translation of their destination.
use Rattle.std.specs.Prelude.{ℕ, ◌-◌, ◌^◌, bit_and, bit_xor, Bool, true, Option, None, Some, unwrap_or}
use Rattle.fw_addr.specs.Subnets.{family}
use Rattle.fw_addr.specs.declared.addr.Addr.{Addr}
use Rattle.fw_addr.specs.declared.dnat.Dnat.{Dnat}
use Rattle.fw_addr.specs.declared.packet.Family.{Family}
use Rattle.fw_model.specs.declared.packet.Packet.{Packet}
use Rattle.nf_eval.specs.Tests.{is_same_family}

-- META STATEMENT: the bits of the mask are cleared in the mark, which has 32, and the value's bits turned
abbrev pub marked : (value mask old : ℕ) → ℕ
marked value mask old = bit_xor (bit_and old (2 ^ 32 - 1 - mask)) value

-- NAT STATEMENTS, dnat: an address of the other family translates nothing
abbrev pub is_of_family : Option Addr → Family → Bool
is_of_family None wanted = true
is_of_family (Some address) wanted = is_same_family (family address) wanted

abbrev pub can_translate : Dnat → Packet → Bool
can_translate dnat packet = is_of_family dnat.addr (family packet.src)

-- The destination's address where one is given, and its port where one is given, and that it was translated.
abbrev pub translated : Dnat → Packet → Packet
translated dnat packet = record packet { dst = unwrap_or dnat.addr packet.dst; dport = unwrap_or dnat.port packet.dport; dnat = true }
