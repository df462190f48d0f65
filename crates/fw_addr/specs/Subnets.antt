-- What a net is: an address and the length of the prefix that all addresses in it share (RFC 4291, section 2.3;
-- RFC 4632, section 3.1).
use Rattle.std.specs.Prelude.{◌≡◌, ℕ, ◌-◌, ◌*◌, ◌/◌, ◌%◌, ◌^◌, ◌<◌, ◌==◌, nat_le, Bool, false, ◌&&◌}
use Rattle.std.specs.Int.{bit_at}
use Rattle.fw_addr.specs.declared.addr.Addr.{Addr}
use Rattle.fw_addr.specs.declared.addr.Addr.TheVariants.{V4, V6}
use Rattle.fw_addr.specs.declared.packet.Family.{Family}
use Rattle.fw_addr.specs.declared.packet.Family.TheVariants as families

-- the family of an address
abbrev pub family : Addr → Family
family (V4 n) = families.V4
family (V6 n) = families.V6

-- the address of the first host, and how many of its bits are the prefix
pub record Subnet : Type 0 where
  pub address : Addr
  pub prefix : ℕ

-- how many bits an address of the family has
abbrev pub width : Addr → ℕ
width (V4 n) = 32
width (V6 n) = 128

-- an address as a number
abbrev pub bits : Addr → ℕ
bits (V4 n) = n
bits (V6 n) = n

-- the prefix is no longer than an address, and the bits behind it are 0
abbrev pub is_subnet : Subnet → Bool
is_subnet net = nat_le net.prefix (width net.address) && bits net.address % 2 ^ (width net.address - net.prefix) == 0

-- a number with its lowest bits cleared
abbrev pub cleared : ℕ → ℕ → ℕ
cleared n low = n / 2 ^ low * 2 ^ low

-- the net of a prefix that an address lies in
abbrev pub subnet : Addr → ℕ → Subnet
subnet (V4 n) prefix = record { address = V4 (cleared n (32 - prefix)); prefix = prefix }
subnet (V6 n) prefix = record { address = V6 (cleared n (128 - prefix)); prefix = prefix }

-- the number that the first bits spell, of so many
abbrev pub leading : ℕ → ℕ → ℕ → ℕ
leading width count n = n / 2 ^ (width - count)

-- whether two addresses are of one family and begin with the same bits
abbrev pub agree : ℕ → Addr → Addr → Bool
agree prefix (V4 m) (V4 n) = leading 32 prefix m == leading 32 prefix n
agree prefix (V6 m) (V6 n) = leading 128 prefix m == leading 128 prefix n
agree prefix (V4 m) (V6 n) = false
agree prefix (V6 m) (V4 n) = false

-- whether an address lies in a net
abbrev pub in_net : Subnet → Addr → Bool
in_net net address = agree net.prefix net.address address

-- the same, bit by bit
abbrev pub SharesBits : ℕ → ℕ → ℕ → ℕ → Type 0
SharesBits width count m n = (k : ℕ) → k < count → bit_at m (width - 1 - k) ≡ bit_at n (width - 1 - k)

abbrev pub SharesPrefix : ℕ → Addr → Addr → Type 0
SharesPrefix prefix (V4 m) (V4 n) = SharesBits 32 prefix m n
SharesPrefix prefix (V6 m) (V6 n) = SharesBits 128 prefix m n
SharesPrefix prefix (V4 m) (V6 n) = ⊥
SharesPrefix prefix (V6 m) (V4 n) = ⊥
