-- The texts of nets: an address, or an address, `/` and a prefix length, or for IPv4 a mask, as in
-- firewalld.zone(5) and nft(8).
use Rattle.std.specs.Prelude.{ℕ, ◌-◌, ◌^◌, ◌==◌, if◌then◌else◌, List, [], ◌∷◌, ◌++◌, Option, None, Some, decimal}
use Rattle.std.specs.Int.{leading_ones, w32}
use Rattle.std.specs.Option.{option_or}
use Rattle.fw_text.specs.Number.{number_to}
use Rattle.fw_text.specs.Pieces.{pieces}
use Rattle.fw_text.specs.Steps.{◌>>=◌}
use Rattle.fw_addr.specs.Addresses.{address, ipv4}
use Rattle.fw_addr.specs.Canonical.{address_text}
use Rattle.fw_addr.specs.Subnets.{Subnet, subnet, width}
use Rattle.fw_addr.specs.declared.addr.Addr.{Addr}
use Rattle.fw_addr.specs.declared.addr.Addr.TheVariants.{V4, V6}

-- how many ones a mask has, which has ones and then zeros
abbrev pub mask_length : ℕ → Option ℕ
mask_length mask =
    let ones = leading_ones w32 mask in
    if mask == 2 ^ 32 - 2 ^ (32 - ones) then Some ones else None

-- a prefix length in decimal, or for IPv4 by its mask
abbrev pub prefix_length : Addr → List ℕ → Option ℕ
prefix_length (V4 n) text = option_or (number_to 32 text) (ipv4 text >>= mask_length)
prefix_length (V6 n) text = number_to 128 text

-- what one piece, or two, say
abbrev pub net_of : List (List ℕ) → Option Subnet
net_of [] = None
net_of (one ∷ []) = do
  host ← address one
  Some (subnet host (width host))
net_of (first ∷ second ∷ []) = do
  host ← address first
  prefix ← prefix_length host second
  Some (subnet host prefix)
net_of (first ∷ second ∷ third ∷ rest) = None

-- an address, or an address and a prefix joined by `/` (47)
abbrev pub net : List ℕ → Option Subnet
net text = net_of (pieces 47 text)

-- the canonical text: the prefix length is left out where the net is one address
abbrev pub net_text : Subnet → List ℕ
net_text net =
    if net.prefix == width net.address then address_text net.address
    else address_text net.address ++ 47 ∷ decimal net.prefix
