-- The texts of translated destinations (nft(8), "NAT STATEMENTS"; RFC 3986, section 3.2.2, for the brackets).
use Rattle.std.specs.Prelude.{ℕ, List, [], ◌∷◌, ◌++◌, Option, None, Some, decimal}
use Rattle.fw_addr.specs.Canonical.{address_text}
use Rattle.fw_addr.specs.declared.addr.Addr.{Addr}
use Rattle.fw_addr.specs.declared.addr.Addr.TheVariants.{V4, V6}
use Rattle.fw_addr.specs.declared.dnat.Dnat.{Dnat}

-- the address, where there is one; an IPv6 address in brackets (91 and 93)
abbrev pub host_part : Option Addr → List ℕ
host_part None = []
host_part (Some (V4 n)) = address_text (V4 n)
host_part (Some (V6 n)) = 91 ∷ address_text (V6 n) ++ 93 ∷ []

-- `:` (58) and the port, where there is one
abbrev pub port_part : Option ℕ → List ℕ
port_part None = []
port_part (Some port) = 58 ∷ decimal port

abbrev pub target_text : Dnat → List ℕ
target_text dnat = host_part dnat.addr ++ port_part dnat.port
