-- Names of ICMP types, and their numbers in ICMP and ICMPv6 (IANA's registries of ICMP type numbers), as far as
-- firewalld.icmptype(5) names them in both families.
use Rattle.std.specs.Prelude.{ℕ, codes, List, [], ◌∷◌, Option, None, Some}
use Rattle.fw_text.specs.Names.{named}
use Rattle.fw_addr.specs.declared.icmp.IcmpNumbers.{IcmpNumbers}

abbrev pub icmp_names : List (List ℕ × IcmpNumbers)
icmp_names =
    (codes "destination-unreachable", record { v4 = Some 3; v6 = Some 1 })
    ∷ (codes "echo-reply", record { v4 = Some 0; v6 = Some 129 })
    ∷ (codes "echo-request", record { v4 = Some 8; v6 = Some 128 })
    ∷ (codes "neighbour-advertisement", record { v4 = None; v6 = Some 136 })
    ∷ (codes "neighbour-solicitation", record { v4 = None; v6 = Some 135 })
    ∷ (codes "packet-too-big", record { v4 = None; v6 = Some 2 })
    ∷ (codes "parameter-problem", record { v4 = Some 12; v6 = Some 4 })
    ∷ (codes "redirect", record { v4 = Some 5; v6 = Some 137 })
    ∷ (codes "router-advertisement", record { v4 = Some 9; v6 = Some 134 })
    ∷ (codes "router-solicitation", record { v4 = Some 10; v6 = Some 133 })
    ∷ (codes "time-exceeded", record { v4 = Some 11; v6 = Some 3 })
    ∷ []

-- the numbers of a name
abbrev pub icmp : List ℕ → Option IcmpNumbers
icmp name = named icmp_names name
