-- The chain to which a map leads a packet (nft(8), "VERDICT MAPS"): that of the first key that stands for what is looked up. A map
-- of another kind than is asked for leads nowhere, and so does a name that no map has.
use Rattle.std.specs.Prelude.{ℕ, List, Option, None, Some}
use Rattle.std.specs.List.{find}
use Rattle.std.specs.Option.{option_map}
use Rattle.fw_addr.specs.Interfaces.{matches}
use Rattle.fw_addr.specs.Subnets.{Subnet, in_net}
use Rattle.fw_addr.specs.declared.addr.Addr.{Addr}
use Rattle.fw_model.specs.declared.packet.Origin.{Origin}
use Rattle.fw_model.specs.declared.packet.Origin.TheVariants.{Host, Link}
use Rattle.fw_model.specs.declared.packet.Packet.{Packet}
use Rattle.nf_rules.specs.declared.map.MapBody.{MapBody}
use Rattle.nf_rules.specs.declared.map.MapBody.TheVariants.{Ifaces, Nets}
use Rattle.nf_rules.specs.declared.map.NfMap.{NfMap}
use Rattle.nf_rules.specs.declared.ruleset.Ruleset.{Ruleset}
use Rattle.nf_sound.specs.Names.{map_of}

abbrev pub key_of_link : List ℕ → List (List ℕ × List ℕ) → Option (List ℕ)
key_of_link name pairs = option_map (λ pair. pair.1) (find (λ pair. matches pair.0 name) pairs)

abbrev pub key_of_address : Addr → List (Subnet × List ℕ) → Option (List ℕ)
key_of_address address pairs = option_map (λ pair. pair.1) (find (λ pair. in_net pair.0 address) pairs)

-- by the name of an interface, where there is one
abbrev pub by_link : Option (List ℕ) → MapBody → Option (List ℕ)
by_link None body = None
by_link (Some name) (Ifaces pairs) = key_of_link name pairs
by_link (Some name) (Nets pairs) = None

-- by an address
abbrev pub by_address : Addr → MapBody → Option (List ℕ)
by_address address (Ifaces pairs) = None
by_address address (Nets pairs) = key_of_address address pairs

abbrev pub by_map : (MapBody → Option (List ℕ)) → Option NfMap → Option (List ℕ)
by_map look None = None
by_map look (Some map) = look map.body

-- the interface by which a packet came, where it came by one
abbrev pub link_of : Origin → Option (List ℕ)
link_of Host = None
link_of (Link name) = Some name

-- `iifname vmap`
abbrev pub led_in : Ruleset → Packet → List ℕ → Option (List ℕ)
led_in rules packet name = by_map (by_link (link_of packet.origin)) (map_of rules.maps name)

-- `oifname vmap`
abbrev pub led_out : Ruleset → Option (List ℕ) → List ℕ → Option (List ℕ)
led_out rules leaving name = by_map (by_link leaving) (map_of rules.maps name)

-- `saddr vmap`
abbrev pub led_src : Ruleset → Packet → List ℕ → Option (List ℕ)
led_src rules packet name = by_map (by_address packet.src) (map_of rules.maps name)

-- `daddr vmap`
abbrev pub led_dst : Ruleset → Packet → List ℕ → Option (List ℕ)
led_dst rules packet name = by_map (by_address packet.dst) (map_of rules.maps name)
