-- Which senders the sources of a zone mean (firewalld.zone(5), `source`; firewalld.ipset(5)).
use Rattle.std.specs.Prelude.{ℕ, ◌==◌, List, Bool, false, not, ◌&&◌, Option, None, Some}
use Rattle.std.specs.List.{list_any}
use Rattle.std.specs.Str.{bytes_eq}
use Rattle.fw_addr.specs.Subnets.{in_net}
use Rattle.fw_addr.specs.declared.addr.Addr.{Addr}
use Rattle.fw_addr.specs.declared.packet.Family.{Family}
use Rattle.fw_addr.specs.declared.packet.Family.TheVariants as families
use Rattle.fw_model.specs.Packets.{is_v4}
use Rattle.fw_model.specs.declared.binding.Binding.{Binding}
use Rattle.fw_model.specs.declared.binding.Binding.TheVariants as binding
use Rattle.fw_model.specs.declared.ipset.IpSet.{IpSet}
use Rattle.fw_model.specs.declared.ipset.Item.{Item}
use Rattle.fw_model.specs.declared.ipset.Item.TheVariants as item
use Rattle.fw_model.specs.declared.ipset.SetKind.{SetKind}
use Rattle.fw_model.specs.declared.ipset.SetKind.TheVariants as kind

-- the sender's hardware address is there, and is this one
abbrev pub is_mac : ℕ → Option ℕ → Bool
is_mac hardware None = false
is_mac hardware (Some mac) = hardware == mac

-- an address is of a family
abbrev pub is_of_family : Family → Addr → Bool
is_of_family families.V4 address = is_v4 address
is_of_family families.V6 address = not (is_v4 address)

-- an entry of a set is a net that holds the address
abbrev pub item_has_address : Addr → Item → Bool
item_has_address address (item.Net net) = in_net net address
item_has_address address (item.Mac hardware) = false

-- an entry of a set is the hardware address
abbrev pub item_has_mac : Option ℕ → Item → Bool
item_has_mac mac (item.Net net) = false
item_has_mac mac (item.Mac hardware) = is_mac hardware mac

-- What the entries of a set hold, by the set's `type` and its option `family`: `hash:ip` and `hash:net` addresses of that
-- family alone, and `hash:mac` hardware addresses.
abbrev pub entries_hold : SetKind → Family → List Item → Addr → Option ℕ → Bool
entries_hold kind.Ip family items address mac = is_of_family family address && list_any (item_has_address address) items
entries_hold kind.Net family items address mac = is_of_family family address && list_any (item_has_address address) items
entries_hold kind.Mac family items address mac = list_any (item_has_mac mac) items

-- A set with the option `timeout` has no entries: they come and go without the daemon.
abbrev pub set_holds : IpSet → Addr → Option ℕ → Bool
set_holds set address mac = not set.timeout && entries_hold set.kind set.family set.items address mac

-- A source matches a sender of this address and hardware address: a net that holds the address, the hardware address, or
-- the set of a name that holds one of the two. A name that no set has matches nothing.
abbrev pub matches_source : List IpSet → Addr → Option ℕ → Binding → Bool
matches_source sets address mac (binding.Net net) = in_net net address
matches_source sets address mac (binding.Mac hardware) = is_mac hardware mac
matches_source sets address mac (binding.Set name) = list_any (λ set. bytes_eq set.name name && set_holds set address mac) sets
