-- The entries of sets of addresses (firewalld.ipset(5), `type`, `family` and `entry`).
use Rattle.std.specs.Prelude.{◌≡◌, ℕ, ◌==◌, Bool, true, false, ◌&&◌, if◌then◌else◌, List, Option, None, Some}
use Rattle.fw_addr.specs.Hardware.{mac}
use Rattle.fw_addr.specs.Nets.{net}
use Rattle.fw_addr.specs.Subnets.{Subnet, family, width}
use Rattle.fw_addr.specs.declared.packet.Family.{Family}
use Rattle.fw_addr.specs.declared.packet.Family.TheVariants as families
use Rattle.fw_model.specs.declared.ipset.IpSet.{IpSet}
use Rattle.fw_model.specs.declared.ipset.Item.{Item}
use Rattle.fw_model.specs.declared.ipset.Item.TheVariants as item
use Rattle.fw_model.specs.declared.ipset.SetKind.{SetKind}
use Rattle.fw_model.specs.declared.ipset.SetKind.TheVariants as kind
use Rattle.fw_text.specs.Steps.{◌>>=◌}
use Rattle.fw_zone.specs.Lists.{IsRemoved}

abbrev pub is_same_family : Family → Family → Bool
is_same_family families.V4 families.V4 = true
is_same_family families.V6 families.V6 = true
is_same_family families.V4 families.V6 = false
is_same_family families.V6 families.V4 = false

-- a net of one address
abbrev pub is_whole : Subnet → Bool
is_whole net = net.prefix == width net.address

-- Which items a set of a kind and a family may hold: hash:ip addresses of its family, hash:net nets of its family,
-- and hash:mac hardware addresses.
abbrev pub may_hold : SetKind → Family → Item → Bool
may_hold kind.Ip of (item.Net net) = is_same_family (family net.address) of && is_whole net
may_hold kind.Net of (item.Net net) = is_same_family (family net.address) of
may_hold kind.Mac of (item.Net net) = false
may_hold kind.Ip of (item.Mac address) = false
may_hold kind.Net of (item.Mac address) = false
may_hold kind.Mac of (item.Mac address) = true

-- an item fits its set
abbrev pub fits : IpSet → Item → Bool
fits set item = may_hold set.kind set.family item

-- what the text of an entry says: a net, which may be one address, or in a set of hardware addresses one of these
abbrev pub net_item : List ℕ → Option Item
net_item text = net text >>= λ net. Some (item.Net net)

abbrev pub mac_item : List ℕ → Option Item
mac_item text = mac text >>= λ address. Some (item.Mac address)

abbrev pub item_of : SetKind → List ℕ → Option Item
item_of kind.Ip text = net_item text
item_of kind.Net text = net_item text
item_of kind.Mac text = mac_item text

-- the item that a text says, where it fits the set
abbrev pub entry : IpSet → List ℕ → Option Item
entry set text = item_of set.kind text >>= λ item. if fits set item then Some item else None

-- a set with other items
abbrev pub with_items : IpSet → List Item → IpSet
with_items set items = record set { items = items }

-- an item went from a set, and all else is as before
abbrev pub IsWithoutItem : Item → IpSet → IpSet → Type 0
IsWithoutItem item old new = (left : List Item) × IsRemoved item old.items left × (new ≡ with_items old left)
