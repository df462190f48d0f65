-- Whether two values are one.
use Rattle.std.specs.Prelude.{ℕ, ◌==◌, Bool, false, ◌&&◌}
use Rattle.std.specs.Str.{bytes_eq}
use Rattle.fw_addr.specs.Protocols.{proto_number}
use Rattle.fw_addr.specs.Subnets.{Subnet}
use Rattle.fw_addr.specs.declared.addr.Addr.{Addr}
use Rattle.fw_addr.specs.declared.addr.Addr.TheVariants.{V4, V6}
use Rattle.fw_model.specs.declared.binding.Binding.{Binding}
use Rattle.fw_model.specs.declared.binding.Binding.TheVariants.{Net, Mac, Set}
use Rattle.fw_model.specs.declared.ipset.Item.{Item}
use Rattle.fw_model.specs.declared.ipset.Item.TheVariants as item
use Rattle.fw_model.specs.contracts.rich.RichPartialEq.TheImpl as rich
use Rattle.fw_model.specs.declared.port.Port.{Port}
use Rattle.fw_model.specs.declared.rich.Rich.{Rich}

-- the same range of the same protocol
abbrev pub same_port : Port → Port → Bool
same_port one other =
    one.range.first == other.range.first && one.range.last == other.range.last
    && proto_number one.proto == proto_number other.proto

-- the same number of the same family
abbrev pub same_address : Addr → Addr → Bool
same_address (V4 one) (V4 other) = one == other
same_address (V4 one) (V6 other) = false
same_address (V6 one) (V4 other) = false
same_address (V6 one) (V6 other) = one == other

abbrev pub same_net : Subnet → Subnet → Bool
same_net one other = same_address one.address other.address && one.prefix == other.prefix

-- the same net, hardware address or name of an ipset
abbrev pub same_source : Binding → Binding → Bool
same_source (Net one) (Net other) = same_net one other
same_source (Net one) (Mac other) = false
same_source (Net one) (Set other) = false
same_source (Mac one) (Net other) = false
same_source (Mac one) (Mac other) = one == other
same_source (Mac one) (Set other) = false
same_source (Set one) (Net other) = false
same_source (Set one) (Mac other) = false
same_source (Set one) (Set other) = bytes_eq one other

-- the same entry of an ipset
abbrev pub same_item : Item → Item → Bool
same_item (item.Net one) (item.Net other) = same_net one other
same_item (item.Net one) (item.Mac other) = false
same_item (item.Mac one) (item.Net other) = false
same_item (item.Mac one) (item.Mac other) = one == other

-- the same rich rule, part by part, as `==` says
abbrev pub same_rule : Rich → Rich → Bool
same_rule = (rich.ghosts).eq
