-- What an item is made of.
use Rattle.std.specs.Prelude.{ℕ}
use Rattle.fw_addr.specs.declared.addr.Addr.{Addr}
use Rattle.fw_addr.specs.declared.addr.Addr.TheVariants.{V4, V6}
use Rattle.fw_ipset.specs.declared.once.Key.{Key}
use Rattle.fw_ipset.specs.declared.once.Key.TheVariants as keys
use Rattle.fw_model.specs.declared.ipset.Item.{Item}
use Rattle.fw_model.specs.declared.ipset.Item.TheVariants.{Net, Mac}

-- of a net by its address and the length of its prefix
abbrev pub net_key : Addr → ℕ → Key
net_key (V4 number) prefix = keys.V4 number prefix
net_key (V6 number) prefix = keys.V6 number prefix

abbrev pub key : Item → Key
key (Net net) = net_key net.address net.prefix
key (Mac address) = keys.Mac address
