-- The texts that stand for single values in the permanent settings. Keys and values are those of settings dicts in
-- firewalld.dbus(5), and for ipsets those of firewalld.ipset(5); the file's form is this project's own.
use Rattle.std.specs.Prelude.{ℕ, List, [], ◌++◌, Option, None, Some, codes, decimal}
use Rattle.fw_addr.specs.Canonical.{address_text}
use Rattle.fw_addr.specs.Hardware.{mac_text}
use Rattle.fw_addr.specs.Nets.{net_text}
use Rattle.fw_addr.specs.Subnets.{Subnet}
use Rattle.fw_addr.specs.declared.addr.Addr.{Addr}
use Rattle.fw_addr.specs.declared.packet.Family.{Family}
use Rattle.fw_addr.specs.declared.packet.Family.TheVariants as families
use Rattle.fw_model.specs.declared.binding.Binding.{Binding}
use Rattle.fw_model.specs.declared.binding.Binding.TheVariants as bindings
use Rattle.fw_model.specs.declared.config.LogDenied.{LogDenied}
use Rattle.fw_model.specs.declared.config.LogDenied.TheVariants as logs
use Rattle.fw_model.specs.declared.ipset.Item.{Item}
use Rattle.fw_model.specs.declared.ipset.Item.TheVariants as entries
use Rattle.fw_model.specs.declared.ipset.SetKind.{SetKind}
use Rattle.fw_model.specs.declared.ipset.SetKind.TheVariants as kinds
use Rattle.fw_model.specs.declared.policy.PolicyTarget.{PolicyTarget}
use Rattle.fw_model.specs.declared.policy.PolicyTarget.TheVariants as policies
use Rattle.fw_model.specs.declared.zone.ZoneTarget.{ZoneTarget}
use Rattle.fw_model.specs.declared.zone.ZoneTarget.TheVariants as zones

-- firewalld.conf(5), LogDenied
abbrev pub log_denied_text : LogDenied → List ℕ
log_denied_text logs.Off = codes "off"
log_denied_text logs.All = codes "all"
log_denied_text logs.Unicast = codes "unicast"
log_denied_text logs.Broadcast = codes "broadcast"
log_denied_text logs.Multicast = codes "multicast"

-- firewalld.zone(5), target
abbrev pub zone_target_text : ZoneTarget → List ℕ
zone_target_text zones.Default = codes "default"
zone_target_text zones.Accept = codes "ACCEPT"
zone_target_text zones.Reject = codes "%%REJECT%%"
zone_target_text zones.Drop = codes "DROP"

-- firewalld.policy(5), target
abbrev pub policy_target_text : PolicyTarget → List ℕ
policy_target_text policies.Continue = codes "CONTINUE"
policy_target_text policies.Accept = codes "ACCEPT"
policy_target_text policies.Reject = codes "REJECT"
policy_target_text policies.Drop = codes "DROP"

-- firewalld.ipset(5), type
abbrev pub kind_text : SetKind → List ℕ
kind_text kinds.Ip = codes "hash:ip"
kind_text kinds.Net = codes "hash:net"
kind_text kinds.Mac = codes "hash:mac"

-- the option family of firewalld.ipset(5)
abbrev pub set_family_text : Family → List ℕ
set_family_text families.V4 = codes "inet"
set_family_text families.V6 = codes "inet6"

-- firewalld.zone(5), source
abbrev pub source_text : Binding → List ℕ
source_text (bindings.Net net) = net_text net
source_text (bindings.Mac mac) = mac_text mac
source_text (bindings.Set name) = codes "ipset:" ++ name

-- an entry of an ipset
abbrev pub entry_text : Item → List ℕ
entry_text (entries.Net net) = net_text net
entry_text (entries.Mac mac) = mac_text mac

-- where nothing is given, the text is empty
abbrev pub to_port_text : Option ℕ → List ℕ
to_port_text None = []
to_port_text (Some port) = decimal port

abbrev pub to_addr_text : Option Addr → List ℕ
to_addr_text None = []
to_addr_text (Some address) = address_text address

abbrev pub destination_text : Option Subnet → List ℕ
destination_text None = []
destination_text (Some net) = net_text net
