-- What JSON values say of single values of the permanent settings, by the grammars of their texts (firewalld.zone(5),
-- firewalld.policy(5), firewalld.richlanguage(5), firewalld.ipset(5), firewalld.conf(5)). Texts needn't be canonical.
use Rattle.std.specs.Prelude.{ℕ, ◌^◌, nat_lt, ℤ, pos, negsuc, Bool, List, [], ◌∷◌, Option, None, Some, option_map, option_and_then, Result, codes, if◌then◌else◌}
use Rattle.std.specs.Option.{ok_or, option_or}
use Rattle.std.specs.Result.{result_ok}
use Rattle.fw_addr.specs.Addresses.{address}
use Rattle.fw_addr.specs.Hardware.{mac}
use Rattle.fw_addr.specs.Nets.{net}
use Rattle.fw_addr.specs.Ports.{port as port_number, port_range}
use Rattle.fw_addr.specs.Protocols.{port_proto, proto}
use Rattle.fw_addr.specs.Subnets.{Subnet}
use Rattle.fw_addr.specs.WellFormed.{is_name}
use Rattle.fw_addr.specs.declared.addr.Addr.{Addr}
use Rattle.fw_addr.specs.declared.packet.Family.{Family}
use Rattle.fw_addr.specs.declared.packet.Family.TheVariants.{V4, V6}
use Rattle.fw_model.specs.declared.binding.Binding.{Binding}
use Rattle.fw_model.specs.declared.binding.Binding.TheVariants as bindings
use Rattle.fw_model.specs.declared.config.LogDenied.{LogDenied}
use Rattle.fw_model.specs.declared.config.LogDenied.TheVariants as logs
use Rattle.fw_model.specs.declared.forward.Forward.{Forward}
use Rattle.fw_model.specs.declared.ipset.Item.{Item}
use Rattle.fw_model.specs.declared.ipset.Item.TheVariants as entries
use Rattle.fw_model.specs.declared.ipset.SetKind.{SetKind}
use Rattle.fw_model.specs.declared.ipset.SetKind.TheVariants as kinds
use Rattle.fw_model.specs.declared.policy.PolicyTarget.{PolicyTarget}
use Rattle.fw_model.specs.declared.policy.PolicyTarget.TheVariants as policies
use Rattle.fw_model.specs.declared.port.Port.{Port}
use Rattle.fw_model.specs.declared.rich.Rich.{Rich}
use Rattle.fw_model.specs.declared.zone.ZoneTarget.{ZoneTarget}
use Rattle.fw_model.specs.declared.zone.ZoneTarget.TheVariants as zones
use Rattle.fw_rich.specs.Rich.{rich_text}
use Rattle.fw_text.specs.Steps.{◌>>=◌}
use Rattle.fw_words.specs.Keys.{after_key}
use Rattle.serde_json.specs.Data.{Data, Items, item, no_items}
use Rattle.serde_json.specs.Find.{as_array, as_bool, as_i64, as_number, as_str}

-- what an option gives, or a fault of the value itself
abbrev pub or_fault : {T : Type 0} → Option T → Result T (List ℕ)
or_fault found = ok_or found []

abbrev pub text : Data → Result (List ℕ) (List ℕ)
text value = or_fault (as_str value)

-- a text that a grammar reads
abbrev pub text_by : {T : Type 0} → (List ℕ → Option T) → Data → Result T (List ℕ)
text_by reading value = or_fault (option_and_then reading (as_str value))

abbrev pub truth : Data → Result Bool (List ℕ)
truth value = or_fault (as_bool value)

-- within 32 bits with a sign
abbrev pub within_i32 : ℤ → Option ℤ
within_i32 (pos n) = if nat_lt n (2 ^ 31) then Some (pos n) else None
within_i32 (negsuc n) = if nat_lt n (2 ^ 31) then Some (negsuc n) else None

abbrev pub whole : Data → Result ℤ (List ℕ)
whole value = or_fault (option_and_then within_i32 (option_and_then as_i64 (as_number value)))

unfoldable pub log_denied_names : List (List ℕ × LogDenied)
log_denied_names =
    (codes "off", logs.Off) ∷ (codes "all", logs.All) ∷ (codes "unicast", logs.Unicast)
    ∷ (codes "broadcast", logs.Broadcast) ∷ (codes "multicast", logs.Multicast) ∷ []

abbrev pub zone_target_names : List (List ℕ × ZoneTarget)
zone_target_names =
    (codes "default", zones.Default) ∷ (codes "ACCEPT", zones.Accept)
    ∷ (codes "%%REJECT%%", zones.Reject) ∷ (codes "DROP", zones.Drop) ∷ []

abbrev pub policy_target_names : List (List ℕ × PolicyTarget)
policy_target_names =
    (codes "CONTINUE", policies.Continue) ∷ (codes "ACCEPT", policies.Accept)
    ∷ (codes "REJECT", policies.Reject) ∷ (codes "DROP", policies.Drop) ∷ []

abbrev pub kind_names : List (List ℕ × SetKind)
kind_names = (codes "hash:ip", kinds.Ip) ∷ (codes "hash:net", kinds.Net) ∷ (codes "hash:mac", kinds.Mac) ∷ []

abbrev pub family_names : List (List ℕ × Family)
family_names = (codes "inet", V4) ∷ (codes "inet6", V6) ∷ []

-- texts of addresses and protocols
unfoldable pub network : List ℕ → Option Subnet
network text = net text

unfoldable pub hardware : List ℕ → Option ℕ
hardware text = mac text

unfoldable pub host : List ℕ → Option Addr
host text = address text

unfoldable pub protocol : List ℕ → Option ℕ
protocol text = proto text

-- a rule of the rich language
abbrev pub rich : List ℕ → Option Rich
rich rule = result_ok (rich_text rule)

abbrev pub named_set : List ℕ → Option Binding
named_set name = if is_name name then Some (bindings.Set name) else None

-- a net or a hardware address
abbrev pub net_or_mac : {T : Type 0} → (Subnet → T) → (ℕ → T) → List ℕ → Option T
net_or_mac of_net of_mac text = option_or (option_map of_net (network text)) (option_map of_mac (hardware text))

abbrev pub source_from : List ℕ → (name : Option (List ℕ)) → Option Binding
source_from address (Some name) = named_set name
source_from address None = net_or_mac bindings.Net bindings.Mac address

-- a source: `ipset:` and a well-formed name, or a net or a hardware address
unfoldable pub source : List ℕ → Option Binding
source address = source_from address (after_key (codes "ipset:") address)

-- an entry of an ipset
unfoldable pub entry : List ℕ → Option Item
entry address = net_or_mac entries.Net entries.Mac address

-- an empty text gives nothing
abbrev pub unless_empty : {T : Type 0} → (List ℕ → Option T) → List ℕ → Option (Option T)
unless_empty reading [] = Some None
unless_empty reading (letter ∷ others) = option_map Some (reading (letter ∷ others))

-- a range of ports and its protocol
unfoldable pub port_of : (range proto : Data) → Option Port
port_of range proto = do
  range ← option_and_then port_range (as_str range)
  proto ← option_and_then port_proto (as_str proto)
  Some (record { range = range; proto = proto })

-- an array of these two
abbrev pub port_in : Items → Option Port
port_in no_items = None
port_in (item range no_items) = None
port_in (item range (item proto no_items)) = port_of range proto
port_in (item range (item proto (item more others))) = None

abbrev pub port : Data → Result Port (List ℕ)
port value = or_fault (option_and_then port_in (as_array value))

-- a port that is forwarded, and the port and the host that it goes to
unfoldable pub forward_of : (range proto to_port to_addr : Data) → Option Forward
forward_of range proto to_port to_addr = do
  port ← port_of range proto
  to_port ← option_and_then (unless_empty port_number) (as_str to_port)
  to_addr ← option_and_then (unless_empty host) (as_str to_addr)
  Some (record { port = port; to_port = to_port; to_addr = to_addr })

-- an array of these four
abbrev pub forward_in : Items → Option Forward
forward_in (item range (item proto (item to_port (item to_addr no_items)))) = forward_of range proto to_port to_addr
forward_in (item range (item proto (item to_port (item to_addr (item more others))))) = None
forward_in (item range (item proto (item to_port no_items))) = None
forward_in (item range (item proto no_items)) = None
forward_in (item range no_items) = None
forward_in no_items = None

abbrev pub forward : Data → Result Forward (List ℕ)
forward value = or_fault (option_and_then forward_in (as_array value))
