-- Settings, interfaces and sources that texts say are such as a valid configuration has.
use Rattle.std.proofs.Common.{◌≡◌, ℕ, ◌==◌, ◌⊎◌, inl, inr, Bool, true, false, not, ◌||◌, if◌then◌else◌, codes, List, length, Option, None, Some, IsSome, is_some, Ok, refl, subst}
use Rattle.std.specs.List.{list_any}
use Rattle.std.specs.Str.{bytes_eq}
use Rattle.fw_act.specs.Acts.{◌>>=◌, refused, required}
use Rattle.fw_addr.specs.Addresses.{address}
use Rattle.fw_addr.specs.Hardware.{mac}
use Rattle.fw_addr.specs.Icmp.{icmp}
use Rattle.fw_addr.specs.Interfaces.{interface}
use Rattle.fw_addr.specs.Nets.{net}
use Rattle.fw_addr.specs.Ports.{port}
use Rattle.fw_addr.specs.Protocols.{proto}
use Rattle.fw_addr.specs.Subnets.{Subnet, family}
use Rattle.fw_addr.specs.WellFormed.{is_name}
use Rattle.fw_addr.specs.declared.addr.Addr.{Addr}
use Rattle.fw_addr.specs.declared.addr.Addr.TheVariants as addresses
use Rattle.fw_addr.specs.declared.packet.Family.TheVariants as families
use Rattle.fw_calls.specs.declared.call.BindingWord.{BindingWord}
use Rattle.fw_calls.specs.declared.call.SettingWords.{SettingWords}
use Rattle.fw_calls.specs.declared.call.SettingWords.TheVariants as words
use Rattle.fw_calls.specs.declared.member.BindingKind.{BindingKind}
use Rattle.fw_calls.specs.declared.member.BindingKind.TheVariants as kind
use Rattle.fw_model.specs.declared.binding.Binding.TheVariants as source
use Rattle.fw_model.specs.declared.code.Code.TheVariants as code
use Rattle.fw_model.specs.declared.config.Config.{Config}
use Rattle.fw_model.specs.declared.forward.Forward.{Forward}
use Rattle.fw_model.specs.declared.ipset.IpSet.{IpSet}
use Rattle.fw_model.specs.declared.port.Port.{Port}
use Rattle.fw_model.specs.declared.service.Service.{Service}
use Rattle.fw_model.specs.declared.setting.Setting.{Setting}
use Rattle.fw_model.specs.declared.setting.Setting.TheVariants as setting
use Rattle.fw_service.specs.Known.{is_known}
use Rattle.fw_valid.specs.Each.{IfThere}
use Rattle.fw_valid.specs.Rules.{IsPlainForward}
use Rattle.fw_words.specs.Keys.{after_key}
use Rattle.fw_zone_edits.specs.declared.entry.Entry.{Entry}
use Rattle.fw_zone_edits.specs.declared.entry.Entry.TheVariants as entry
use Rattle.fw_zone_laws.specs.Entries.{IsEntry}
use Rattle.fw_zone_laws.specs.Settings.{IsSetting}
use Rattle.fw_zone_members.specs.Reading.{address_source, entry_from, entry_of, forward_of, icmp_of, interface_from, ipv4_alone, is_said, one_port, port_of, protocol_from, service_of, set_source, setting_of, source_from, to_address_of, to_port_of}
use Rattle.fw_zone_members.specs.RichRules.{rule_of}
use Rattle.fw_argument_laws.proofs.Names.{name_among}
use Rattle.fw_argument_laws.proofs.RichRules.{rule_known}
use Rattle.fw_argument_laws.proofs.Steps.{both, holds, same_made}

-- Where packets of a forward port go: where a text isn't empty, something was read.
some_port : (text : List ℕ) (found : Option ℕ) (number : Option ℕ) → one_port text found ≡ Ok number → IsSome number
some_port text None number is = cc
some_port text (Some read) number is = subst (λ (number : Option ℕ). IsSome number) (same_made (Some read) number (Ok (Some read)) refl is) refl

port_there : (text : List ℕ) (number : Option ℕ) (empty : Bool) → empty ≡ false → (if empty then Ok None else one_port text (port text)) ≡ Ok number → IsSome number
port_there text number true is_empty is = cc
port_there text number false is_empty is = some_port text (port text) number is

some_host : (text : List ℕ) (found : Option Addr) (host : Option Addr) → ipv4_alone text found ≡ Ok host → IsSome host × IfThere (λ (address : Addr). family address ≡ families.V4) host
some_host text None host is = cc
some_host text (Some (addresses.V4 number)) host is =
    subst (λ (host : Option Addr). IsSome host × IfThere (λ (address : Addr). family address ≡ families.V4) host)
    (same_made (Some (addresses.V4 number)) host (Ok (Some (addresses.V4 number))) refl is) (refl, refl)
some_host text (Some (addresses.V6 number)) host is = cc

host_there : (text : List ℕ) (host : Option Addr) (empty : Bool) → empty ≡ false → (if empty then Ok None else ipv4_alone text (address text)) ≡ Ok host → IsSome host
host_there text host true is_empty is = cc
host_there text host false is_empty is = (some_host text (address text) host is).0

host_in_ipv4 : (text : List ℕ) (host : Option Addr) (empty : Bool) → (if empty then Ok None else ipv4_alone text (address text)) ≡ Ok host → IfThere (λ (address : Addr). family address ≡ families.V4) host
host_in_ipv4 text host true is = subst (IfThere (λ (address : Addr). family address ≡ families.V4)) (same_made None host (Ok None) refl is) tt
host_in_ipv4 text host false is = (some_host text (address text) host is).1

-- something was said of them
has_target : (to_port to_address : List ℕ) (number : Option ℕ) (host : Option Addr) (no_port no_address : Bool)
    → (length to_port == 0) ≡ no_port → (length to_address == 0) ≡ no_address → (not no_port || not no_address) ≡ true
    → to_port_of to_port ≡ Ok number → to_address_of to_address ≡ Ok host → IsSome number ⊎ IsSome host
has_target to_port to_address number host false no_address port_is address_is said is_number is_host = inl (port_there to_port number (length to_port == 0) port_is is_number)
has_target to_port to_address number host true false port_is address_is said is_number is_host = inr (host_there to_address host (length to_address == 0) address_is is_host)
has_target to_port to_address number host true true port_is address_is said is_number is_host = cc

plain : (port protocol to_port to_address : List ℕ) (forward : Forward) → forward_of port protocol to_port to_address ≡ Ok forward → IsPlainForward forward
unfolding forward_of
plain port protocol to_port to_address forward is =
    let from = both (port_of port protocol) _ forward is in
    let said = both (required (is_said to_port to_address) code.InvalidForward to_port) _ forward from.2 in
    let number = both (to_port_of to_port) _ forward said.2 in
    let host = both (to_address_of to_address) _ forward number.2 in
    let made : Forward = record { port = from.0; to_port = number.0; to_addr = host.0 } in
    subst IsPlainForward (same_made made forward (Ok made) refl host.2) (record {
      target = has_target to_port to_address number.0 host.0 (length to_port == 0) (length to_address == 0) refl refl (holds _ _ _ said.0 said.1) number.1 host.1;
      in_ipv4 = host_in_ipv4 to_address host.0 (length to_address == 0) host.1;
    })

module _ (config : Config) where
  service_read : (name : List ℕ) (one : Setting) → service_of config.services name ≡ Ok one → IsSetting config one
  service_read name one is = by (is_known config.services name) refl is
    where
      by : (known : Bool) → is_known config.services name ≡ known → (if known then Ok (setting.Service name) else refused code.InvalidService name) ≡ Ok one → IsSetting config one
      by true known is =
          subst (IsSetting config) (same_made (setting.Service name) one (Ok (setting.Service name)) refl is)
          ((name_among (λ (service : Service). service.name) config.services name).0 known)
      by false known is = cc

  protocol_read : (text : List ℕ) (found : Option ℕ) (one : Setting) → protocol_from text found ≡ Ok one → IsSetting config one
  protocol_read text None one is = cc
  protocol_read text (Some number) one is = subst (IsSetting config) (same_made (setting.Protocol number) one (Ok (setting.Protocol number)) refl is) tt

  icmp_read : (name : List ℕ) (one : Setting) → icmp_of name ≡ Ok one → IsSetting config one
  icmp_read name one is = by (is_some (icmp name)) refl is
    where
      by : (known : Bool) → is_some (icmp name) ≡ known → (if known then Ok (setting.IcmpBlock name) else refused code.InvalidIcmptype name) ≡ Ok one → IsSetting config one
      by true known is = subst (IsSetting config) (same_made (setting.IcmpBlock name) one (Ok (setting.IcmpBlock name)) refl is) known
      by false known is = cc

  port_read : (port protocol : List ℕ) (of : Port → Setting) → ((port : Port) → IsSetting config (of port)) → (one : Setting)
      → (port_of port protocol >>= (λ port. Ok (of port))) ≡ Ok one → IsSetting config one
  port_read port protocol of are one is =
      let read = both (port_of port protocol) _ one is in
      subst (IsSetting config) (same_made (of read.0) one (Ok (of read.0)) refl read.2) (are read.0)

  forward_read : (port protocol to_port to_address : List ℕ) (one : Setting)
      → (forward_of port protocol to_port to_address >>= (λ forward. Ok (setting.Forward forward))) ≡ Ok one → IsSetting config one
  forward_read port protocol to_port to_address one is =
      let read = both (forward_of port protocol to_port to_address) _ one is in
      subst (IsSetting config) (same_made (setting.Forward read.0) one (Ok (setting.Forward read.0)) refl read.2) (plain port protocol to_port to_address read.0 read.1)

  rule_read : (text : List ℕ) (one : Setting) → (rule_of config text >>= (λ rule. Ok (setting.Rich rule))) ≡ Ok one → IsSetting config one
  rule_read text one is =
      let read = both (rule_of config text) _ one is in
      subst (IsSetting config) (same_made (setting.Rich read.0) one (Ok (setting.Rich read.0)) refl read.2) (rule_known config text read.0 read.1)

  -- the arguments of a call, a text and a row of a dict
  pub words_read : (spelled : SettingWords) (one : Setting) → setting_of config spelled ≡ Ok one → IsSetting config one
  unfolding setting_of
  words_read (words.Service name) one is = service_read name one is
  words_read (words.Port port protocol) one is = port_read port protocol setting.Port (λ port. tt) one is
  words_read (words.SourcePort port protocol) one is = port_read port protocol setting.SourcePort (λ port. tt) one is
  words_read (words.Protocol protocol) one is = protocol_read protocol (proto protocol) one is
  words_read (words.IcmpBlock name) one is = icmp_read name one is
  words_read words.Masquerade one is = subst (IsSetting config) (same_made setting.Masquerade one (Ok setting.Masquerade) refl is) tt
  words_read (words.ForwardPort port protocol to_port to_address) one is = forward_read port protocol to_port to_address one is
  words_read (words.RichRule text) one is = rule_read text one is

  interface_read : (text : List ℕ) (found : Option (List ℕ)) (one : Entry) → interface_from text found ≡ Ok one → IsEntry config one
  interface_read text None one is = cc
  interface_read text (Some name) one is = subst (IsEntry config) (same_made (entry.Interface name) one (Ok (entry.Interface name)) refl is) tt

  set_read : (text name : List ℕ) (one : Entry) → set_source config.ipsets text name ≡ Ok one → IsEntry config one
  set_read text name one is = by (is_name name) (list_any (λ (set : IpSet). bytes_eq set.name name) config.ipsets) refl is
    where
      by : (formed known : Bool) → list_any (λ (set : IpSet). bytes_eq set.name name) config.ipsets ≡ known
          → (if formed then (if known then Ok (entry.Source (source.Set name)) else refused code.InvalidIpset text) else refused code.InvalidAddr text) ≡ Ok one → IsEntry config one
      by true true known is =
          subst (IsEntry config) (same_made (entry.Source (source.Set name)) one (Ok (entry.Source (source.Set name))) refl is)
          ((name_among (λ (set : IpSet). set.name) config.ipsets name).0 known)
      by true false known is = cc
      by false other known is = cc

  address_read : (text : List ℕ) (read_net : Option Subnet) (read_mac : Option ℕ) (one : Entry) → address_source text read_net read_mac ≡ Ok one → IsEntry config one
  address_read text (Some found) other one is =
      subst (IsEntry config) (same_made (entry.Source (source.Net found)) one (Ok (entry.Source (source.Net found))) refl is) tt
  address_read text None (Some found) one is =
      subst (IsEntry config) (same_made (entry.Source (source.Mac found)) one (Ok (entry.Source (source.Mac found))) refl is) tt
  address_read text None None one is = cc

  source_read : (text : List ℕ) (name : Option (List ℕ)) (one : Entry) → source_from config.ipsets text name ≡ Ok one → IsEntry config one
  source_read text (Some name) one is = set_read text name one is
  source_read text None one is = address_read text (net text) (mac text) one is

  pub entry_read : (of : BindingKind) (text : List ℕ) (one : Entry) → entry_from config.ipsets of text ≡ Ok one → IsEntry config one
  entry_read kind.Interface text one is = interface_read text (interface text) one is
  entry_read kind.Source text one is = source_read text (after_key (codes "ipset:") text) one is

  pub word_read : (word : BindingWord) (one : Entry) → entry_of config.ipsets word ≡ Ok one → IsEntry config one
  unfolding entry_of
  word_read word one is = entry_read word.kind word.text one is
