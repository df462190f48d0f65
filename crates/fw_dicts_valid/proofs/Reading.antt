-- What is read of an element of a list fits.
use Rattle.std.proofs.Common.{◌≡◌, ◌⊎◌, inl, inr, ℕ, Bool, true, false, not, ◌==◌, if◌then◌else◌, List, length, Option, None, Some, Ok, Err, IsSome, is_some, refl, ap, subst}
use Rattle.std.proofs.lemmas.Bool.{and_parts, true≢false, or_cases, not-true}
use Rattle.fw_act.specs.Acts.{required, result_and_then}
use Rattle.fw_addr.specs.Addresses.{address}
use Rattle.fw_addr.specs.Icmp.{icmp}
use Rattle.fw_addr.specs.Ports.{port}
use Rattle.fw_addr.specs.Protocols.{proto}
use Rattle.fw_addr.specs.Subnets.{family}
use Rattle.fw_addr.specs.declared.addr.Addr.{Addr}
use Rattle.fw_addr.specs.declared.addr.Addr.TheVariants as addresses
use Rattle.fw_addr.specs.declared.packet.Family.TheVariants as families
use Rattle.fw_dicts.specs.Lists.{cell, row_setting, text_setting}
use Rattle.fw_dicts.specs.declared.lists.RowList.{RowList}
use Rattle.fw_dicts.specs.declared.lists.RowList.TheVariants as rows
use Rattle.fw_dicts.specs.declared.lists.TextList.{TextList}
use Rattle.fw_dicts.specs.declared.lists.TextList.TheVariants as texts
use Rattle.fw_dicts_valid.proofs.Steps.{holds, inner, named_in, ok, passed, then_ok}
use Rattle.fw_dicts_valid.specs.Settings.{IsFitRule, IsFitSetting}
use Rattle.fw_model.specs.declared.binding.Binding.{Binding}
use Rattle.fw_model.specs.declared.binding.Binding.TheVariants as binding
use Rattle.fw_model.specs.declared.code.Code.TheVariants as code
use Rattle.fw_model.specs.declared.config.Config.{Config}
use Rattle.fw_model.specs.declared.forward.Forward.{Forward}
use Rattle.fw_model.specs.declared.ipset.IpSet.{IpSet}
use Rattle.fw_model.specs.declared.rich.Element.{Element}
use Rattle.fw_model.specs.declared.rich.Element.TheVariants as element
use Rattle.fw_model.specs.declared.rich.Rich.{Rich}
use Rattle.fw_model.specs.declared.rich.Side.{Side}
use Rattle.fw_model.specs.declared.service.Service.{Service}
use Rattle.fw_model.specs.declared.setting.Setting.{Setting}
use Rattle.fw_model.specs.declared.setting.Setting.TheVariants as setting
use Rattle.fw_rich.specs.Rich.{Refusable, rich_text}
use Rattle.fw_rich.specs.declared.error.RichError.TheVariants as reason
use Rattle.fw_rich_valid.proofs.Rules.{said_is_rich}
use Rattle.fw_service.specs.Known.{is_known}
use Rattle.fw_valid.specs.Each.{IfThere}
use Rattle.fw_valid.specs.Names.{IsIcmpType, ipset_names, service_names}
use Rattle.fw_valid.specs.Riches.{IsRich, MayHave}
use Rattle.fw_valid.specs.Rules.{IsPlainForward, NamesSet}
use Rattle.fw_zone.specs.Lists.{IsIn}
use Rattle.fw_zone_members.specs.Reading.{forward_of, icmp_of, ipv4_alone, is_said, one_port, port_of, protocol_from, service_of, to_address_of, to_port_of}
use Rattle.fw_zone_members.specs.RichRules.{ipset_known, rule_of, rule_read, service_known, side_known, sides_known}

abbrev Fits : Config → Setting → Type 0
Fits config new = IsFitSetting config new

-- services, protocols and ICMP types
service_fits : (config : Config) (name : List ℕ) (new : Setting) → service_of config.services name ≡ Ok new → Fits config new
service_fits config name new is =
    let found = passed (is_known config.services name) code.InvalidService name (setting.Service name) new is in
    subst (λ (new : Setting). Fits config new) found.1 (named_in (λ (service : Service). service.name) config.services name found.0)

protocol_fits : (config : Config) (text : List ℕ) (found : Option ℕ) (new : Setting) → protocol_from text found ≡ Ok new → Fits config new
protocol_fits config text None new is = cc
protocol_fits config text (Some number) new is = subst (λ (new : Setting). Fits config new) (inner (setting.Protocol number) new is) tt

icmp_fits : (config : Config) (name : List ℕ) (new : Setting) → icmp_of name ≡ Ok new → Fits config new
icmp_fits config name new is =
    let found = passed (is_some (icmp name)) code.InvalidIcmptype name (setting.IcmpBlock name) new is in
    subst (λ (new : Setting). Fits config new) found.1 found.0

-- rich rules
read_of : (text : List ℕ) (told : Refusable Rich) (rule : Rich) → rule_read text told ≡ Ok rule → told ≡ Ok rule
read_of text (Ok one) rule is = cc
read_of text (Err (reason.Rule offset)) rule is = cc
read_of text (Err (reason.Part code place)) rule is = cc
read_of text (Err reason.MissingFamily) rule is = cc
read_of text (Err reason.Memory) rule is = cc

set_in : (config : Config) (what : Binding) (name : List ℕ) → ipset_known config.ipsets what ≡ true → what ≡ binding.Set name → IsIn name (ipset_names config)
set_in config (binding.Net net) name known is = cc
set_in config (binding.Mac mac) name known is = cc
set_in config (binding.Set one) name known is =
    let same : one ≡ name = cc in
    subst (λ (name : List ℕ). IsIn name (ipset_names config)) same (named_in (λ (set : IpSet). set.name) config.ipsets one known)

side_in : (config : Config) (side : Option Side) (name : List ℕ) → side_known config.ipsets side ≡ true → NamesSet side name → IsIn name (ipset_names config)
side_in config None name known named = absurd named
side_in config (Some side) name known named = set_in config side.what name known named

service_in : (config : Config) (of : Option Element) (name : List ℕ) → service_known config.services of ≡ true → of ≡ Some (element.Service name) → IsIn name (service_names config)
service_in config of name known is =
    named_in (λ (service : Service). service.name) config.services name (subst (λ (of : Option Element). service_known config.services of ≡ true) is known)

type_in : (rule : Rich) → IsRich rule → (name : List ℕ) → ((rule.element ≡ Some (element.IcmpBlock name)) ⊎ (rule.element ≡ Some (element.IcmpType name))) → IsIcmpType name
type_in rule rich name (inl is) =
    let has = subst (λ (of : Option Element). IfThere (MayHave rule.family) of) is rich.element in ap (λ found. is_some found) has.1
type_in rule rich name (inr is) =
    let has = subst (λ (of : Option Element). IfThere (MayHave rule.family) of) is rich.element in ap (λ found. is_some found) has.1

pub rule_fits : (config : Config) (text : List ℕ) (rule : Rich) → rule_of config text ≡ Ok rule → IsFitRule config rule
unfolding rule_of
rule_fits config text rule is =
    let read = then_ok _ (rule_read text (rich_text text)) rule is in
    by read.0 (said_is_rich text read.0 (read_of text (rich_text text) read.0 read.1)) read.2
  where
    fit : (one : Rich) → IsRich one → service_known config.services one.element ≡ true → sides_known config.ipsets one ≡ true → IsFitRule config one
    fit one rich service sets =
        let sides = and_parts (side_known config.ipsets one.source) (side_known config.ipsets one.dest) sets in
        record {
          rich = rich;
          service = λ name named. service_in config one.element name service named;
          icmp_type = type_in one rich;
          sets = λ name named. elim named [ inl source ↦ side_in config one.source name sides.0 source | inr dest ↦ side_in config one.dest name sides.1 dest ];
        }

    by : (one : Rich) → IsRich one
        → result_and_then (λ service. result_and_then (λ sets. ok one) (required (sides_known config.ipsets one) code.InvalidIpset text)) (required (service_known config.services one.element) code.InvalidService text) ≡ Ok rule
        → IsFitRule config rule
    by one rich is =
        let service = then_ok _ (required (service_known config.services one.element) code.InvalidService text) rule is in
        let sets = then_ok _ (required (sides_known config.ipsets one) code.InvalidIpset text) rule service.2 in
        subst (IsFitRule config) (inner one rule sets.2)
        (fit one rich (holds (service_known config.services one.element) code.InvalidService text service.0 service.1) (holds (sides_known config.ipsets one) code.InvalidIpset text sets.0 sets.1))

-- forward ports
number_there : (text : List ℕ) (number : Option ℕ) → to_port_of text ≡ Ok number → (length text == 0) ≡ false → IsSome number
number_there text number is some = by (length text == 0) some (port text) is
  where
    by : (none : Bool) → none ≡ false → (found : Option ℕ) → (if none then ok None else one_port text found) ≡ Ok number → IsSome number
    by true some found is = absurd (true≢false some)
    by false some None is = cc
    by false some (Some one) is = let same = inner (Some one) number is in subst IsSome same refl

host_there : (text : List ℕ) (host : Option Addr) → to_address_of text ≡ Ok host → ((length text == 0) ≡ false → IsSome host) × IfThere (λ address. family address ≡ families.V4) host
host_there text host is = by (length text == 0) (address text) is
  where
    by : (none : Bool) → (found : Option Addr) → (if none then ok None else ipv4_alone text found) ≡ Ok host → (none ≡ false → IsSome host) × IfThere (λ address. family address ≡ families.V4) host
    by true found is = let same = inner None host is in ((λ some. absurd (true≢false some)), subst (λ (host : Option Addr). IfThere (λ address. family address ≡ families.V4) host) same tt)
    by false None is = cc
    by false (Some (addresses.V4 number)) is =
        let same = inner (Some (addresses.V4 number)) host is in
        ((λ some. subst IsSome same refl), subst (λ (host : Option Addr). IfThere (λ address. family address ≡ families.V4) host) same refl)
    by false (Some (addresses.V6 number)) is = cc

target : (to_port to_address : List ℕ) (number : Option ℕ) (host : Option Addr) → is_said to_port to_address ≡ true → to_port_of to_port ≡ Ok number → to_address_of to_address ≡ Ok host → IsSome number ⊎ IsSome host
target to_port to_address number host said port_is host_is =
    elim (or_cases (not (length to_port == 0)) (not (length to_address == 0)) said) [
      | inl first ↦ inl (number_there to_port number port_is (not-true (length to_port == 0) first))
      | inr second ↦ inr ((host_there to_address host host_is).0 (not-true (length to_address == 0) second))
    ]

pub forward_fits : (from protocol to_port to_address : List ℕ) (forward : Forward) → forward_of from protocol to_port to_address ≡ Ok forward → IsPlainForward forward
unfolding forward_of
forward_fits from protocol to_port to_address forward is =
    let one = then_ok _ (port_of from protocol) forward is in
    let said = then_ok _ (required (is_said to_port to_address) code.InvalidForward to_port) forward one.2 in
    let number = then_ok _ (to_port_of to_port) forward said.2 in
    let host = then_ok _ (to_address_of to_address) forward number.2 in
    subst IsPlainForward (inner _ forward host.2) (record {
      target = target to_port to_address number.0 host.0 (holds (is_said to_port to_address) code.InvalidForward to_port said.0 said.1) number.1 host.1;
      in_ipv4 = (host_there to_address host.0 host.1).1;
    })

-- elements of lists
pub text_fits : (config : Config) (list : TextList) (text : List ℕ) (new : Setting) → text_setting config list text ≡ Ok new → Fits config new
unfolding text_setting
text_fits config texts.Services text new is = service_fits config text new is
text_fits config texts.Protocols text new is = protocol_fits config text (proto text) new is
text_fits config texts.IcmpBlocks text new is = icmp_fits config text new is
text_fits config texts.RichRules text new is =
    let rule = then_ok _ (rule_of config text) new is in
    subst (λ (new : Setting). Fits config new) (inner (setting.Rich rule.0) new rule.2) (rule_fits config text rule.0 rule.1)

pub row_fits : (config : Config) (list : RowList) (row : List (List ℕ)) (new : Setting) → row_setting list row ≡ Ok new → Fits config new
unfolding row_setting
row_fits config rows.Ports row new is =
    let port = then_ok _ (port_of (cell row 0) (cell row 1)) new is in
    subst (λ (new : Setting). Fits config new) (inner (setting.Port port.0) new port.2) tt
row_fits config rows.SourcePorts row new is =
    let port = then_ok _ (port_of (cell row 0) (cell row 1)) new is in
    subst (λ (new : Setting). Fits config new) (inner (setting.SourcePort port.0) new port.2) tt
row_fits config rows.ForwardPorts row new is =
    let forward = then_ok _ (forward_of (cell row 0) (cell row 1) (cell row 2) (cell row 3)) new is in
    subst (λ (new : Setting). Fits config new) (inner (setting.Forward forward.0) new forward.2) (forward_fits (cell row 0) (cell row 1) (cell row 2) (cell row 3) forward.0 forward.1)
