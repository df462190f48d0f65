-- Rules of the rich language (firewalld.richlanguage(5)): which parts a rule may have beside one another.
use Rattle.std.specs.Prelude.{◌≡◌, ◌≢◌, ◌⊎◌, ℕ, ◌≤◌, ◌==◌, nat_le, Bool, true, false, not, ◌&&◌, List, length, Option, None, Some, IsNone, IsSome, IsTrue, ℤ, pos, negsuc, ◌≤ℤ◌}
use Rattle.std.specs.List.{list_all}
use Rattle.fw_addr.specs.Icmp.{icmp}
use Rattle.fw_addr.specs.Subnets.{family}
use Rattle.fw_addr.specs.declared.addr.Addr.{Addr}
use Rattle.fw_addr.specs.declared.icmp.IcmpNumbers.{IcmpNumbers}
use Rattle.fw_addr.specs.declared.limit.Limit.{Limit}
use Rattle.fw_addr.specs.declared.packet.Family.{Family}
use Rattle.fw_addr.specs.declared.packet.Family.TheVariants as families
use Rattle.fw_addr.specs.declared.reject.RejectType.{RejectType}
use Rattle.fw_addr.specs.declared.reject.RejectType.TheVariants as reject
use Rattle.fw_model.specs.declared.binding.Binding.{Binding}
use Rattle.fw_model.specs.declared.binding.Binding.TheVariants as binding
use Rattle.fw_model.specs.declared.forward.Forward.{Forward}
use Rattle.fw_model.specs.declared.rich.Act.{Act}
use Rattle.fw_model.specs.declared.rich.Act.TheVariants as act
use Rattle.fw_model.specs.declared.rich.Action.{Action}
use Rattle.fw_model.specs.declared.rich.Element.{Element}
use Rattle.fw_model.specs.declared.rich.Element.TheVariants as element
use Rattle.fw_model.specs.declared.rich.Rich.{Rich}
use Rattle.fw_model.specs.declared.rich.RichLog.{RichLog}
use Rattle.fw_model.specs.declared.rich.Side.{Side}
use Rattle.fw_valid.specs.Each.{IfThere}

-- an address needs a rule of its family
abbrev pub IsOfFamily : Option Family → Addr → Type 0
IsOfFamily of address = of ≡ Some (family address)

-- an address in a source or a destination does; hardware addresses and sets need no family
abbrev pub MayName : Option Family → Binding → Type 0
MayName of (binding.Net net) = IsOfFamily of net.address
MayName of (binding.Mac address) = Unit {0}
MayName of (binding.Set name) = Unit {0}

-- a destination is no hardware address
abbrev pub IsNoMac : Binding → Type 0
IsNoMac (binding.Net net) = Unit {0}
IsNoMac (binding.Mac address) = ⊥
IsNoMac (binding.Set name) = Unit {0}

-- an ICMP type's number in a family, if it has one there
abbrev pub number_in : Family → IcmpNumbers → Option ℕ
number_in families.V4 numbers = numbers.v4
number_in families.V6 numbers = numbers.v6

-- an ICMP type that there is, in the rule's family if it has one
abbrev pub HasType : Option Family → List ℕ → Type 0
HasType of name = (numbers : IcmpNumbers) × (icmp name ≡ Some numbers) × IfThere (λ family. IsSome (number_in family numbers)) of

-- A port is forwarded to a port, a host or both.
abbrev pub HasTarget : Forward → Type 0
HasTarget forward = IsSome forward.to_port ⊎ IsSome forward.to_addr

-- what an element asks of the rule's family
abbrev pub MayHave : Option Family → Element → Type 0
MayHave of (element.Service name) = Unit {0}
MayHave of (element.Port port) = Unit {0}
MayHave of (element.Protocol protocol) = Unit {0}
MayHave of (element.IcmpBlock name) = HasType of name
MayHave of (element.IcmpType name) = HasType of name
MayHave of element.Masquerade = Unit {0}
MayHave of (element.SourcePort port) = Unit {0}
MayHave of (element.Forward forward) = IsSome of × HasTarget forward × IfThere (IsOfFamily of) forward.to_addr

-- the elements that do all by themselves, so that no action stands beside them
abbrev pub IsWhole : Option Element → Type 0
IsWhole None = ⊥
IsWhole (Some (element.Service name)) = ⊥
IsWhole (Some (element.Port port)) = ⊥
IsWhole (Some (element.Protocol protocol)) = ⊥
IsWhole (Some (element.IcmpBlock name)) = Unit {0}
IsWhole (Some (element.IcmpType name)) = ⊥
IsWhole (Some element.Masquerade) = Unit {0}
IsWhole (Some (element.SourcePort port)) = ⊥
IsWhole (Some (element.Forward forward)) = Unit {0}

-- something is done with its packets
abbrev pub DoesSomething : Rich → Type 0
DoesSomething rule = IsSome rule.action ⊎ (IsSome rule.log ⊎ IsSome rule.audit)

-- the actions that can be audited
abbrev pub IsVerdict : Act → Type 0
IsVerdict act.Accept = Unit {0}
IsVerdict (act.Reject kind) = Unit {0}
IsVerdict act.Drop = Unit {0}
IsVerdict (act.Mark value mask) = ⊥

abbrev pub IsAudited : Option Action → Type 0
IsAudited None = ⊥
IsAudited (Some action) = IsVerdict action.act

-- the types of rejects in a family (nft(8), "REJECT STATEMENT")
abbrev pub is_reject_of : Family → RejectType → Bool
is_reject_of families.V4 reject.IcmpNetUnreachable = true
is_reject_of families.V4 reject.IcmpHostUnreachable = true
is_reject_of families.V4 reject.IcmpPortUnreachable = true
is_reject_of families.V4 reject.IcmpProtoUnreachable = true
is_reject_of families.V4 reject.IcmpNetProhibited = true
is_reject_of families.V4 reject.IcmpHostProhibited = true
is_reject_of families.V4 reject.IcmpAdminProhibited = true
is_reject_of families.V4 reject.TcpReset = true
is_reject_of families.V6 reject.Icmp6NoRoute = true
is_reject_of families.V6 reject.Icmp6AddrUnreachable = true
is_reject_of families.V6 reject.Icmp6PortUnreachable = true
is_reject_of families.V6 reject.Icmp6AdmProhibited = true
is_reject_of families.V6 reject.TcpReset = true
is_reject_of family other = false

-- a type of rejects needs a rule of its family
abbrev pub MayDo : Option Family → Act → Type 0
MayDo of (act.Reject (Some kind)) = (family : Family) × (of ≡ Some family) × IsTrue (is_reject_of family kind)
MayDo of (act.Reject None) = Unit {0}
MayDo of act.Accept = Unit {0}
MayDo of act.Drop = Unit {0}
MayDo of (act.Mark value mask) = Unit {0}

-- 1 to 10000 times in a span of time
abbrev pub IsLimit : Limit → Type 0
IsLimit limit = (1 ≤ limit.count) × (limit.count ≤ 10000)

-- At most 127 bytes, which can stand in quotes: none is below 32, the quote (34) or 127.
abbrev pub is_prefix : List ℕ → Bool
is_prefix text = nat_le (length text) 127 && list_all (λ byte. nat_le 32 byte && not (byte == 34) && not (byte == 127)) text

-- a number of 16 bits with its sign
abbrev pub IsPriority : ℤ → Type 0
IsPriority priority = (negsuc 32767 ≤ℤ priority) × (priority ≤ℤ pos 32767)

-- a rule as the language has it
pub record IsRich (rule : Rich) : Type 0 where
  pub priority : IsPriority rule.priority
  pub source : IfThere (λ (side : Side). MayName rule.family side.what) rule.source
  pub destination : IfThere (λ (side : Side). MayName rule.family side.what × IsNoMac side.what) rule.dest
  pub element : IfThere (MayHave rule.family) rule.element
  pub log_prefix : IfThere (λ (log : RichLog). IsTrue (is_prefix log.prefix)) rule.log
  pub log_limit : IfThere (λ (log : RichLog). IfThere IsLimit log.limit) rule.log
  pub audit_limit : IfThere (IfThere IsLimit) rule.audit
  pub action_limit : IfThere (λ (action : Action). IfThere IsLimit action.limit) rule.action
  pub action_type : IfThere (λ (action : Action). MayDo rule.family action.act) rule.action
  pub whole_has_no_action : IsWhole rule.element → IsNone rule.action
  pub other_does_something : ¬ (IsWhole rule.element) → DoesSomething rule
  pub audit_has_verdict : IsSome rule.audit → IsAudited rule.action
  -- a rule for all packets has a place of its own among the rules
  pub all_packets_need_priority : IsNone rule.element → IsNone rule.source → IsNone rule.dest → rule.priority ≢ pos 0
