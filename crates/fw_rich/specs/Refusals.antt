-- What refuses a rule whose grammar is followed and whose values are read (firewalld.richlanguage(5)). Each refusal is
-- a definition of its own; their order stands in Rich.
use Rattle.std.specs.Prelude.{ℕ, ◌==◌, Bool, true, false, not, ◌&&◌, ◌||◌, if◌then◌else◌, List, Option, None, Some, is_none, is_some, ℤ, pos, negsuc}
use Rattle.std.specs.Option.{option_map, option_or}
use Rattle.fw_text.specs.Steps.{◌>>=◌}
use Rattle.fw_addr.specs.Icmp.{icmp}
use Rattle.fw_addr.specs.declared.addr.Addr.{Addr}
use Rattle.fw_addr.specs.declared.addr.Addr.TheVariants as addr
use Rattle.fw_addr.specs.declared.icmp.IcmpNumbers.{IcmpNumbers}
use Rattle.fw_addr.specs.declared.packet.Family.{Family}
use Rattle.fw_addr.specs.declared.packet.Family.TheVariants.{V4, V6}
use Rattle.fw_addr.specs.declared.reject.RejectType.{RejectType}
use Rattle.fw_addr.specs.declared.reject.RejectType.TheVariants as reject
use Rattle.fw_model.specs.declared.binding.Binding.{Binding}
use Rattle.fw_model.specs.declared.binding.Binding.TheVariants as bindings
use Rattle.fw_model.specs.declared.rich.Act.{Act}
use Rattle.fw_model.specs.declared.rich.Act.TheVariants as acts
use Rattle.fw_model.specs.declared.rich.Action.{Action}
use Rattle.fw_model.specs.declared.rich.Element.{Element}
use Rattle.fw_model.specs.declared.rich.Element.TheVariants as elements
use Rattle.fw_model.specs.declared.rich.Rich.{Rich}
use Rattle.fw_model.specs.declared.rich.Side.{Side}
use Rattle.fw_rich.specs.Tokens.{Written}
use Rattle.fw_rich.specs.declared.parts.ElementParts.{ElementParts}
use Rattle.fw_rich.specs.declared.parts.ElementParts.TheVariants as part
use Rattle.fw_rich.specs.declared.parts.ForwardParts.{ForwardParts}
use Rattle.fw_rich.specs.declared.parts.RuleParts.{RuleParts}
use Rattle.fw_rich.specs.declared.parts.SideKey.{SideKey}
use Rattle.fw_rich.specs.declared.parts.SideKey.TheVariants as side
use Rattle.fw_rich.specs.declared.parts.SideParts.{SideParts}

abbrev pub is_address : SideKey → Bool
is_address side.Address = true
is_address side.Mac = false
is_address side.Ipset = false

-- a source or a destination with an address
abbrev pub has_address : Option SideParts → Bool
has_address None = false
has_address (Some parts) = is_address parts.name.key

abbrev pub is_forward : Option ElementParts → Bool
is_forward None = false
is_forward (Some (part.Service value)) = false
is_forward (Some (part.Port parts)) = false
is_forward (Some (part.Protocol value)) = false
is_forward (Some (part.IcmpBlock value)) = false
is_forward (Some (part.IcmpType value)) = false
is_forward (Some part.Masquerade) = false
is_forward (Some (part.SourcePort parts)) = false
is_forward (Some (part.Forward parts)) = true

-- an address of a source or a destination, or a forward port, stands without a family
unfoldable pub lacks_family : RuleParts → Bool
lacks_family parts = is_none parts.family && (has_address parts.source || has_address parts.dest || is_forward parts.element)

-- whether an address is of a family
abbrev pub is_of : Family → Addr → Bool
is_of V4 (addr.V4 n) = true
is_of V4 (addr.V6 n) = false
is_of V6 (addr.V4 n) = false
is_of V6 (addr.V6 n) = true

abbrev pub is_foreign : Family → Binding → Bool
is_foreign family (bindings.Net net) = not (is_of family net.address)
is_foreign family (bindings.Mac mac) = false
is_foreign family (bindings.Set name) = false

-- where the address of a side stands, which isn't of the rule's family
abbrev pub foreign_side : Family → Option SideParts → Option Side → Option ℕ
foreign_side family parts side = do
  parts ← parts
  side ← side
  if is_foreign family side.what then Some parts.name.value.place else None

abbrev pub target_place : Option ElementParts → Option ℕ
target_place None = None
target_place (Some (part.Service value)) = None
target_place (Some (part.Port parts)) = None
target_place (Some (part.Protocol value)) = None
target_place (Some (part.IcmpBlock value)) = None
target_place (Some (part.IcmpType value)) = None
target_place (Some part.Masquerade) = None
target_place (Some (part.SourcePort parts)) = None
target_place (Some (part.Forward parts)) = option_map (λ value. value.place) parts.to_addr

abbrev pub target_addr : Option Element → Option Addr
target_addr None = None
target_addr (Some (elements.Service name)) = None
target_addr (Some (elements.Port port)) = None
target_addr (Some (elements.Protocol protocol)) = None
target_addr (Some (elements.IcmpBlock name)) = None
target_addr (Some (elements.IcmpType name)) = None
target_addr (Some elements.Masquerade) = None
target_addr (Some (elements.SourcePort port)) = None
target_addr (Some (elements.Forward forward)) = forward.to_addr

-- where the address stands that a port is forwarded to, which isn't of the rule's family
abbrev pub foreign_target : Family → Option ElementParts → Option Element → Option ℕ
foreign_target family parts element = do
  place ← target_place parts
  addr ← target_addr element
  if is_of family addr then None else Some place

-- where the first address stands that isn't of the rule's family
unfoldable pub foreign_address : Family → RuleParts → Rich → Option ℕ
foreign_address family parts rule =
    option_or (foreign_side family parts.source rule.source)
    (option_or (foreign_side family parts.dest rule.dest) (foreign_target family parts.element rule.element))

-- whether an ICMP type has a number in a family
abbrev pub has_number : Family → IcmpNumbers → Bool
has_number V4 numbers = is_some numbers.v4
has_number V6 numbers = is_some numbers.v6

abbrev pub lacks_number : Family → Option IcmpNumbers → Bool
lacks_number family None = false
lacks_number family (Some numbers) = not (has_number family numbers)

abbrev pub foreign_name : Family → Written → Option ℕ
foreign_name family value = if lacks_number family (icmp value.text) then Some value.place else None

-- where an ICMP type stands that the family hasn't
unfoldable pub foreign_type : Family → Option ElementParts → Option ℕ
foreign_type family None = None
foreign_type family (Some (part.Service value)) = None
foreign_type family (Some (part.Port parts)) = None
foreign_type family (Some (part.Protocol value)) = None
foreign_type family (Some (part.IcmpBlock value)) = foreign_name family value
foreign_type family (Some (part.IcmpType value)) = foreign_name family value
foreign_type family (Some part.Masquerade) = None
foreign_type family (Some (part.SourcePort parts)) = None
foreign_type family (Some (part.Forward parts)) = None

abbrev pub without_target : ForwardParts → Option ℕ
without_target parts = if is_none parts.to_port && is_none parts.to_addr then Some parts.offset else None

-- where a forward port stands that has neither a port nor an address to forward to
unfoldable pub aimless_forward : Option ElementParts → Option ℕ
aimless_forward None = None
aimless_forward (Some (part.Service value)) = None
aimless_forward (Some (part.Port parts)) = None
aimless_forward (Some (part.Protocol value)) = None
aimless_forward (Some (part.IcmpBlock value)) = None
aimless_forward (Some (part.IcmpType value)) = None
aimless_forward (Some part.Masquerade) = None
aimless_forward (Some (part.SourcePort parts)) = None
aimless_forward (Some (part.Forward parts)) = without_target parts

-- the elements that do all by themselves
abbrev pub acts_itself : Option Element → Bool
acts_itself None = false
acts_itself (Some (elements.Service name)) = false
acts_itself (Some (elements.Port port)) = false
acts_itself (Some (elements.Protocol protocol)) = false
acts_itself (Some (elements.IcmpBlock name)) = true
acts_itself (Some (elements.IcmpType name)) = false
acts_itself (Some elements.Masquerade) = true
acts_itself (Some (elements.SourcePort port)) = false
acts_itself (Some (elements.Forward forward)) = true

-- they stand without an action, and any other rule does something
unfoldable pub does_one_thing : Rich → Bool
does_one_thing rule =
    if acts_itself rule.element then is_none rule.action
    else is_some rule.action || is_some rule.log || is_some rule.audit

abbrev pub is_verdict : Act → Bool
is_verdict acts.Accept = true
is_verdict (acts.Reject kind) = true
is_verdict acts.Drop = true
is_verdict (acts.Mark value mask) = false

abbrev pub has_verdict : Option Action → Bool
has_verdict None = false
has_verdict (Some action) = is_verdict action.act

-- an audit stands beside accept, reject or drop alone
unfoldable pub audits_a_verdict : Rich → Bool
audits_a_verdict rule = is_none rule.audit || has_verdict rule.action

-- the types of rejects in IPv4, the reset of TCP among them
abbrev pub is_type_of_v4 : RejectType → Bool
is_type_of_v4 reject.IcmpNetUnreachable = true
is_type_of_v4 reject.IcmpHostUnreachable = true
is_type_of_v4 reject.IcmpPortUnreachable = true
is_type_of_v4 reject.IcmpProtoUnreachable = true
is_type_of_v4 reject.IcmpNetProhibited = true
is_type_of_v4 reject.IcmpHostProhibited = true
is_type_of_v4 reject.IcmpAdminProhibited = true
is_type_of_v4 reject.Icmp6NoRoute = false
is_type_of_v4 reject.Icmp6AddrUnreachable = false
is_type_of_v4 reject.Icmp6PortUnreachable = false
is_type_of_v4 reject.Icmp6AdmProhibited = false
is_type_of_v4 reject.IcmpxAdminProhibited = false
is_type_of_v4 reject.IcmpxPortUnreachable = false
is_type_of_v4 reject.TcpReset = true

-- and in IPv6
abbrev pub is_type_of_v6 : RejectType → Bool
is_type_of_v6 reject.IcmpNetUnreachable = false
is_type_of_v6 reject.IcmpHostUnreachable = false
is_type_of_v6 reject.IcmpPortUnreachable = false
is_type_of_v6 reject.IcmpProtoUnreachable = false
is_type_of_v6 reject.IcmpNetProhibited = false
is_type_of_v6 reject.IcmpHostProhibited = false
is_type_of_v6 reject.IcmpAdminProhibited = false
is_type_of_v6 reject.Icmp6NoRoute = true
is_type_of_v6 reject.Icmp6AddrUnreachable = true
is_type_of_v6 reject.Icmp6PortUnreachable = true
is_type_of_v6 reject.Icmp6AdmProhibited = true
is_type_of_v6 reject.IcmpxAdminProhibited = false
is_type_of_v6 reject.IcmpxPortUnreachable = false
is_type_of_v6 reject.TcpReset = true

abbrev pub is_type_of : Option Family → RejectType → Bool
is_type_of None kind = false
is_type_of (Some V4) kind = is_type_of_v4 kind
is_type_of (Some V6) kind = is_type_of_v6 kind

abbrev pub act_fits : Option Family → Act → Bool
act_fits family acts.Accept = true
act_fits family (acts.Reject None) = true
act_fits family (acts.Reject (Some kind)) = is_type_of family kind
act_fits family acts.Drop = true
act_fits family (acts.Mark value mask) = true

-- a type of rejects stands with a family, and is one of it
unfoldable pub rejects_fit : Option Family → Option Action → Bool
rejects_fit family None = true
rejects_fit family (Some action) = act_fits family action.act

abbrev pub is_zero : ℤ → Bool
is_zero (pos n) = n == 0
is_zero (negsuc n) = false

-- a rule for all packets has a place of its own among the rules
unfoldable pub may_be_for_all : Rich → Bool
may_be_for_all rule = is_some rule.element || is_some rule.source || is_some rule.dest || not (is_zero rule.priority)

-- the parts go together
abbrev pub fits_together : Rich → Bool
fits_together rule = does_one_thing rule && audits_a_verdict rule && rejects_fit rule.family rule.action && may_be_for_all rule
