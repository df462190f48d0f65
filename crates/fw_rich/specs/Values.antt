-- What the values of a rule say. The first bad value in order of the text refuses the rule.
use Rattle.std.specs.Prelude.{ℕ, nat_lt, if◌then◌else◌, List, [], Option, None, Some, Result, Ok, Err, ℤ, pos, unwrap_or, ◌≡◌}
use Rattle.std.specs.Option.{ok_or}
use Rattle.fw_text.specs.Names.{named}
use Rattle.fw_addr.specs.Addresses.{address}
use Rattle.fw_addr.specs.Hardware.{mac}
use Rattle.fw_addr.specs.Nets.{net}
use Rattle.fw_addr.specs.Ports.{Range, port, port_range}
use Rattle.fw_addr.specs.Protocols.{port_proto, proto}
use Rattle.fw_addr.specs.Subnets.{Subnet}
use Rattle.fw_addr.specs.declared.addr.Addr.{Addr}
use Rattle.fw_addr.specs.declared.limit.Limit.{Limit}
use Rattle.fw_addr.specs.declared.log.Level.{Level}
use Rattle.fw_addr.specs.declared.log.Level.TheVariants.{Warning}
use Rattle.fw_addr.specs.declared.proto.PortProto.{PortProto}
use Rattle.fw_addr.specs.declared.reject.RejectType.{RejectType}
use Rattle.fw_limit.specs.Limits.{limit}
use Rattle.fw_model.specs.declared.binding.Binding.{Binding}
use Rattle.fw_model.specs.declared.binding.Binding.TheVariants as bindings
use Rattle.fw_model.specs.declared.code.Code.{Code}
use Rattle.fw_model.specs.declared.code.Code.TheVariants.{InvalidAddr, InvalidForward, InvalidIcmptype, InvalidIpset, InvalidPort, InvalidPriority, InvalidProtocol, InvalidService, InvalidValue}
use Rattle.fw_model.specs.declared.forward.Forward.{Forward}
use Rattle.fw_model.specs.declared.port.Port.{Port}
use Rattle.fw_model.specs.declared.rich.Act.{Act}
use Rattle.fw_model.specs.declared.rich.Act.TheVariants as acts
use Rattle.fw_model.specs.declared.rich.Action.{Action}
use Rattle.fw_model.specs.declared.rich.Element.{Element}
use Rattle.fw_model.specs.declared.rich.Element.TheVariants as elements
use Rattle.fw_model.specs.declared.rich.Rich.{Rich}
use Rattle.fw_model.specs.declared.rich.RichLog.{RichLog}
use Rattle.fw_model.specs.declared.rich.Side.{Side}
use Rattle.fw_rich.specs.Names.{icmp_name, levels, name, prefix, reject_types}
use Rattle.fw_rich.specs.Numbers.{mark, priority}
use Rattle.fw_rich.specs.Tokens.{Written}
use Rattle.fw_rich.specs.declared.error.BadValue.{BadValue}
use Rattle.fw_rich.specs.declared.error.ValueError.{ValueError}
use Rattle.fw_rich.specs.declared.error.ValueError.TheVariants as error
use Rattle.fw_rich.specs.declared.parts.ActParts.{ActParts}
use Rattle.fw_rich.specs.declared.parts.ActParts.TheVariants as act
use Rattle.fw_rich.specs.declared.parts.ActionParts.{ActionParts}
use Rattle.fw_rich.specs.declared.parts.AuditParts.{AuditParts}
use Rattle.fw_rich.specs.declared.parts.ElementParts.{ElementParts}
use Rattle.fw_rich.specs.declared.parts.ElementParts.TheVariants as part
use Rattle.fw_rich.specs.declared.parts.ForwardParts.{ForwardParts}
use Rattle.fw_rich.specs.declared.parts.LogParts.{LogParts}
use Rattle.fw_rich.specs.declared.parts.PortParts.{PortParts}
use Rattle.fw_rich.specs.declared.parts.RuleParts.{RuleParts}
use Rattle.fw_rich.specs.declared.parts.SideKey.{SideKey}
use Rattle.fw_rich.specs.declared.parts.SideKey.TheVariants.{Address, Mac, Ipset}
use Rattle.fw_rich.specs.declared.parts.SideParts.{SideParts}

-- What a value says, or the value that is refused.
abbrev pub Said : Type 0 → Type 0
Said X = Result X BadValue

abbrev pub said_and_then : {X Y : Type 0} → (X → Said Y) → Said X → Said Y
said_and_then next (Ok x) = next x
said_and_then next (Err bad) = Err bad

infixl 10 ◌>>=◌
-- one value behind another in the text: `do` goes through them
abbrev pub ◌>>=◌ : {X Y : Type 0} → Said X → (X → Said Y) → Said Y
said >>= next = said_and_then next said

-- a value that is absent says nothing
abbrev pub maybe : {X Y : Type 0} → (X → Said Y) → Option X → Said (Option Y)
maybe reading None = Ok None
maybe reading (Some x) = do
  y ← reading x
  Ok (Some y)

-- of two bad values the one that stands first
abbrev pub first_bad : BadValue → BadValue → BadValue
first_bad a b = if nat_lt b.place a.place then b else a

-- two values of one part, which stand in either order
abbrev pub both : {X Y : Type 0} → Said X → Said Y → Said (X × Y)
both (Ok x) (Ok y) = Ok (x, y)
both (Ok x) (Err bad) = Err bad
both (Err bad) (Ok y) = Err bad
both (Err a) (Err b) = Err (first_bad a b)

abbrev pub bad : Code → Written → BadValue
bad code value = record { code = code; place = value.place }

-- a value by what its text says, and why it is refused where that is nothing
abbrev pub said_by : {X : Type 0} → Code → (List ℕ → Option X) → Written → Said X
said_by code reading value = ok_or (reading value.text) (bad code value)

-- One definition for each kind of value.
unfoldable pub priority_said : Written → Said ℤ
priority_said value = said_by InvalidPriority priority value

unfoldable pub net_said : Written → Said Subnet
net_said value = said_by InvalidAddr net value

unfoldable pub mac_said : Written → Said ℕ
mac_said value = said_by InvalidAddr mac value

unfoldable pub ipset_said : Written → Said (List ℕ)
ipset_said value = said_by InvalidIpset name value

unfoldable pub service_said : Written → Said (List ℕ)
service_said value = said_by InvalidService name value

unfoldable pub ports_said : Written → Said Range
ports_said value = said_by InvalidPort port_range value

unfoldable pub port_proto_said : Written → Said PortProto
port_proto_said value = said_by InvalidProtocol port_proto value

unfoldable pub proto_said : Written → Said ℕ
proto_said value = said_by InvalidProtocol proto value

unfoldable pub icmp_said : Written → Said (List ℕ)
icmp_said value = said_by InvalidIcmptype icmp_name value

unfoldable pub to_port_said : Written → Said ℕ
to_port_said value = said_by InvalidForward port value

unfoldable pub to_addr_said : Written → Said Addr
to_addr_said value = said_by InvalidAddr address value

unfoldable pub prefix_said : Written → Said (List ℕ)
prefix_said value = said_by InvalidValue prefix value

unfoldable pub level_said : Written → Said Level
level_said value = said_by InvalidValue (named levels) value

unfoldable pub limit_said : Written → Said Limit
limit_said value = said_by InvalidValue limit value

unfoldable pub reject_said : Written → Said RejectType
reject_said value = said_by InvalidValue (named reject_types) value

unfoldable pub mark_said : Written → Said (ℕ × ℕ)
mark_said value = said_by InvalidValue mark value

-- The parts, in the order in which they stand.
unfoldable pub binding_by : SideKey → Written → Said Binding
binding_by Address value = do
  net ← net_said value
  Ok (bindings.Net net)
binding_by Mac value = do
  mac ← mac_said value
  Ok (bindings.Mac mac)
binding_by Ipset value = do
  set ← ipset_said value
  Ok (bindings.Set set)

unfoldable pub side_of : SideParts → Said Side
side_of parts = do
  what ← binding_by parts.name.key parts.name.value
  Ok (record { not = parts.not; what = what })

unfoldable pub port_of : PortParts → Said Port
port_of parts = do
  said ← both (ports_said parts.port) (port_proto_said parts.protocol)
  Ok (record { range = said.0; proto = said.1 })

unfoldable pub target_of : ForwardParts → Said (Option ℕ × Option Addr)
target_of parts = both (maybe to_port_said parts.to_port) (maybe to_addr_said parts.to_addr)

unfoldable pub forward_of : ForwardParts → Said Forward
forward_of parts = do
  said ← both (port_of parts.from) (target_of parts)
  Ok (record { port = said.0; to_port = said.1.0; to_addr = said.1.1 })

unfoldable pub element_of : ElementParts → Said Element
element_of (part.Service value) = do
  name ← service_said value
  Ok (elements.Service name)
element_of (part.Port parts) = do
  port ← port_of parts
  Ok (elements.Port port)
element_of (part.Protocol value) = do
  protocol ← proto_said value
  Ok (elements.Protocol protocol)
element_of (part.IcmpBlock value) = do
  name ← icmp_said value
  Ok (elements.IcmpBlock name)
element_of (part.IcmpType value) = do
  name ← icmp_said value
  Ok (elements.IcmpType name)
element_of part.Masquerade = Ok elements.Masquerade
element_of (part.SourcePort parts) = do
  port ← port_of parts
  Ok (elements.SourcePort port)
element_of (part.Forward parts) = do
  forward ← forward_of parts
  Ok (elements.Forward forward)

-- without a prefix the empty one, without a level warning
unfoldable pub log_of : LogParts → Said RichLog
log_of parts = do
  said ← both (maybe prefix_said parts.prefix) (maybe level_said parts.level)
  limit ← maybe limit_said parts.limit
  Ok (record { prefix = unwrap_or said.0 []; level = unwrap_or said.1 Warning; limit = limit })

unfoldable pub audit_of : AuditParts → Said (Option Limit)
audit_of parts = maybe limit_said parts.limit

unfoldable pub act_of : ActParts → Said Act
act_of act.Accept = Ok acts.Accept
act_of (act.Reject kind) = do
  kind ← maybe reject_said kind
  Ok (acts.Reject kind)
act_of act.Drop = Ok acts.Drop
act_of (act.Mark value) = do
  mark ← mark_said value
  Ok (acts.Mark mark.0 mark.1)

unfoldable pub action_of : ActionParts → Said Action
action_of parts = do
  act ← act_of parts.act
  limit ← maybe limit_said parts.limit
  Ok (record { act = act; limit = limit })

-- without a priority 0
unfoldable pub priority_of : Option Written → Said ℤ
priority_of value = do
  priority ← maybe priority_said value
  Ok (unwrap_or priority (pos 0))

unfoldable pub rule_of : RuleParts → Said Rich
rule_of parts = do
  priority ← priority_of parts.priority
  source ← maybe side_of parts.source
  dest ← maybe side_of parts.dest
  element ← maybe element_of parts.element
  log ← maybe log_of parts.log
  audit ← maybe audit_of parts.audit
  action ← maybe action_of parts.action
  Ok (record { priority = priority; family = parts.family; source = source; dest = dest; element = element; log = log; audit = audit; action = action })

-- What code reads of values: what they say, the first one that is refused, or want of memory.
abbrev pub Says : {X : Type 0} → Result X ValueError → Said X → Type 0
Says (Ok x) said = said ≡ Ok x
Says (Err (error.Bad bad)) said = said ≡ Err bad
Says (Err error.Memory) said = Unit {0}
