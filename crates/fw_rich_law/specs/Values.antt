-- The values that the parts of a rich rule can have (firewalld.richlanguage(5)): what the types of the parts hold, and
-- names that are well formed. Which parts may stand beside one another is a matter of its own.
use Rattle.std.specs.Prelude.{◌≤◌, ◌<◌, ◌^◌, IsTrue}
use Rattle.fw_addr.specs.Ports.{Range}
use Rattle.fw_addr.specs.Subnets.{Subnet, bits, is_subnet, width}
use Rattle.fw_addr.specs.WellFormed.{is_name}
use Rattle.fw_addr.specs.declared.addr.Addr.{Addr}
use Rattle.fw_model.specs.declared.binding.Binding.{Binding}
use Rattle.fw_model.specs.declared.binding.Binding.TheVariants as binding
use Rattle.fw_model.specs.declared.forward.Forward.{Forward}
use Rattle.fw_model.specs.declared.rich.Act.{Act}
use Rattle.fw_model.specs.declared.rich.Act.TheVariants as act
use Rattle.fw_model.specs.declared.rich.Action.{Action}
use Rattle.fw_model.specs.declared.rich.Element.{Element}
use Rattle.fw_model.specs.declared.rich.Element.TheVariants as element
use Rattle.fw_model.specs.declared.rich.Rich.{Rich}
use Rattle.fw_model.specs.declared.rich.Side.{Side}
use Rattle.fw_valid.specs.Each.{IfThere}

-- an address has as many bits as its family says
abbrev pub IsAddress : Addr → Type 0
IsAddress address = bits address < 2 ^ width address

-- no bit is set behind a net's prefix
abbrev pub IsNet : Subnet → Type 0
IsNet net = IsTrue (is_subnet net) × IsAddress net.address

-- a net, 48 bits, or a name
abbrev pub IsBinding : Binding → Type 0
IsBinding (binding.Net net) = IsNet net
IsBinding (binding.Mac address) = address < 2 ^ 48
IsBinding (binding.Set name) = IsTrue (is_name name)

-- ports have 16 bits, and the first isn't above the last
abbrev pub IsRange : Range → Type 0
IsRange range = (range.first ≤ range.last) × (range.last < 2 ^ 16)

abbrev pub IsForward : Forward → Type 0
IsForward forward = IsRange forward.port.range × IfThere (λ port. port < 2 ^ 16) forward.to_port × IfThere IsAddress forward.to_addr

-- the names of ICMP types are told by their table
abbrev pub IsElement : Element → Type 0
IsElement (element.Service name) = IsTrue (is_name name)
IsElement (element.Port port) = IsRange port.range
IsElement (element.Protocol protocol) = protocol < 2 ^ 8
IsElement (element.IcmpBlock name) = Unit {0}
IsElement (element.IcmpType name) = Unit {0}
IsElement element.Masquerade = Unit {0}
IsElement (element.SourcePort port) = IsRange port.range
IsElement (element.Forward forward) = IsForward forward

-- marks and their masks have 32 bits
abbrev pub IsAct : Act → Type 0
IsAct act.Accept = Unit {0}
IsAct (act.Reject kind) = Unit {0}
IsAct act.Drop = Unit {0}
IsAct (act.Mark value mask) = (value < 2 ^ 32) × (mask < 2 ^ 32)

-- the values of a rule
pub record HasValues (rule : Rich) : Type 0 where
  pub source : IfThere (λ (side : Side). IsBinding side.what) rule.source
  pub destination : IfThere (λ (side : Side). IsBinding side.what) rule.dest
  pub element : IfThere IsElement rule.element
  pub action : IfThere (λ (action : Action). IsAct action.act) rule.action
