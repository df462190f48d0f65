-- The one canonical text of a rich rule: its parts in the order of the grammar, one blank between tokens, all values in
-- double quotes, and nothing that goes without saying.
use Rattle.std.specs.Prelude.{ℕ, ◌==◌, Bool, true, false, codes, decimal, if◌then◌else◌, List, [], ◌∷◌, ◌++◌, Option, None, Some, ℤ}
use Rattle.std.specs.Fmt.{digits, signed_decimal}
use Rattle.fw_addr.specs.Canonical.{address_text}
use Rattle.fw_addr.specs.Hardware.{mac_text}
use Rattle.fw_addr.specs.Names.{family_text, level_text, reject_text, unit_letter}
use Rattle.fw_addr.specs.Nets.{net_text}
use Rattle.fw_addr.specs.Ports.{ports_text}
use Rattle.fw_addr.specs.Protocols.{port_proto_text, proto_text}
use Rattle.fw_addr.specs.declared.addr.Addr.{Addr}
use Rattle.fw_addr.specs.declared.limit.Limit.{Limit}
use Rattle.fw_addr.specs.declared.log.Level.{Level}
use Rattle.fw_addr.specs.declared.log.Level.TheVariants.{Emerg, Alert, Crit, Error, Warning, Notice, Info, Debug}
use Rattle.fw_addr.specs.declared.packet.Family.{Family}
use Rattle.fw_addr.specs.declared.reject.RejectType.{RejectType}
use Rattle.fw_model.specs.declared.binding.Binding.{Binding}
use Rattle.fw_model.specs.declared.binding.Binding.TheVariants as bindings
use Rattle.fw_model.specs.declared.forward.Forward.{Forward}
use Rattle.fw_model.specs.declared.port.Port.{Port}
use Rattle.fw_model.specs.declared.rich.Act.{Act}
use Rattle.fw_model.specs.declared.rich.Act.TheVariants as acts
use Rattle.fw_model.specs.declared.rich.Action.{Action}
use Rattle.fw_model.specs.declared.rich.Element.{Element}
use Rattle.fw_model.specs.declared.rich.Element.TheVariants as elements
use Rattle.fw_model.specs.declared.rich.Rich.{Rich}
use Rattle.fw_model.specs.declared.rich.RichLog.{RichLog}
use Rattle.fw_model.specs.declared.rich.Side.{Side}
use Rattle.fw_rich.specs.Numbers.{all_ones}
use Rattle.fw_rich.specs.Refusals.{is_zero}

-- a blank, the key, `=` (61) and the value in double quotes (34)
abbrev pub pair_text : (key value : List ℕ) → List ℕ
pair_text key value = 32 ∷ key ++ 61 ∷ 34 ∷ value ++ 34 ∷ []

-- only if it isn't 0
unfoldable pub priority_text : ℤ → List ℕ
priority_text priority = if is_zero priority then [] else pair_text (codes "priority") (signed_decimal priority)

unfoldable pub family_part : Option Family → List ℕ
family_part None = []
family_part (Some family) = pair_text (codes "family") (family_text family)

abbrev pub not_text : Bool → List ℕ
not_text true = codes " NOT"
not_text false = []

unfoldable pub binding_text : Binding → List ℕ
binding_text (bindings.Net net) = pair_text (codes "address") (net_text net)
binding_text (bindings.Mac mac) = pair_text (codes "mac") (mac_text mac)
binding_text (bindings.Set name) = pair_text (codes "ipset") name

-- behind a word
unfoldable pub side_text : (word : List ℕ) → Option Side → List ℕ
side_text word None = []
side_text word (Some side) = 32 ∷ word ++ not_text side.not ++ binding_text side.what

unfoldable pub port_text : Port → List ℕ
port_text port = pair_text (codes "port") (ports_text port.range) ++ pair_text (codes "protocol") (port_proto_text port.proto)

abbrev pub to_port_text : Option ℕ → List ℕ
to_port_text None = []
to_port_text (Some port) = pair_text (codes "to-port") (decimal port)

abbrev pub to_addr_text : Option Addr → List ℕ
to_addr_text None = []
to_addr_text (Some addr) = pair_text (codes "to-addr") (address_text addr)

unfoldable pub forward_text : Forward → List ℕ
forward_text forward = port_text forward.port ++ to_port_text forward.to_port ++ to_addr_text forward.to_addr

unfoldable pub element_text : Option Element → List ℕ
element_text None = []
element_text (Some (elements.Service name)) = codes " service" ++ pair_text (codes "name") name
element_text (Some (elements.Port port)) = codes " port" ++ port_text port
element_text (Some (elements.Protocol protocol)) = codes " protocol" ++ pair_text (codes "value") (proto_text protocol)
element_text (Some (elements.IcmpBlock name)) = codes " icmp-block" ++ pair_text (codes "name") name
element_text (Some (elements.IcmpType name)) = codes " icmp-type" ++ pair_text (codes "name") name
element_text (Some elements.Masquerade) = codes " masquerade"
element_text (Some (elements.SourcePort port)) = codes " source-port" ++ port_text port
element_text (Some (elements.Forward forward)) = codes " forward-port" ++ forward_text forward

-- how often: a count, `/` (47) and the letter of a unit
abbrev pub rate_text : Limit → List ℕ
rate_text limit = decimal limit.count ++ 47 ∷ unit_letter limit.unit

unfoldable pub limit_text : Option Limit → List ℕ
limit_text None = []
limit_text (Some limit) = codes " limit" ++ pair_text (codes "value") (rate_text limit)

-- only if it isn't empty
unfoldable pub prefix_text : List ℕ → List ℕ
prefix_text [] = []
prefix_text (byte ∷ prefix) = pair_text (codes "prefix") (byte ∷ prefix)

abbrev pub is_warning : Level → Bool
is_warning Emerg = false
is_warning Alert = false
is_warning Crit = false
is_warning Error = false
is_warning Warning = true
is_warning Notice = false
is_warning Info = false
is_warning Debug = false

-- only if it isn't warning
unfoldable pub level_part : Level → List ℕ
level_part level = if is_warning level then [] else pair_text (codes "level") (level_text level)

unfoldable pub log_text : Option RichLog → List ℕ
log_text None = []
log_text (Some log) = codes " log" ++ prefix_text log.prefix ++ level_part log.level ++ limit_text log.limit

unfoldable pub audit_text : Option (Option Limit) → List ℕ
audit_text None = []
audit_text (Some limit) = codes " audit" ++ limit_text limit

-- `0x` (48 and 120) and digits in lower case without leading zeros
abbrev pub hex_text : ℕ → List ℕ
hex_text n = 48 ∷ 120 ∷ digits 16 false n

-- a mask that is all ones isn't written
abbrev pub mask_text : ℕ → List ℕ
mask_text mask = if mask == all_ones then [] else 47 ∷ hex_text mask

unfoldable pub act_text : Act → List ℕ
act_text acts.Accept = codes " accept"
act_text (acts.Reject None) = codes " reject"
act_text (acts.Reject (Some kind)) = codes " reject" ++ pair_text (codes "type") (reject_text kind)
act_text acts.Drop = codes " drop"
act_text (acts.Mark value mask) = codes " mark" ++ pair_text (codes "set") (hex_text value ++ mask_text mask)

unfoldable pub action_text : Option Action → List ℕ
action_text None = []
action_text (Some action) = act_text action.act ++ limit_text action.limit

-- the canonical text of a rule
unfoldable pub canon : Rich → List ℕ
canon rule =
    codes "rule" ++ priority_text rule.priority ++ family_part rule.family ++ side_text (codes "source") rule.source
    ++ side_text (codes "destination") rule.dest ++ element_text rule.element ++ log_text rule.log ++ audit_text rule.audit
    ++ action_text rule.action
