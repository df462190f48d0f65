-- The parts that a rule's pieces are read as, each with the rest of the pieces behind it.
use Rattle.std.proofs.Common.{ℕ, if◌then◌else◌, List, [], ◌∷◌, ◌++◌, Option, None, Some, ℤ, codes, decimal}
use Rattle.std.specs.Fmt.{signed_decimal}
use Rattle.fw_addr.specs.Canonical.{address_text}
use Rattle.fw_addr.specs.Names.{level_text, reject_text}
use Rattle.fw_addr.specs.Ports.{ports_text}
use Rattle.fw_addr.specs.Protocols.{port_proto_text, proto_text}
use Rattle.fw_addr.specs.declared.addr.Addr.{Addr}
use Rattle.fw_addr.specs.declared.limit.Limit.{Limit}
use Rattle.fw_addr.specs.declared.log.Level.{Level}
use Rattle.fw_model.specs.declared.binding.Binding.{Binding}
use Rattle.fw_model.specs.declared.binding.Binding.TheVariants as bindings
use Rattle.fw_model.specs.declared.forward.Forward.{Forward}
use Rattle.fw_model.specs.declared.port.Port.{Port}
use Rattle.fw_model.specs.declared.rich.Act.{Act}
use Rattle.fw_model.specs.declared.rich.Act.TheVariants as acts
use Rattle.fw_model.specs.declared.rich.Action.{Action}
use Rattle.fw_model.specs.declared.rich.Element.{Element}
use Rattle.fw_model.specs.declared.rich.Element.TheVariants as elements
use Rattle.fw_model.specs.declared.rich.Rich.{Rich}
use Rattle.fw_model.specs.declared.rich.RichLog.{RichLog}
use Rattle.fw_model.specs.declared.rich.Side.{Side}
use Rattle.fw_rich.specs.Canonical.{hex_text, is_warning, mask_text, rate_text}
use Rattle.fw_rich.specs.Refusals.{is_zero}
use Rattle.fw_rich.specs.Tokens.{Written}
use Rattle.fw_rich.specs.declared.parts.ActParts.{ActParts}
use Rattle.fw_rich.specs.declared.parts.ActParts.TheVariants as act
use Rattle.fw_rich.specs.declared.parts.ActionParts.{ActionParts}
use Rattle.fw_rich.specs.declared.parts.AuditParts.{AuditParts}
use Rattle.fw_rich.specs.declared.parts.ElementParts.{ElementParts}
use Rattle.fw_rich.specs.declared.parts.ElementParts.TheVariants as part
use Rattle.fw_rich.specs.declared.parts.ForwardParts.{ForwardParts}
use Rattle.fw_rich.specs.declared.parts.LogParts.{LogParts}
use Rattle.fw_rich.specs.declared.parts.PortParts.{PortParts}
use Rattle.fw_rich.specs.declared.parts.RuleParts.{RuleParts}
use Rattle.fw_rich.specs.declared.parts.SideKey.{SideKey}
use Rattle.fw_rich.specs.declared.parts.SideKey.TheVariants.{Address, Mac, Ipset}
use Rattle.fw_rich.specs.declared.parts.SideParts.{SideParts}
use Rattle.fw_rich_law.proofs.Canons.{action_pieces, audit_on, binding_key, binding_value, dest_on, element_on, family_on, forward_pieces, level_pieces, limit_pieces, log_on, to_addr_pieces, to_port_pieces}
use Rattle.fw_rich_law.proofs.Pieces.{Piece}
use Rattle.fw_rich_law.proofs.Pieces.Piece.{Word, Pair}

abbrev pub side_key : Binding → SideKey
side_key (bindings.Net net) = Address
side_key (bindings.Mac mac) = Mac
side_key (bindings.Set name) = Ipset

module _ (at place : List Piece → ℕ) where
  -- the value of a pair
  abbrev pub given : (key value : List ℕ) → List Piece → Written
  given key value rest = record { place = place (Pair key value ∷ rest); text = value }

  abbrev pub priority_part : ℤ → List Piece → Option Written
  priority_part priority rest = if is_zero priority then None else Some (given (codes "priority") (signed_decimal priority) rest)

  abbrev pub side_parts : Side → List Piece → SideParts
  side_parts side rest = record { not = side.not; name = record { key = side_key side.what; value = given (binding_key side.what) (binding_value side.what) rest } }

  abbrev pub source_part : Option Side → List Piece → Option SideParts
  source_part None rest = None
  source_part (Some side) rest = Some (side_parts side rest)

  abbrev pub port_parts : Port → List Piece → PortParts
  port_parts port rest =
      record {
        port = given (codes "port") (ports_text port.range) (Pair (codes "protocol") (port_proto_text port.proto) ∷ rest);
        protocol = given (codes "protocol") (port_proto_text port.proto) rest;
      }

  abbrev pub to_port_part : Option ℕ → List Piece → Option Written
  to_port_part None rest = None
  to_port_part (Some port) rest = Some (given (codes "to-port") (decimal port) rest)

  abbrev pub to_addr_part : Option Addr → List Piece → Option Written
  to_addr_part None rest = None
  to_addr_part (Some addr) rest = Some (given (codes "to-addr") (address_text addr) rest)

  abbrev pub forward_parts : Forward → List Piece → ForwardParts
  forward_parts forward rest =
      record {
        offset = at (Word (codes "forward-port") ∷ forward_pieces forward ++ rest);
        from = port_parts forward.port (to_port_pieces forward.to_port ++ to_addr_pieces forward.to_addr ++ rest);
        to_port = to_port_part forward.to_port (to_addr_pieces forward.to_addr ++ rest);
        to_addr = to_addr_part forward.to_addr rest;
      }

  abbrev pub element_part : Option Element → List Piece → Option ElementParts
  element_part None rest = None
  element_part (Some (elements.Service name)) rest = Some (part.Service (given (codes "name") name rest))
  element_part (Some (elements.Port port)) rest = Some (part.Port (port_parts port rest))
  element_part (Some (elements.Protocol protocol)) rest = Some (part.Protocol (given (codes "value") (proto_text protocol) rest))
  element_part (Some (elements.IcmpBlock name)) rest = Some (part.IcmpBlock (given (codes "name") name rest))
  element_part (Some (elements.IcmpType name)) rest = Some (part.IcmpType (given (codes "name") name rest))
  element_part (Some elements.Masquerade) rest = Some part.Masquerade
  element_part (Some (elements.SourcePort port)) rest = Some (part.SourcePort (port_parts port rest))
  element_part (Some (elements.Forward forward)) rest = Some (part.Forward (forward_parts forward rest))

  abbrev pub limit_part : Option Limit → List Piece → Option Written
  limit_part None rest = None
  limit_part (Some limit) rest = Some (given (codes "value") (rate_text limit) rest)

  abbrev pub prefix_part : List ℕ → List Piece → Option Written
  prefix_part [] rest = None
  prefix_part (byte ∷ prefix) rest = Some (given (codes "prefix") (byte ∷ prefix) rest)

  abbrev pub level_part : Level → List Piece → Option Written
  level_part level rest = if is_warning level then None else Some (given (codes "level") (level_text level) rest)

  abbrev pub log_parts : RichLog → List Piece → LogParts
  log_parts log rest =
      record {
        prefix = prefix_part log.prefix (level_pieces log.level ++ limit_pieces log.limit ++ rest);
        level = level_part log.level (limit_pieces log.limit ++ rest);
        limit = limit_part log.limit rest;
      }

  abbrev pub log_part : Option RichLog → List Piece → Option LogParts
  log_part None rest = None
  log_part (Some log) rest = Some (log_parts log rest)

  abbrev pub audit_part : Option (Option Limit) → List Piece → Option AuditParts
  audit_part None rest = None
  audit_part (Some limit) rest = Some (record { limit = limit_part limit rest })

  abbrev pub act_parts : Act → List Piece → ActParts
  act_parts acts.Accept rest = act.Accept
  act_parts (acts.Reject None) rest = act.Reject None
  act_parts (acts.Reject (Some kind)) rest = act.Reject (Some (given (codes "type") (reject_text kind) rest))
  act_parts acts.Drop rest = act.Drop
  act_parts (acts.Mark value mask) rest = act.Mark (given (codes "set") (hex_text value ++ mask_text mask) rest)

  abbrev pub action_parts : Action → ActionParts
  action_parts action = record { act = act_parts action.act (limit_pieces action.limit); limit = limit_part action.limit [] }

  abbrev pub action_part : Option Action → Option ActionParts
  action_part None = None
  action_part (Some action) = Some (action_parts action)

  abbrev pub parts_of_rule : Rich → RuleParts
  parts_of_rule rule =
      record {
        family = rule.family;
        priority = priority_part rule.priority (family_on rule);
        source = source_part rule.source (dest_on rule);
        dest = source_part rule.dest (element_on rule);
        element = element_part rule.element (log_on rule);
        log = log_part rule.log (audit_on rule);
        audit = audit_part rule.audit (action_pieces rule.action);
        action = action_part rule.action;
      }
