-- The parts of a rule say its values.
use Rattle.std.proofs.Common.{◌≡◌, ℕ, ◌<◌, ◌^◌, nat_le, Bool, true, false, if◌then◌else◌, List, [], ◌∷◌, ◌++◌, Option, None, Some, Ok, ℤ, pos, negsuc, IsTrue, codes, length, refl, sym, ap, arith, eqb-true}
use Rattle.std.specs.Fmt.{signed_decimal}
use Rattle.std.proofs.lemmas.Bool.{and_parts, false≢true}
use Rattle.fw_addr.specs.Names.{level_text, reject_text}
use Rattle.fw_addr.specs.WellFormed.{is_name}
use Rattle.fw_addr.specs.declared.addr.Addr.{Addr}
use Rattle.fw_addr.specs.declared.limit.Limit.{Limit}
use Rattle.fw_addr.specs.declared.log.Level.{Level}
use Rattle.fw_addr.specs.declared.log.Level.TheVariants as levels_of
use Rattle.fw_addr.specs.declared.packet.Family.{Family}
use Rattle.fw_addr.specs.declared.packet.Family.TheVariants as families
use Rattle.fw_addr.specs.declared.reject.RejectType.{RejectType}
use Rattle.fw_addr.specs.declared.reject.RejectType.TheVariants as rejects
use Rattle.fw_model.specs.declared.binding.Binding.{Binding}
use Rattle.fw_model.specs.declared.binding.Binding.TheVariants as bindings
use Rattle.fw_model.specs.declared.forward.Forward.{Forward}
use Rattle.fw_model.specs.declared.port.Port.{Port}
use Rattle.fw_model.specs.declared.rich.Act.{Act}
use Rattle.fw_model.specs.declared.rich.Act.TheVariants as acts
use Rattle.fw_model.specs.declared.rich.Action.{Action}
use Rattle.fw_model.specs.declared.rich.Element.{Element}
use Rattle.fw_model.specs.declared.rich.Element.TheVariants as elements
use Rattle.fw_model.specs.declared.rich.Rich.{Rich}
use Rattle.fw_model.specs.declared.rich.RichLog.{RichLog}
use Rattle.fw_model.specs.declared.rich.Side.{Side}
use Rattle.fw_rich.specs.Canonical.{is_warning}
use Rattle.fw_rich.specs.Names.{icmp_name, levels, name, prefix, reject_types}
use Rattle.fw_rich.specs.Refusals.{is_zero}
use Rattle.fw_rich.specs.Values.{act_of, action_of, audit_of, binding_by, element_of, forward_of, icmp_said, ipset_said, level_said, limit_said, log_of, mac_said, mark_said, maybe, net_said, port_of, port_proto_said, ports_said, prefix_said, priority_of, priority_said, proto_said, reject_said, rule_of, service_said, side_of, target_of, to_addr_said, to_port_said}
use Rattle.fw_rich_law.proofs.Canons.{action_pieces, audit_on, dest_on, element_on, family_on, level_pieces, limit_pieces, log_on, to_addr_pieces, to_port_pieces}
use Rattle.fw_rich_law.proofs.Parts as parts
use Rattle.fw_rich_law.proofs.Pieces.{Piece}
use Rattle.fw_rich_law.proofs.Reading.{Printed, limit_read, mark_read, number_read, priority_read}
use Rattle.fw_rich_law.specs.Values.{HasValues, IsAct, IsAddress, IsBinding, IsElement, IsForward, IsRange}
use Rattle.fw_text.specs.Names.{named}
use Rattle.fw_valid.specs.Each.{IfThere}
use Rattle.fw_valid.specs.Riches.{HasType, IsLimit, IsPriority, IsRich, MayDo, MayHave, is_prefix, is_reject_of}

level_named : (level : Level) → named levels (level_text level) ≡ Some level
level_named levels_of.Emerg = refl
level_named levels_of.Alert = refl
level_named levels_of.Crit = refl
level_named levels_of.Error = refl
level_named levels_of.Warning = refl
level_named levels_of.Notice = refl
level_named levels_of.Info = refl
level_named levels_of.Debug = refl

level_or_warning : (level : Level) → is_warning level ≡ true → levels_of.Warning ≡ level
level_or_warning levels_of.Emerg is = absurd (false≢true is)
level_or_warning levels_of.Alert is = absurd (false≢true is)
level_or_warning levels_of.Crit is = absurd (false≢true is)
level_or_warning levels_of.Error is = absurd (false≢true is)
level_or_warning levels_of.Warning is = refl
level_or_warning levels_of.Notice is = absurd (false≢true is)
level_or_warning levels_of.Info is = absurd (false≢true is)
level_or_warning levels_of.Debug is = absurd (false≢true is)

zero_is : (priority : ℤ) → is_zero priority ≡ true → pos 0 ≡ priority
zero_is (pos n) is = ap pos (sym (eqb-true n 0 is))
zero_is (negsuc n) is = absurd (false≢true is)

-- the types of a family are those of the table
reject_named : (family : Family) (kind : RejectType) → is_reject_of family kind ≡ true → named reject_types (reject_text kind) ≡ Some kind
reject_named family rejects.IcmpNetUnreachable is = refl
reject_named family rejects.IcmpHostUnreachable is = refl
reject_named family rejects.IcmpPortUnreachable is = refl
reject_named family rejects.IcmpProtoUnreachable is = refl
reject_named family rejects.IcmpNetProhibited is = refl
reject_named family rejects.IcmpHostProhibited is = refl
reject_named family rejects.IcmpAdminProhibited is = refl
reject_named family rejects.Icmp6NoRoute is = refl
reject_named family rejects.Icmp6AddrUnreachable is = refl
reject_named family rejects.Icmp6PortUnreachable is = refl
reject_named family rejects.Icmp6AdmProhibited is = refl
reject_named family rejects.TcpReset is = refl
reject_named families.V4 rejects.IcmpxAdminProhibited is = absurd (false≢true is)
reject_named families.V6 rejects.IcmpxAdminProhibited is = absurd (false≢true is)
reject_named families.V4 rejects.IcmpxPortUnreachable is = absurd (false≢true is)
reject_named families.V6 rejects.IcmpxPortUnreachable is = absurd (false≢true is)

name_read : (text : List ℕ) → IsTrue (is_name text) → name text ≡ Some text
unfolding name
name_read text is = rw is refl

icmp_read : (of : Option Family) (text : List ℕ) → HasType of text → icmp_name text ≡ Some text
unfolding icmp_name
icmp_read of text has = rw has.1 refl

prefix_read : (text : List ℕ) → IsTrue (is_prefix text) → prefix text ≡ Some text
unfolding prefix
prefix_read text is = rw (and_parts (nat_le (length text) 127) _ is).0 refl

module _ (at place : List Piece → ℕ) (printed : Printed) where
  priority_says : (priority : ℤ) (rest : List Piece) → IsPriority priority → priority_of (parts.priority_part at place priority rest) ≡ Ok priority
  unfolding priority_of priority_said
  priority_says priority rest is = by (is_zero priority) refl
    where
      by : (zero : Bool) → is_zero priority ≡ zero
          → priority_of (if zero then None else Some (parts.given at place (codes "priority") (signed_decimal priority) rest)) ≡ Ok priority
      by true none = ap Ok (zero_is priority none)
      by false some = rw (priority_read printed priority is) refl

  side_says : (side : Side) (rest : List Piece) → IsBinding side.what → side_of (parts.side_parts at place side rest) ≡ Ok side
  unfolding side_of binding_by net_said mac_said ipset_said
  side_says side rest is = by side.what is
    where
      by : (what : Binding) → IsBinding what → let whole : Side = record { not = side.not; what = what } in side_of (parts.side_parts at place whole rest) ≡ Ok whole
      by (bindings.Net net) is = rw (printed.nets net is.0 is.1) refl
      by (bindings.Mac mac) is = rw (printed.macs mac is) refl
      by (bindings.Set set) is = rw (name_read set is) refl

  source_says : (side : Option Side) (rest : List Piece) → IfThere (λ (side : Side). IsBinding side.what) side → maybe side_of (parts.source_part at place side rest) ≡ Ok side
  source_says None rest is = refl
  source_says (Some side) rest is = rw (side_says side rest is) refl

  port_says : (port : Port) (rest : List Piece) → IsRange port.range → port_of (parts.port_parts at place port rest) ≡ Ok port
  unfolding port_of ports_said port_proto_said
  port_says port rest is = rw (printed.ports port.range is.0 is.1, printed.port_protocols port.proto) refl

  to_port_says : (port : Option ℕ) (rest : List Piece) → IfThere (λ port. port < 2 ^ 16) port → maybe to_port_said (parts.to_port_part at place port rest) ≡ Ok port
  unfolding to_port_said
  to_port_says None rest is = refl
  to_port_says (Some port) rest is = rw (number_read printed 65535 port (omega (arith, is)) (omega arith)) refl

  to_addr_says : (addr : Option Addr) (rest : List Piece) → IfThere IsAddress addr → maybe to_addr_said (parts.to_addr_part at place addr rest) ≡ Ok addr
  unfolding to_addr_said
  to_addr_says None rest is = refl
  to_addr_says (Some addr) rest is = rw (printed.addresses addr is) refl

  forward_says : (forward : Forward) (rest : List Piece) → IsForward forward → forward_of (parts.forward_parts at place forward rest) ≡ Ok forward
  unfolding forward_of target_of
  forward_says forward rest is =
      rw (port_says forward.port (to_port_pieces forward.to_port ++ to_addr_pieces forward.to_addr ++ rest) is.0, to_port_says forward.to_port (to_addr_pieces forward.to_addr ++ rest) is.1, to_addr_says forward.to_addr rest is.2) refl

  element_says : (of : Option Family) (element : Option Element) (rest : List Piece) → IfThere IsElement element → IfThere (MayHave of) element
      → maybe element_of (parts.element_part at place element rest) ≡ Ok element
  unfolding element_of service_said proto_said icmp_said
  element_says of None rest is may = refl
  element_says of (Some (elements.Service name)) rest is may = rw (name_read name is) refl
  element_says of (Some (elements.Port port)) rest is may = rw (port_says port rest is) refl
  element_says of (Some (elements.Protocol protocol)) rest is may = rw (printed.protocols protocol is) refl
  element_says of (Some (elements.IcmpBlock name)) rest is may = rw (icmp_read of name may) refl
  element_says of (Some (elements.IcmpType name)) rest is may = rw (icmp_read of name may) refl
  element_says of (Some elements.Masquerade) rest is may = refl
  element_says of (Some (elements.SourcePort port)) rest is may = rw (port_says port rest is) refl
  element_says of (Some (elements.Forward forward)) rest is may = rw (forward_says forward rest is) refl

  limit_says : (limit : Option Limit) (rest : List Piece) → IfThere IsLimit limit → maybe limit_said (parts.limit_part at place limit rest) ≡ Ok limit
  unfolding limit_said
  limit_says None rest is = refl
  limit_says (Some limit) rest is = rw (limit_read printed limit is) refl

  log_says : (log : Option RichLog) (rest : List Piece) → IfThere (λ (log : RichLog). IsTrue (is_prefix log.prefix)) log → IfThere (λ (log : RichLog). IfThere IsLimit log.limit) log
      → maybe log_of (parts.log_part at place log rest) ≡ Ok log
  unfolding log_of prefix_said level_said
  log_says None rest begins limited = refl
  log_says (Some log) rest begins limited = by log.prefix (is_warning log.level) begins refl
    where
      by : (prefix : List ℕ) (warning : Bool) → IsTrue (is_prefix prefix) → is_warning log.level ≡ warning → let whole : RichLog = record { prefix = prefix; level = log.level; limit = log.limit } in
          maybe log_of (Some (record {
            prefix = parts.prefix_part at place prefix (level_pieces log.level ++ limit_pieces log.limit ++ rest);
            level = if warning then None else Some (parts.given at place (codes "level") (level_text log.level) (limit_pieces log.limit ++ rest));
            limit = parts.limit_part at place log.limit rest;
          })) ≡ Ok (Some whole)
      by [] true begins is = rw (limit_says log.limit rest limited) (ap (λ level. Ok (Some (record { prefix = []; level = level; limit = log.limit }))) (level_or_warning log.level is))
      by [] false begins is = rw (level_named log.level, limit_says log.limit rest limited) refl
      by (byte ∷ prefix) true begins is = rw (prefix_read (byte ∷ prefix) begins, limit_says log.limit rest limited) (ap (λ level. Ok (Some (record { prefix = byte ∷ prefix; level = level; limit = log.limit }))) (level_or_warning log.level is))
      by (byte ∷ prefix) false begins is = rw (prefix_read (byte ∷ prefix) begins, level_named log.level, limit_says log.limit rest limited) refl

  audit_says : (audit : Option (Option Limit)) (rest : List Piece) → IfThere (IfThere IsLimit) audit → maybe audit_of (parts.audit_part at place audit rest) ≡ Ok audit
  unfolding audit_of
  audit_says None rest is = refl
  audit_says (Some limit) rest is = rw (limit_says limit rest is) refl

  act_says : (of : Option Family) (act : Act) (rest : List Piece) → IsAct act → MayDo of act → act_of (parts.act_parts at place act rest) ≡ Ok act
  unfolding act_of reject_said mark_said
  act_says of acts.Accept rest is may = refl
  act_says of (acts.Reject None) rest is may = refl
  act_says of (acts.Reject (Some kind)) rest is may = rw (reject_named may.0 kind may.2) refl
  act_says of acts.Drop rest is may = refl
  act_says of (acts.Mark value mask) rest is may = rw (mark_read value mask is.0 is.1) refl

  action_says : (of : Option Family) (action : Option Action) → IfThere (λ (action : Action). IsAct action.act) action → IfThere (λ (action : Action). MayDo of action.act) action
      → IfThere (λ (action : Action). IfThere IsLimit action.limit) action → maybe action_of (parts.action_part at place action) ≡ Ok action
  unfolding action_of
  action_says of None is may limited = refl
  action_says of (Some action) is may limited = rw (act_says of action.act (limit_pieces action.limit) is may, limit_says action.limit [] limited) refl

  pub rule_says : (rule : Rich) → HasValues rule → IsRich rule → rule_of (parts.parts_of_rule at place rule) ≡ Ok rule
  unfolding rule_of
  rule_says rule values rich =
      rw (
        priority_says rule.priority (family_on rule) rich.priority,
        source_says rule.source (dest_on rule) values.source,
        source_says rule.dest (element_on rule) values.destination,
        element_says rule.family rule.element (log_on rule) values.element rich.element,
        log_says rule.log (audit_on rule) rich.log_prefix rich.log_limit,
        audit_says rule.audit (action_pieces rule.action) rich.audit_limit,
        action_says rule.family rule.action values.action rich.action_type rich.action_limit,
      ) refl
