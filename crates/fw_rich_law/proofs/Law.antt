-- The canonical text of a rule is read as the rule.
use Rattle.std.proofs.Common.{◌≡◌, ◌∙◌, ℕ, suc, ◌-◌, ◌^◌, ◌<◌, ◌≤◌, Bool, true, false, if◌then◌else◌, List, [], ◌∷◌, ◌++◌, length, Option, None, Some, Ok, ℤ, IsTrue, codes, refl, sym, ap, arith}
use Rattle.std.specs.Fmt.{signed_decimal}
use Rattle.std.specs.List.{list_all}
use Rattle.fw_addr.specs.Icmp.{icmp_names}
use Rattle.fw_addr.specs.Names.{level_text}
use Rattle.fw_addr.specs.declared.addr.Addr.{Addr}
use Rattle.fw_addr.specs.declared.limit.Limit.{Limit}
use Rattle.fw_addr.specs.declared.packet.Family.{Family}
use Rattle.fw_model.specs.declared.binding.Binding.{Binding}
use Rattle.fw_model.specs.declared.binding.Binding.TheVariants as bindings
use Rattle.fw_model.specs.declared.port.Port.{Port}
use Rattle.fw_model.specs.declared.rich.Act.{Act}
use Rattle.fw_model.specs.declared.rich.Act.TheVariants as acts
use Rattle.fw_model.specs.declared.rich.Action.{Action}
use Rattle.fw_model.specs.declared.rich.Element.{Element}
use Rattle.fw_model.specs.declared.rich.Element.TheVariants as elements
use Rattle.fw_model.specs.declared.rich.Rich.{Rich}
use Rattle.fw_model.specs.declared.rich.RichLog.{RichLog}
use Rattle.fw_model.specs.declared.rich.Side.{Side}
use Rattle.fw_rich.specs.Canonical.{canon, is_warning}
use Rattle.fw_rich.specs.Grammar.{rule}
use Rattle.fw_rich.specs.Refusals.{is_zero}
use Rattle.fw_rich.specs.Rich.{Refusable, parsed, parts_of, rich_text}
use Rattle.fw_rich.specs.Tokens.{is_plain, tokens, tokens_to, with_behind}
use Rattle.fw_rich_law.proofs.Accepted.{accepted, no_mac}
use Rattle.fw_rich_law.proofs.Canons.{act_pieces, action_pieces, audit_on, audit_pieces, binding_key, binding_value, canon_is, dest_on, element_on, element_pieces, family_on, family_pieces, level_pieces, limit_pieces, log_on, log_pieces, not_pieces, port_pieces, prefix_pieces, priority_pieces, rule_pieces, side_pieces, source_on, to_addr_pieces, to_port_pieces}
use Rattle.fw_rich_law.proofs.Parsed.{rule_read}
use Rattle.fw_rich_law.proofs.Parts as parts
use Rattle.fw_rich_law.proofs.Pieces.{Piece, texts}
use Rattle.fw_rich_law.proofs.Pieces.Piece.{Word, Pair}
use Rattle.fw_rich_law.proofs.Plain.{address_plain, decimal_plain, family_plain, level_plain, mac_plain, mark_plain, name_plain, named_plain, net_plain, port_proto_plain, ports_plain, prefix_plain, priority_plain, proto_plain, rate_plain, reject_plain}
use Rattle.fw_rich_law.proofs.Reading.{Printed}
use Rattle.fw_rich_law.proofs.Said.{rule_says}
use Rattle.fw_rich_law.proofs.Tokenized.{are_written, are_written_join, at_in, place_in, tokens_are, tokens_of, word_next}
use Rattle.fw_rich_law.specs.Values.{HasValues, IsAct, IsAddress, IsBinding, IsElement, IsRange}
use Rattle.fw_valid.specs.Each.{IfThere}
use Rattle.fw_valid.specs.Riches.{HasType, IsLimit, IsPriority, IsRich, MayHave, is_prefix}

priority_written : (priority : ℤ) → IsPriority priority → are_written (priority_pieces priority) ≡ true
priority_written priority is = by (is_zero priority)
  where
    by : (zero : Bool) → are_written (if zero then [] else Pair (codes "priority") (signed_decimal priority) ∷ []) ≡ true
    by true = refl
    by false = rw (priority_plain priority is) refl

family_written : (family : Option Family) → are_written (family_pieces family) ≡ true
family_written None = refl
family_written (Some family) = rw (family_plain family) refl

binding_written : (what : Binding) → IsBinding what → are_written (Pair (binding_key what) (binding_value what) ∷ []) ≡ true
binding_written (bindings.Net net) is = rw (net_plain net is.0 is.1) refl
binding_written (bindings.Mac mac) is = rw (mac_plain mac is) refl
binding_written (bindings.Set name) is = rw (name_plain name is) refl

not_written : (not : Bool) → are_written (not_pieces not) ≡ true
not_written true = refl
not_written false = refl

source_written : (side : Option Side) → IfThere (λ (side : Side). IsBinding side.what) side → are_written (side_pieces (codes "source") side) ≡ true
source_written None is = refl
source_written (Some side) is = are_written_join (not_pieces side.not) (Pair (binding_key side.what) (binding_value side.what) ∷ []) (not_written side.not) (binding_written side.what is)

dest_written : (side : Option Side) → IfThere (λ (side : Side). IsBinding side.what) side → are_written (side_pieces (codes "destination") side) ≡ true
dest_written None is = refl
dest_written (Some side) is = are_written_join (not_pieces side.not) (Pair (binding_key side.what) (binding_value side.what) ∷ []) (not_written side.not) (binding_written side.what is)

port_written : (port : Port) → IsRange port.range → are_written (port_pieces port) ≡ true
port_written port is = rw (ports_plain port.range is.0 is.1, port_proto_plain port.proto) refl

to_port_written : (port : Option ℕ) → IfThere (λ port. port < 2 ^ 16) port → are_written (to_port_pieces port) ≡ true
to_port_written None is = refl
to_port_written (Some port) is = rw (decimal_plain port (omega (arith, is))) refl

to_addr_written : (addr : Option Addr) → IfThere IsAddress addr → are_written (to_addr_pieces addr) ≡ true
to_addr_written None is = refl
to_addr_written (Some addr) is = rw (address_plain addr is) refl

type_written : (of : Option Family) (name : List ℕ) → HasType of name → list_all is_plain name ≡ true
type_written of name has = named_plain icmp_names refl name has.0 has.1

element_written : (of : Option Family) (element : Option Element) → IfThere IsElement element → IfThere (MayHave of) element → are_written (element_pieces element) ≡ true
element_written of None is may = refl
element_written of (Some (elements.Service name)) is may = rw (name_plain name is) refl
element_written of (Some (elements.Port port)) is may = port_written port is
element_written of (Some (elements.Protocol protocol)) is may = rw (proto_plain protocol is) refl
element_written of (Some (elements.IcmpBlock name)) is may = rw (type_written of name may) refl
element_written of (Some (elements.IcmpType name)) is may = rw (type_written of name may) refl
element_written of (Some elements.Masquerade) is may = refl
element_written of (Some (elements.SourcePort port)) is may = port_written port is
element_written of (Some (elements.Forward forward)) is may =
    are_written_join (port_pieces forward.port) (to_port_pieces forward.to_port ++ to_addr_pieces forward.to_addr) (port_written forward.port is.0)
    (are_written_join (to_port_pieces forward.to_port) (to_addr_pieces forward.to_addr) (to_port_written forward.to_port is.1) (to_addr_written forward.to_addr is.2))

limit_written : (limit : Option Limit) → IfThere IsLimit limit → are_written (limit_pieces limit) ≡ true
limit_written None is = refl
limit_written (Some limit) is = rw (rate_plain limit is.1) refl

prefix_written : (prefix : List ℕ) → IsTrue (is_prefix prefix) → are_written (prefix_pieces prefix) ≡ true
prefix_written [] is = refl
prefix_written (byte ∷ prefix) is = rw (prefix_plain (byte ∷ prefix) is) refl

level_written : (log : RichLog) → are_written (level_pieces log.level) ≡ true
level_written log = by (is_warning log.level)
  where
    by : (warning : Bool) → are_written (if warning then [] else Pair (codes "level") (level_text log.level) ∷ []) ≡ true
    by true = refl
    by false = rw (level_plain log.level) refl

log_written : (log : Option RichLog) → IfThere (λ (log : RichLog). IsTrue (is_prefix log.prefix)) log → IfThere (λ (log : RichLog). IfThere IsLimit log.limit) log → are_written (log_pieces log) ≡ true
log_written None begins limited = refl
log_written (Some log) begins limited =
    are_written_join (prefix_pieces log.prefix) (level_pieces log.level ++ limit_pieces log.limit) (prefix_written log.prefix begins)
    (are_written_join (level_pieces log.level) (limit_pieces log.limit) (level_written log) (limit_written log.limit limited))

audit_written : (audit : Option (Option Limit)) → IfThere (IfThere IsLimit) audit → are_written (audit_pieces audit) ≡ true
audit_written None is = refl
audit_written (Some limit) is = limit_written limit is

act_written : (act : Act) → IsAct act → are_written (act_pieces act) ≡ true
act_written acts.Accept is = refl
act_written (acts.Reject None) is = refl
act_written (acts.Reject (Some kind)) is = rw (reject_plain kind) refl
act_written acts.Drop is = refl
act_written (acts.Mark value mask) is = rw (mark_plain value mask is.0 is.1) refl

action_written : (action : Option Action) → IfThere (λ (action : Action). IsAct action.act) action → IfThere (λ (action : Action). IfThere IsLimit action.limit) action → are_written (action_pieces action) ≡ true
action_written None is limited = refl
action_written (Some action) is limited = are_written_join (act_pieces action.act) (limit_pieces action.limit) (act_written action.act is) (limit_written action.limit limited)

all_written : (what : Rich) → HasValues what → IsRich what → are_written (rule_pieces what) ≡ true
all_written what values rich =
    are_written_join (priority_pieces what.priority) (family_on what) (priority_written what.priority rich.priority)
    (are_written_join (family_pieces what.family) (source_on what) (family_written what.family)
    (are_written_join (side_pieces (codes "source") what.source) (dest_on what) (source_written what.source values.source)
    (are_written_join (side_pieces (codes "destination") what.dest) (element_on what) (dest_written what.dest values.destination)
    (are_written_join (element_pieces what.element) (log_on what) (element_written what.family what.element values.element rich.element)
    (are_written_join (log_pieces what.log) (audit_on what) (log_written what.log rich.log_prefix rich.log_limit)
    (are_written_join (audit_pieces what.audit) (action_pieces what.action) (audit_written what.audit rich.audit_limit) (action_written what.action values.action rich.action_limit)))))))

-- the word `rule`, before which no blank stands
begun : (steps size : ℕ) (pieces : List Piece) → are_written pieces ≡ true → length (texts pieces) ≤ steps → tokens_to (suc steps) size (codes "rule" ++ texts pieces) ≡ tokens_of size (Word (codes "rule") ∷ pieces)
unfolding tokens_to
begun steps size pieces all enough =
    ap (with_behind (tokens_to steps size)) (word_next size (codes "rule") pieces refl)
    ∙ ap (λ tokens. record { offset = size - length (codes "rule" ++ texts pieces); key = codes "rule"; value = None } ∷ tokens) (tokens_are steps size pieces all enough)

whole_tokens : (pieces : List Piece) → are_written pieces ≡ true → let size = length (codes "rule" ++ texts pieces) in tokens (codes "rule" ++ texts pieces) ≡ tokens_of size (Word (codes "rule") ∷ pieces)
whole_tokens pieces all = begun (suc (suc (suc (length (texts pieces))))) (length (codes "rule" ++ texts pieces)) pieces all (omega arith)

pub read_back : Printed → (what : Rich) → HasValues what → IsRich what → rich_text (canon what) ≡ Ok what
unfolding rich_text parts_of
read_back printed what values rich =
    let pieces = rule_pieces what in
    let text = codes "rule" ++ texts pieces in
    let size = length text in
    let tokens_is = whole_tokens pieces (all_written what values rich) in
    let parse = ap rule tokens_is ∙ rule_read (at_in size) (place_in size) what (no_mac what.family what.dest rich.destination) in
    let parts_is : parts_of text ≡ Ok (parts.parts_of_rule (at_in size) (place_in size) what) = ap (parsed size) parse in
    ap rich_text (sym (canon_is what))
    ∙ rw (parts_is, rule_says (at_in size) (place_in size) printed what values rich, accepted (at_in size) (place_in size) what rich) refl

same_rule : (one other : Rich) (first second : Refusable Rich) → first ≡ Ok one → second ≡ Ok other → first ≡ second → one ≡ other
same_rule one other first second is also same = cc

-- so a text is that of one rule alone
pub told_apart : ((what : Rich) → HasValues what → IsRich what → rich_text (canon what) ≡ Ok what)
    → (one other : Rich) → HasValues one → IsRich one → HasValues other → IsRich other → canon one ≡ canon other → one ≡ other
told_apart back one other one_values one_rich other_values other_rich same =
    let first = back one one_values one_rich in
    let second = back other other_values other_rich in
    same_rule one other (rich_text (canon one)) (rich_text (canon other)) first second (ap rich_text same)
