-- A rule in pieces, which are its canonical text.
use Rattle.std.proofs.Common.{◌≡◌, ◌∙◌, ℕ, Bool, true, false, if◌then◌else◌, List, [], ◌∷◌, ◌++◌, Option, None, Some, ℤ, codes, decimal, refl, sym, ap, ap₂, append_assoc, append-nil}
use Rattle.std.specs.Fmt.{signed_decimal}
use Rattle.fw_addr.specs.Canonical.{address_text}
use Rattle.fw_addr.specs.Hardware.{mac_text}
use Rattle.fw_addr.specs.Names.{family_text, level_text, reject_text}
use Rattle.fw_addr.specs.Nets.{net_text}
use Rattle.fw_addr.specs.Ports.{ports_text}
use Rattle.fw_addr.specs.Protocols.{port_proto_text, proto_text}
use Rattle.fw_addr.specs.declared.addr.Addr.{Addr}
use Rattle.fw_addr.specs.declared.limit.Limit.{Limit}
use Rattle.fw_addr.specs.declared.log.Level.{Level}
use Rattle.fw_addr.specs.declared.packet.Family.{Family}
use Rattle.fw_model.specs.declared.binding.Binding.{Binding}
use Rattle.fw_model.specs.declared.binding.Binding.TheVariants as bindings
use Rattle.fw_model.specs.declared.forward.Forward.{Forward}
use Rattle.fw_model.specs.declared.port.Port.{Port}
use Rattle.fw_model.specs.declared.rich.Act.{Act}
use Rattle.fw_model.specs.declared.rich.Act.TheVariants as acts
use Rattle.fw_model.specs.declared.rich.Action.{Action}
use Rattle.fw_model.specs.declared.rich.Element.{Element}
use Rattle.fw_model.specs.declared.rich.Element.TheVariants as elements
use Rattle.fw_model.specs.declared.rich.Rich.{Rich}
use Rattle.fw_model.specs.declared.rich.RichLog.{RichLog}
use Rattle.fw_model.specs.declared.rich.Side.{Side}
use Rattle.fw_rich.specs.Canonical.{act_text, action_text, audit_text, binding_text, canon, element_text, family_part, forward_text, hex_text, is_warning, level_part, limit_text, log_text, mask_text, not_text, pair_text, port_text, prefix_text, priority_text, rate_text, side_text, to_addr_text, to_port_text}
use Rattle.fw_rich.specs.Refusals.{is_zero}
use Rattle.fw_rich_law.proofs.Pieces.{Piece, piece_text, texts, texts_join}
use Rattle.fw_rich_law.proofs.Pieces.Piece.{Word, Pair}

abbrev pub priority_pieces : ℤ → List Piece
priority_pieces priority = if is_zero priority then [] else Pair (codes "priority") (signed_decimal priority) ∷ []

abbrev pub family_pieces : Option Family → List Piece
family_pieces None = []
family_pieces (Some family) = Pair (codes "family") (family_text family) ∷ []

abbrev pub not_pieces : Bool → List Piece
not_pieces true = Word (codes "NOT") ∷ []
not_pieces false = []

abbrev pub binding_key : Binding → List ℕ
binding_key (bindings.Net net) = codes "address"
binding_key (bindings.Mac mac) = codes "mac"
binding_key (bindings.Set name) = codes "ipset"

abbrev pub binding_value : Binding → List ℕ
binding_value (bindings.Net net) = net_text net
binding_value (bindings.Mac mac) = mac_text mac
binding_value (bindings.Set name) = name

abbrev pub side_pieces : (word : List ℕ) → Option Side → List Piece
side_pieces word None = []
side_pieces word (Some side) = Word word ∷ not_pieces side.not ++ Pair (binding_key side.what) (binding_value side.what) ∷ []

abbrev pub port_pieces : Port → List Piece
port_pieces port = Pair (codes "port") (ports_text port.range) ∷ Pair (codes "protocol") (port_proto_text port.proto) ∷ []

abbrev pub to_port_pieces : Option ℕ → List Piece
to_port_pieces None = []
to_port_pieces (Some port) = Pair (codes "to-port") (decimal port) ∷ []

abbrev pub to_addr_pieces : Option Addr → List Piece
to_addr_pieces None = []
to_addr_pieces (Some addr) = Pair (codes "to-addr") (address_text addr) ∷ []

abbrev pub forward_pieces : Forward → List Piece
forward_pieces forward = port_pieces forward.port ++ (to_port_pieces forward.to_port ++ to_addr_pieces forward.to_addr)

abbrev pub element_pieces : Option Element → List Piece
element_pieces None = []
element_pieces (Some (elements.Service name)) = Word (codes "service") ∷ Pair (codes "name") name ∷ []
element_pieces (Some (elements.Port port)) = Word (codes "port") ∷ port_pieces port
element_pieces (Some (elements.Protocol protocol)) = Word (codes "protocol") ∷ Pair (codes "value") (proto_text protocol) ∷ []
element_pieces (Some (elements.IcmpBlock name)) = Word (codes "icmp-block") ∷ Pair (codes "name") name ∷ []
element_pieces (Some (elements.IcmpType name)) = Word (codes "icmp-type") ∷ Pair (codes "name") name ∷ []
element_pieces (Some elements.Masquerade) = Word (codes "masquerade") ∷ []
element_pieces (Some (elements.SourcePort port)) = Word (codes "source-port") ∷ port_pieces port
element_pieces (Some (elements.Forward forward)) = Word (codes "forward-port") ∷ forward_pieces forward

abbrev pub limit_pieces : Option Limit → List Piece
limit_pieces None = []
limit_pieces (Some limit) = Word (codes "limit") ∷ Pair (codes "value") (rate_text limit) ∷ []

abbrev pub prefix_pieces : List ℕ → List Piece
prefix_pieces [] = []
prefix_pieces (byte ∷ prefix) = Pair (codes "prefix") (byte ∷ prefix) ∷ []

abbrev pub level_pieces : Level → List Piece
level_pieces level = if is_warning level then [] else Pair (codes "level") (level_text level) ∷ []

abbrev pub log_pieces : Option RichLog → List Piece
log_pieces None = []
log_pieces (Some log) = Word (codes "log") ∷ prefix_pieces log.prefix ++ (level_pieces log.level ++ limit_pieces log.limit)

abbrev pub audit_pieces : Option (Option Limit) → List Piece
audit_pieces None = []
audit_pieces (Some limit) = Word (codes "audit") ∷ limit_pieces limit

abbrev pub act_pieces : Act → List Piece
act_pieces acts.Accept = Word (codes "accept") ∷ []
act_pieces (acts.Reject None) = Word (codes "reject") ∷ []
act_pieces (acts.Reject (Some kind)) = Word (codes "reject") ∷ Pair (codes "type") (reject_text kind) ∷ []
act_pieces acts.Drop = Word (codes "drop") ∷ []
act_pieces (acts.Mark value mask) = Word (codes "mark") ∷ Pair (codes "set") (hex_text value ++ mask_text mask) ∷ []

abbrev pub action_pieces : Option Action → List Piece
action_pieces None = []
action_pieces (Some action) = act_pieces action.act ++ limit_pieces action.limit

-- behind the word `rule`, each part with what stands behind it
abbrev pub audit_on : Rich → List Piece
audit_on rule = audit_pieces rule.audit ++ action_pieces rule.action

abbrev pub log_on : Rich → List Piece
log_on rule = log_pieces rule.log ++ audit_on rule

abbrev pub element_on : Rich → List Piece
element_on rule = element_pieces rule.element ++ log_on rule

abbrev pub dest_on : Rich → List Piece
dest_on rule = side_pieces (codes "destination") rule.dest ++ element_on rule

abbrev pub source_on : Rich → List Piece
source_on rule = side_pieces (codes "source") rule.source ++ dest_on rule

abbrev pub family_on : Rich → List Piece
family_on rule = family_pieces rule.family ++ source_on rule

abbrev pub rule_pieces : Rich → List Piece
rule_pieces rule = priority_pieces rule.priority ++ family_on rule

-- one piece alone
alone : (piece : Piece) → texts (piece ∷ []) ≡ piece_text piece
alone piece = append-nil (piece_text piece)

joined : (front back : List Piece) (first second : List ℕ) → texts front ≡ first → texts back ≡ second → texts (front ++ back) ≡ first ++ second
joined front back first second is behind = texts_join front back ∙ ap₂ (λ one other. one ++ other) is behind

priority_same : (priority : ℤ) → texts (priority_pieces priority) ≡ priority_text priority
unfolding priority_text
priority_same priority = by (is_zero priority)
  where
    by : (zero : Bool) → texts (if zero then [] else Pair (codes "priority") (signed_decimal priority) ∷ [])
        ≡ (if zero then [] else pair_text (codes "priority") (signed_decimal priority))
    by true = refl
    by false = alone (Pair (codes "priority") (signed_decimal priority))

family_same : (family : Option Family) → texts (family_pieces family) ≡ family_part family
unfolding family_part
family_same None = refl
family_same (Some family) = alone (Pair (codes "family") (family_text family))

binding_same : (what : Binding) → texts (Pair (binding_key what) (binding_value what) ∷ []) ≡ binding_text what
unfolding binding_text
binding_same (bindings.Net net) = alone (Pair (codes "address") (net_text net))
binding_same (bindings.Mac mac) = alone (Pair (codes "mac") (mac_text mac))
binding_same (bindings.Set name) = alone (Pair (codes "ipset") name)

not_same : (not : Bool) → texts (not_pieces not) ≡ not_text not
not_same true = refl
not_same false = refl

side_same : (word : List ℕ) (side : Option Side) → texts (side_pieces word side) ≡ side_text word side
unfolding side_text
side_same word None = refl
side_same word (Some side) =
    let binding : List Piece = Pair (binding_key side.what) (binding_value side.what) ∷ [] in
    ap (λ text. 32 ∷ word ++ text) (texts_join (not_pieces side.not) binding)
    ∙ rw (not_same side.not, binding_same side.what) (sym (append_assoc (32 ∷ word) (not_text side.not) (binding_text side.what)))

port_same : (port : Port) → texts (port_pieces port) ≡ port_text port
unfolding port_text
port_same port = ap (λ text. pair_text (codes "port") (ports_text port.range) ++ text) (alone (Pair (codes "protocol") (port_proto_text port.proto)))

to_port_same : (port : Option ℕ) → texts (to_port_pieces port) ≡ to_port_text port
to_port_same None = refl
to_port_same (Some port) = alone (Pair (codes "to-port") (decimal port))

to_addr_same : (addr : Option Addr) → texts (to_addr_pieces addr) ≡ to_addr_text addr
to_addr_same None = refl
to_addr_same (Some addr) = alone (Pair (codes "to-addr") (address_text addr))

forward_same : (forward : Forward) → texts (forward_pieces forward) ≡ forward_text forward
unfolding forward_text
forward_same forward =
    joined (port_pieces forward.port) (to_port_pieces forward.to_port ++ to_addr_pieces forward.to_addr) (port_text forward.port) (to_port_text forward.to_port ++ to_addr_text forward.to_addr) (port_same forward.port)
    (joined (to_port_pieces forward.to_port) (to_addr_pieces forward.to_addr) (to_port_text forward.to_port) (to_addr_text forward.to_addr) (to_port_same forward.to_port) (to_addr_same forward.to_addr))
    ∙ sym (append_assoc (port_text forward.port) (to_port_text forward.to_port) (to_addr_text forward.to_addr))

element_same : (element : Option Element) → texts (element_pieces element) ≡ element_text element
unfolding element_text
element_same None = refl
element_same (Some (elements.Service name)) = ap (λ text. codes " service" ++ text) (alone (Pair (codes "name") name))
element_same (Some (elements.Port port)) = ap (λ text. codes " port" ++ text) (port_same port)
element_same (Some (elements.Protocol protocol)) = ap (λ text. codes " protocol" ++ text) (alone (Pair (codes "value") (proto_text protocol)))
element_same (Some (elements.IcmpBlock name)) = ap (λ text. codes " icmp-block" ++ text) (alone (Pair (codes "name") name))
element_same (Some (elements.IcmpType name)) = ap (λ text. codes " icmp-type" ++ text) (alone (Pair (codes "name") name))
element_same (Some elements.Masquerade) = refl
element_same (Some (elements.SourcePort port)) = ap (λ text. codes " source-port" ++ text) (port_same port)
element_same (Some (elements.Forward forward)) = ap (λ text. codes " forward-port" ++ text) (forward_same forward)

limit_same : (limit : Option Limit) → texts (limit_pieces limit) ≡ limit_text limit
unfolding limit_text
limit_same None = refl
limit_same (Some limit) = ap (λ text. codes " limit" ++ text) (alone (Pair (codes "value") (rate_text limit)))

prefix_same : (prefix : List ℕ) → texts (prefix_pieces prefix) ≡ prefix_text prefix
unfolding prefix_text
prefix_same [] = refl
prefix_same (byte ∷ prefix) = alone (Pair (codes "prefix") (byte ∷ prefix))

level_same : (level : Level) → texts (level_pieces level) ≡ level_part level
unfolding level_part
level_same level = by (is_warning level)
  where
    by : (warning : Bool) → texts (if warning then [] else Pair (codes "level") (level_text level) ∷ [])
        ≡ (if warning then [] else pair_text (codes "level") (level_text level))
    by true = refl
    by false = alone (Pair (codes "level") (level_text level))

log_same : (log : Option RichLog) → texts (log_pieces log) ≡ log_text log
unfolding log_text
log_same None = refl
log_same (Some log) =
    ap (λ text. codes " log" ++ text)
    (texts_join (prefix_pieces log.prefix) (level_pieces log.level ++ limit_pieces log.limit)
    ∙ ap (λ text. texts (prefix_pieces log.prefix) ++ text) (texts_join (level_pieces log.level) (limit_pieces log.limit))
    ∙ rw (prefix_same log.prefix, level_same log.level, limit_same log.limit) (sym (append_assoc (prefix_text log.prefix) (level_part log.level) (limit_text log.limit))))

audit_same : (audit : Option (Option Limit)) → texts (audit_pieces audit) ≡ audit_text audit
unfolding audit_text
audit_same None = refl
audit_same (Some limit) = ap (λ text. codes " audit" ++ text) (limit_same limit)

act_same : (act : Act) → texts (act_pieces act) ≡ act_text act
unfolding act_text
act_same acts.Accept = refl
act_same (acts.Reject None) = refl
act_same (acts.Reject (Some kind)) = ap (λ text. codes " reject" ++ text) (alone (Pair (codes "type") (reject_text kind)))
act_same acts.Drop = refl
act_same (acts.Mark value mask) = ap (λ text. codes " mark" ++ text) (alone (Pair (codes "set") (hex_text value ++ mask_text mask)))

action_same : (action : Option Action) → texts (action_pieces action) ≡ action_text action
unfolding action_text
action_same None = refl
action_same (Some action) = texts_join (act_pieces action.act) (limit_pieces action.limit) ∙ rw (act_same action.act, limit_same action.limit) refl

-- nine texts, joined from the left or from the right
brackets : (a b c d e f g h : List ℕ) → a ++ (b ++ (c ++ (d ++ (e ++ (f ++ (g ++ h)))))) ≡ a ++ b ++ c ++ d ++ e ++ f ++ g ++ h
brackets a b c d e f g h = simp append_assoc refl

pub canon_is : (rule : Rich) → codes "rule" ++ texts (rule_pieces rule) ≡ canon rule
unfolding canon
canon_is rule =
    let pieces =
    joined (priority_pieces rule.priority) (family_on rule) _ _ (priority_same rule.priority)
    (joined (family_pieces rule.family) (source_on rule) _ _ (family_same rule.family)
    (joined (side_pieces (codes "source") rule.source) (dest_on rule) _ _ (side_same (codes "source") rule.source)
    (joined (side_pieces (codes "destination") rule.dest) (element_on rule) _ _ (side_same (codes "destination") rule.dest)
    (joined (element_pieces rule.element) (log_on rule) _ _ (element_same rule.element)
    (joined (log_pieces rule.log) (audit_on rule) _ _ (log_same rule.log)
    (joined (audit_pieces rule.audit) (action_pieces rule.action) _ _ (audit_same rule.audit) (action_same rule.action))))))) in
    ap (λ text. codes "rule" ++ text)
    (pieces ∙ brackets (priority_text rule.priority) (family_part rule.family) (side_text (codes "source") rule.source) (side_text (codes "destination") rule.dest) (element_text rule.element) (log_text rule.log) (audit_text rule.audit) (action_text rule.action))
