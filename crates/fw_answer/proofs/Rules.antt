-- The test of rich rules says whether they are one.
use Rattle.std.proofs.Common.{◌≡◌, ◌==◌, ◌&&◌, Bool, refl, ap, rules, Option, None, Some, ℕ, nat_eq, int_eq}
use Rattle.std.specs.Bool.{Decides}
use Rattle.std.specs.Option.{option_eq}
use Rattle.std.specs.Str.{bytes_eq}
use Rattle.std.proofs.lemmas.Bool.Decides.{Decides-and, Decides-eqb, Decides-int_eq, Decides-like}
use Rattle.std.proofs.lemmas.Slice.Eq.{bytes_eq-Decides}
use Rattle.fw_addr.specs.contracts.addr.AddrPartialEq.TheImpl as addr_eq
use Rattle.fw_addr.specs.contracts.limit.LimitPartialEq.TheImpl as limit_eq
use Rattle.fw_addr.specs.contracts.log.LevelPartialEq.TheImpl as level_eq
use Rattle.fw_addr.specs.contracts.packet.FamilyPartialEq.TheImpl as family_eq
use Rattle.fw_addr.specs.declared.addr.Addr.{Addr}
use Rattle.fw_addr.specs.declared.limit.Limit.{Limit}
use Rattle.fw_addr.specs.declared.log.Level.{Level}
use Rattle.fw_addr.specs.declared.packet.Family.{Family}
use Rattle.fw_model.specs.contracts.forward.ForwardPartialEq.TheImpl as forward_eq
use Rattle.fw_model.specs.contracts.port.PortPartialEq.TheImpl as port_eq
use Rattle.fw_model.specs.contracts.rich.ActPartialEq.TheImpl as act_eq
use Rattle.fw_model.specs.contracts.rich.ActionPartialEq.TheImpl as action_eq
use Rattle.fw_model.specs.contracts.rich.ElementPartialEq.TheImpl as element_eq
use Rattle.fw_model.specs.contracts.rich.RichLogPartialEq.TheImpl as log_eq
use Rattle.fw_model.specs.contracts.rich.SidePartialEq.TheImpl as side_eq
use Rattle.fw_model.specs.declared.forward.Forward.{Forward}
use Rattle.fw_model.specs.declared.port.Port.{Port}
use Rattle.fw_model.specs.declared.rich.Act.{Act}
use Rattle.fw_model.specs.declared.rich.Action.{Action}
use Rattle.fw_model.specs.declared.rich.Element.{Element}
use Rattle.fw_model.specs.declared.rich.Element.TheVariants as elem
use Rattle.fw_model.specs.declared.rich.Rich.{Rich}
use Rattle.fw_model.specs.declared.rich.RichLog.{RichLog}
use Rattle.fw_model.specs.declared.rich.Side.{Side}
use Rattle.fw_answer.specs.Equal.{same_rule}
use Rattle.fw_answer.proofs.Items.{IsEquality}

-- a part that may be absent
optional : {A : Type 0} (same : A → A → Bool) → ((one other : A) → Decides (same one other) (one ≡ other)) → (one other : Option A) → Decides (option_eq same one other) (one ≡ other)
optional same decided None None = (λ is. refl, λ is. refl)
optional same decided None (Some other) = (λ is. cc, λ is. cc)
optional same decided (Some one) None = (λ is. cc, λ is. cc)
optional same decided (Some one) (Some other) = Decides-like (same one other) (λ is. ap Some is) (λ is. cc) (decided one other)

-- single values
addresses : (one other : Addr) → Decides ((addr_eq.ghosts).eq one other) (one ≡ other)
addresses one other = (λ is. search rules, λ is. search rules)

ports : (one other : Port) → Decides ((port_eq.ghosts).eq one other) (one ≡ other)
ports one other = (λ is. search rules, λ is. search rules)

families : (one other : Family) → Decides ((family_eq.ghosts).eq one other) (one ≡ other)
families one other = (λ is. search rules, λ is. search rules)

limits : (one other : Limit) → Decides ((limit_eq.ghosts).eq one other) (one ≡ other)
limits one other = (λ is. search rules, λ is. search rules)

levels : (one other : Level) → Decides ((level_eq.ghosts).eq one other) (one ≡ other)
levels one other = (λ is. search rules, λ is. search rules)

acts : (one other : Act) → Decides ((act_eq.ghosts).eq one other) (one ≡ other)
acts one other = (λ is. search rules, λ is. search rules)

sides : (one other : Side) → Decides ((side_eq.ghosts).eq one other) (one ≡ other)
sides one other = (λ is. search rules, λ is. search rules)

-- records, by their fields
actions : (one other : Action) → Decides ((action_eq.ghosts).eq one other) (one ≡ other)
actions one other =
    Decides-like ((action_eq.ghosts).eq one other)
    (λ (parts : (one.act ≡ other.act) × (one.limit ≡ other.limit)). λ i. record { act = parts.0 i; limit = parts.1 i })
    (λ (is : one ≡ other). (ap (λ (a : Action). a.act) is, ap (λ (a : Action). a.limit) is))
    (Decides-and ((act_eq.ghosts).eq one.act other.act) (option_eq (limit_eq.ghosts).eq one.limit other.limit)
    (acts one.act other.act) (optional (limit_eq.ghosts).eq limits one.limit other.limit))

forwards : (one other : Forward) → Decides ((forward_eq.ghosts).eq one other) (one ≡ other)
forwards one other =
    Decides-like ((forward_eq.ghosts).eq one other)
    (λ (parts : (one.port ≡ other.port) × ((one.to_port ≡ other.to_port) × (one.to_addr ≡ other.to_addr))). λ i. record { port = parts.0 i; to_port = parts.1.0 i; to_addr = parts.1.1 i })
    (λ (is : one ≡ other). (ap (λ (f : Forward). f.port) is, (ap (λ (f : Forward). f.to_port) is, ap (λ (f : Forward). f.to_addr) is)))
    (Decides-and ((port_eq.ghosts).eq one.port other.port) (option_eq nat_eq one.to_port other.to_port && option_eq (addr_eq.ghosts).eq one.to_addr other.to_addr)
    (ports one.port other.port)
    (Decides-and (option_eq nat_eq one.to_port other.to_port) (option_eq (addr_eq.ghosts).eq one.to_addr other.to_addr)
    (optional nat_eq Decides-eqb one.to_port other.to_port) (optional (addr_eq.ghosts).eq addresses one.to_addr other.to_addr)))

logs : (one other : RichLog) → Decides ((log_eq.ghosts).eq one other) (one ≡ other)
logs one other =
    Decides-like ((log_eq.ghosts).eq one other)
    (λ (parts : (one.prefix ≡ other.prefix) × ((one.level ≡ other.level) × (one.limit ≡ other.limit))). λ i. record { prefix = parts.0 i; level = parts.1.0 i; limit = parts.1.1 i })
    (λ (is : one ≡ other). (ap (λ (l : RichLog). l.prefix) is, (ap (λ (l : RichLog). l.level) is, ap (λ (l : RichLog). l.limit) is)))
    (Decides-and (bytes_eq one.prefix other.prefix) ((level_eq.ghosts).eq one.level other.level && option_eq (limit_eq.ghosts).eq one.limit other.limit)
    (bytes_eq-Decides one.prefix other.prefix)
    (Decides-and ((level_eq.ghosts).eq one.level other.level) (option_eq (limit_eq.ghosts).eq one.limit other.limit)
    (levels one.level other.level) (optional (limit_eq.ghosts).eq limits one.limit other.limit)))

elements : (one other : Element) → Decides ((element_eq.ghosts).eq one other) (one ≡ other)
elements (elem.Service one) (elem.Service other) = (λ is. search rules, λ is. search rules)
elements (elem.Service one) (elem.Port other) = (λ is. cc, λ is. cc)
elements (elem.Service one) (elem.Protocol other) = (λ is. cc, λ is. cc)
elements (elem.Service one) (elem.IcmpBlock other) = (λ is. cc, λ is. cc)
elements (elem.Service one) (elem.IcmpType other) = (λ is. cc, λ is. cc)
elements (elem.Service one) elem.Masquerade = (λ is. cc, λ is. cc)
elements (elem.Service one) (elem.SourcePort other) = (λ is. cc, λ is. cc)
elements (elem.Service one) (elem.Forward other) = (λ is. cc, λ is. cc)
elements (elem.Port one) (elem.Service other) = (λ is. cc, λ is. cc)
elements (elem.Port one) (elem.Port other) = (λ is. search rules, λ is. search rules)
elements (elem.Port one) (elem.Protocol other) = (λ is. cc, λ is. cc)
elements (elem.Port one) (elem.IcmpBlock other) = (λ is. cc, λ is. cc)
elements (elem.Port one) (elem.IcmpType other) = (λ is. cc, λ is. cc)
elements (elem.Port one) elem.Masquerade = (λ is. cc, λ is. cc)
elements (elem.Port one) (elem.SourcePort other) = (λ is. cc, λ is. cc)
elements (elem.Port one) (elem.Forward other) = (λ is. cc, λ is. cc)
elements (elem.Protocol one) (elem.Service other) = (λ is. cc, λ is. cc)
elements (elem.Protocol one) (elem.Port other) = (λ is. cc, λ is. cc)
elements (elem.Protocol one) (elem.Protocol other) = (λ is. search rules, λ is. search rules)
elements (elem.Protocol one) (elem.IcmpBlock other) = (λ is. cc, λ is. cc)
elements (elem.Protocol one) (elem.IcmpType other) = (λ is. cc, λ is. cc)
elements (elem.Protocol one) elem.Masquerade = (λ is. cc, λ is. cc)
elements (elem.Protocol one) (elem.SourcePort other) = (λ is. cc, λ is. cc)
elements (elem.Protocol one) (elem.Forward other) = (λ is. cc, λ is. cc)
elements (elem.IcmpBlock one) (elem.Service other) = (λ is. cc, λ is. cc)
elements (elem.IcmpBlock one) (elem.Port other) = (λ is. cc, λ is. cc)
elements (elem.IcmpBlock one) (elem.Protocol other) = (λ is. cc, λ is. cc)
elements (elem.IcmpBlock one) (elem.IcmpBlock other) = (λ is. search rules, λ is. search rules)
elements (elem.IcmpBlock one) (elem.IcmpType other) = (λ is. cc, λ is. cc)
elements (elem.IcmpBlock one) elem.Masquerade = (λ is. cc, λ is. cc)
elements (elem.IcmpBlock one) (elem.SourcePort other) = (λ is. cc, λ is. cc)
elements (elem.IcmpBlock one) (elem.Forward other) = (λ is. cc, λ is. cc)
elements (elem.IcmpType one) (elem.Service other) = (λ is. cc, λ is. cc)
elements (elem.IcmpType one) (elem.Port other) = (λ is. cc, λ is. cc)
elements (elem.IcmpType one) (elem.Protocol other) = (λ is. cc, λ is. cc)
elements (elem.IcmpType one) (elem.IcmpBlock other) = (λ is. cc, λ is. cc)
elements (elem.IcmpType one) (elem.IcmpType other) = (λ is. search rules, λ is. search rules)
elements (elem.IcmpType one) elem.Masquerade = (λ is. cc, λ is. cc)
elements (elem.IcmpType one) (elem.SourcePort other) = (λ is. cc, λ is. cc)
elements (elem.IcmpType one) (elem.Forward other) = (λ is. cc, λ is. cc)
elements elem.Masquerade (elem.Service other) = (λ is. cc, λ is. cc)
elements elem.Masquerade (elem.Port other) = (λ is. cc, λ is. cc)
elements elem.Masquerade (elem.Protocol other) = (λ is. cc, λ is. cc)
elements elem.Masquerade (elem.IcmpBlock other) = (λ is. cc, λ is. cc)
elements elem.Masquerade (elem.IcmpType other) = (λ is. cc, λ is. cc)
elements elem.Masquerade elem.Masquerade = (λ is. refl, λ is. refl)
elements elem.Masquerade (elem.SourcePort other) = (λ is. cc, λ is. cc)
elements elem.Masquerade (elem.Forward other) = (λ is. cc, λ is. cc)
elements (elem.SourcePort one) (elem.Service other) = (λ is. cc, λ is. cc)
elements (elem.SourcePort one) (elem.Port other) = (λ is. cc, λ is. cc)
elements (elem.SourcePort one) (elem.Protocol other) = (λ is. cc, λ is. cc)
elements (elem.SourcePort one) (elem.IcmpBlock other) = (λ is. cc, λ is. cc)
elements (elem.SourcePort one) (elem.IcmpType other) = (λ is. cc, λ is. cc)
elements (elem.SourcePort one) elem.Masquerade = (λ is. cc, λ is. cc)
elements (elem.SourcePort one) (elem.SourcePort other) = (λ is. search rules, λ is. search rules)
elements (elem.SourcePort one) (elem.Forward other) = (λ is. cc, λ is. cc)
elements (elem.Forward one) (elem.Service other) = (λ is. cc, λ is. cc)
elements (elem.Forward one) (elem.Port other) = (λ is. cc, λ is. cc)
elements (elem.Forward one) (elem.Protocol other) = (λ is. cc, λ is. cc)
elements (elem.Forward one) (elem.IcmpBlock other) = (λ is. cc, λ is. cc)
elements (elem.Forward one) (elem.IcmpType other) = (λ is. cc, λ is. cc)
elements (elem.Forward one) elem.Masquerade = (λ is. cc, λ is. cc)
elements (elem.Forward one) (elem.SourcePort other) = (λ is. cc, λ is. cc)
elements (elem.Forward one) (elem.Forward other) = Decides-like ((forward_eq.ghosts).eq one other) (λ is. ap elem.Forward is) (λ is. cc) (forwards one other)

rules_decided : (one other : Rich) → Decides (same_rule one other) (one ≡ other)
rules_decided one other =
    Decides-like (same_rule one other)
    (λ (parts : (one.priority ≡ other.priority) × ((one.family ≡ other.family) × ((one.source ≡ other.source) × ((one.dest ≡ other.dest) × ((one.element ≡ other.element) × ((one.log ≡ other.log) × ((one.audit ≡ other.audit) × (one.action ≡ other.action)))))))). λ i. record { priority = parts.0 i; family = parts.1.0 i; source = parts.1.1.0 i; dest = parts.1.1.1.0 i; element = parts.1.1.1.1.0 i; log = parts.1.1.1.1.1.0 i; audit = parts.1.1.1.1.1.1.0 i; action = parts.1.1.1.1.1.1.1 i })
    (λ (is : one ≡ other). (ap (λ (r : Rich). r.priority) is, (ap (λ (r : Rich). r.family) is, (ap (λ (r : Rich). r.source) is, (ap (λ (r : Rich). r.dest) is, (ap (λ (r : Rich). r.element) is, (ap (λ (r : Rich). r.log) is, (ap (λ (r : Rich). r.audit) is, ap (λ (r : Rich). r.action) is))))))))
    (Decides-and (int_eq one.priority other.priority) (option_eq (family_eq.ghosts).eq one.family other.family && (option_eq (side_eq.ghosts).eq one.source other.source && (option_eq (side_eq.ghosts).eq one.dest other.dest && (option_eq (element_eq.ghosts).eq one.element other.element && (option_eq (log_eq.ghosts).eq one.log other.log && (option_eq (option_eq (limit_eq.ghosts).eq) one.audit other.audit && option_eq (action_eq.ghosts).eq one.action other.action))))))
    (Decides-int_eq one.priority other.priority)
    (Decides-and (option_eq (family_eq.ghosts).eq one.family other.family) (option_eq (side_eq.ghosts).eq one.source other.source && (option_eq (side_eq.ghosts).eq one.dest other.dest && (option_eq (element_eq.ghosts).eq one.element other.element && (option_eq (log_eq.ghosts).eq one.log other.log && (option_eq (option_eq (limit_eq.ghosts).eq) one.audit other.audit && option_eq (action_eq.ghosts).eq one.action other.action)))))
    (optional (family_eq.ghosts).eq families one.family other.family)
    (Decides-and (option_eq (side_eq.ghosts).eq one.source other.source) (option_eq (side_eq.ghosts).eq one.dest other.dest && (option_eq (element_eq.ghosts).eq one.element other.element && (option_eq (log_eq.ghosts).eq one.log other.log && (option_eq (option_eq (limit_eq.ghosts).eq) one.audit other.audit && option_eq (action_eq.ghosts).eq one.action other.action))))
    (optional (side_eq.ghosts).eq sides one.source other.source)
    (Decides-and (option_eq (side_eq.ghosts).eq one.dest other.dest) (option_eq (element_eq.ghosts).eq one.element other.element && (option_eq (log_eq.ghosts).eq one.log other.log && (option_eq (option_eq (limit_eq.ghosts).eq) one.audit other.audit && option_eq (action_eq.ghosts).eq one.action other.action)))
    (optional (side_eq.ghosts).eq sides one.dest other.dest)
    (Decides-and (option_eq (element_eq.ghosts).eq one.element other.element) (option_eq (log_eq.ghosts).eq one.log other.log && (option_eq (option_eq (limit_eq.ghosts).eq) one.audit other.audit && option_eq (action_eq.ghosts).eq one.action other.action))
    (optional (element_eq.ghosts).eq elements one.element other.element)
    (Decides-and (option_eq (log_eq.ghosts).eq one.log other.log) (option_eq (option_eq (limit_eq.ghosts).eq) one.audit other.audit && option_eq (action_eq.ghosts).eq one.action other.action)
    (optional (log_eq.ghosts).eq logs one.log other.log)
    (Decides-and (option_eq (option_eq (limit_eq.ghosts).eq) one.audit other.audit) (option_eq (action_eq.ghosts).eq one.action other.action)
    (optional (option_eq (limit_eq.ghosts).eq) (optional (limit_eq.ghosts).eq limits) one.audit other.audit)
    (optional (action_eq.ghosts).eq actions one.action other.action))))))))

pub same_rules : IsEquality same_rule
same_rules = record { decides = rules_decided }
