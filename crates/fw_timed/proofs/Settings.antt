-- The test of settings says whether they are one.
use Rattle.std.proofs.Common.{◌≡◌, ◌&&◌, Bool, refl, ap, rules, Option, None, Some, nat_eq}
use Rattle.std.specs.Bool.{Decides}
use Rattle.std.specs.Option.{option_eq}
use Rattle.std.proofs.lemmas.Bool.Decides.{Decides-and, Decides-eqb, Decides-like}
use Rattle.fw_addr.specs.contracts.addr.AddrPartialEq.TheImpl as addr_eq
use Rattle.fw_addr.specs.declared.addr.Addr.{Addr}
use Rattle.fw_answer.specs.Equal.{same_rule}
use Rattle.fw_answer.proofs.Rules.{same_rules}
use Rattle.fw_model.specs.contracts.forward.ForwardPartialEq.TheImpl as forward_eq
use Rattle.fw_model.specs.contracts.port.PortPartialEq.TheImpl as port_eq
use Rattle.fw_model.specs.contracts.setting.SettingPartialEq.TheImpl as setting_eq
use Rattle.fw_model.specs.declared.forward.Forward.{Forward}
use Rattle.fw_model.specs.declared.port.Port.{Port}
use Rattle.fw_model.specs.declared.setting.Setting.{Setting}
use Rattle.fw_model.specs.declared.setting.Setting.TheVariants as setting

-- a part that may be absent
optional : {A : Type 0} (same : A → A → Bool) → ((one other : A) → Decides (same one other) (one ≡ other)) → (one other : Option A) → Decides (option_eq same one other) (one ≡ other)
optional same decided None None = (λ is. refl, λ is. refl)
optional same decided None (Some other) = (λ is. cc, λ is. cc)
optional same decided (Some one) None = (λ is. cc, λ is. cc)
optional same decided (Some one) (Some other) = Decides-like (same one other) (λ is. ap Some is) (λ is. cc) (decided one other)

addresses : (one other : Addr) → Decides ((addr_eq.ghosts).eq one other) (one ≡ other)
addresses one other = (λ is. search rules, λ is. search rules)

ports : (one other : Port) → Decides ((port_eq.ghosts).eq one other) (one ≡ other)
ports one other = (λ is. search rules, λ is. search rules)

forwards : (one other : Forward) → Decides ((forward_eq.ghosts).eq one other) (one ≡ other)
forwards one other =
    Decides-like ((forward_eq.ghosts).eq one other)
    (λ (parts : (one.port ≡ other.port) × ((one.to_port ≡ other.to_port) × (one.to_addr ≡ other.to_addr))). λ i. record { port = parts.0 i; to_port = parts.1.0 i; to_addr = parts.1.1 i })
    (λ (is : one ≡ other). (ap (λ (f : Forward). f.port) is, (ap (λ (f : Forward). f.to_port) is, ap (λ (f : Forward). f.to_addr) is)))
    (Decides-and ((port_eq.ghosts).eq one.port other.port) (option_eq nat_eq one.to_port other.to_port && option_eq (addr_eq.ghosts).eq one.to_addr other.to_addr)
    (ports one.port other.port)
    (Decides-and (option_eq nat_eq one.to_port other.to_port) (option_eq (addr_eq.ghosts).eq one.to_addr other.to_addr)
    (optional nat_eq Decides-eqb one.to_port other.to_port) (optional (addr_eq.ghosts).eq addresses one.to_addr other.to_addr)))

pub settings : (one other : Setting) → Decides ((setting_eq.ghosts).eq one other) (one ≡ other)
settings (setting.Service one) (setting.Service other) = (λ is. search rules, λ is. search rules)
settings (setting.Service one) (setting.Port other) = (λ is. cc, λ is. cc)
settings (setting.Service one) (setting.Protocol other) = (λ is. cc, λ is. cc)
settings (setting.Service one) (setting.SourcePort other) = (λ is. cc, λ is. cc)
settings (setting.Service one) (setting.IcmpBlock other) = (λ is. cc, λ is. cc)
settings (setting.Service one) setting.Masquerade = (λ is. cc, λ is. cc)
settings (setting.Service one) (setting.Forward other) = (λ is. cc, λ is. cc)
settings (setting.Service one) (setting.Rich other) = (λ is. cc, λ is. cc)
settings (setting.Port one) (setting.Service other) = (λ is. cc, λ is. cc)
settings (setting.Port one) (setting.Port other) = (λ is. search rules, λ is. search rules)
settings (setting.Port one) (setting.Protocol other) = (λ is. cc, λ is. cc)
settings (setting.Port one) (setting.SourcePort other) = (λ is. cc, λ is. cc)
settings (setting.Port one) (setting.IcmpBlock other) = (λ is. cc, λ is. cc)
settings (setting.Port one) setting.Masquerade = (λ is. cc, λ is. cc)
settings (setting.Port one) (setting.Forward other) = (λ is. cc, λ is. cc)
settings (setting.Port one) (setting.Rich other) = (λ is. cc, λ is. cc)
settings (setting.Protocol one) (setting.Service other) = (λ is. cc, λ is. cc)
settings (setting.Protocol one) (setting.Port other) = (λ is. cc, λ is. cc)
settings (setting.Protocol one) (setting.Protocol other) = (λ is. search rules, λ is. search rules)
settings (setting.Protocol one) (setting.SourcePort other) = (λ is. cc, λ is. cc)
settings (setting.Protocol one) (setting.IcmpBlock other) = (λ is. cc, λ is. cc)
settings (setting.Protocol one) setting.Masquerade = (λ is. cc, λ is. cc)
settings (setting.Protocol one) (setting.Forward other) = (λ is. cc, λ is. cc)
settings (setting.Protocol one) (setting.Rich other) = (λ is. cc, λ is. cc)
settings (setting.SourcePort one) (setting.Service other) = (λ is. cc, λ is. cc)
settings (setting.SourcePort one) (setting.Port other) = (λ is. cc, λ is. cc)
settings (setting.SourcePort one) (setting.Protocol other) = (λ is. cc, λ is. cc)
settings (setting.SourcePort one) (setting.SourcePort other) = (λ is. search rules, λ is. search rules)
settings (setting.SourcePort one) (setting.IcmpBlock other) = (λ is. cc, λ is. cc)
settings (setting.SourcePort one) setting.Masquerade = (λ is. cc, λ is. cc)
settings (setting.SourcePort one) (setting.Forward other) = (λ is. cc, λ is. cc)
settings (setting.SourcePort one) (setting.Rich other) = (λ is. cc, λ is. cc)
settings (setting.IcmpBlock one) (setting.Service other) = (λ is. cc, λ is. cc)
settings (setting.IcmpBlock one) (setting.Port other) = (λ is. cc, λ is. cc)
settings (setting.IcmpBlock one) (setting.Protocol other) = (λ is. cc, λ is. cc)
settings (setting.IcmpBlock one) (setting.SourcePort other) = (λ is. cc, λ is. cc)
settings (setting.IcmpBlock one) (setting.IcmpBlock other) = (λ is. search rules, λ is. search rules)
settings (setting.IcmpBlock one) setting.Masquerade = (λ is. cc, λ is. cc)
settings (setting.IcmpBlock one) (setting.Forward other) = (λ is. cc, λ is. cc)
settings (setting.IcmpBlock one) (setting.Rich other) = (λ is. cc, λ is. cc)
settings setting.Masquerade (setting.Service other) = (λ is. cc, λ is. cc)
settings setting.Masquerade (setting.Port other) = (λ is. cc, λ is. cc)
settings setting.Masquerade (setting.Protocol other) = (λ is. cc, λ is. cc)
settings setting.Masquerade (setting.SourcePort other) = (λ is. cc, λ is. cc)
settings setting.Masquerade (setting.IcmpBlock other) = (λ is. cc, λ is. cc)
settings setting.Masquerade setting.Masquerade = (λ is. refl, λ is. refl)
settings setting.Masquerade (setting.Forward other) = (λ is. cc, λ is. cc)
settings setting.Masquerade (setting.Rich other) = (λ is. cc, λ is. cc)
settings (setting.Forward one) (setting.Service other) = (λ is. cc, λ is. cc)
settings (setting.Forward one) (setting.Port other) = (λ is. cc, λ is. cc)
settings (setting.Forward one) (setting.Protocol other) = (λ is. cc, λ is. cc)
settings (setting.Forward one) (setting.SourcePort other) = (λ is. cc, λ is. cc)
settings (setting.Forward one) (setting.IcmpBlock other) = (λ is. cc, λ is. cc)
settings (setting.Forward one) setting.Masquerade = (λ is. cc, λ is. cc)
settings (setting.Forward one) (setting.Forward other) = Decides-like ((forward_eq.ghosts).eq one other) (λ is. ap setting.Forward is) (λ is. cc) (forwards one other)
settings (setting.Forward one) (setting.Rich other) = (λ is. cc, λ is. cc)
settings (setting.Rich one) (setting.Service other) = (λ is. cc, λ is. cc)
settings (setting.Rich one) (setting.Port other) = (λ is. cc, λ is. cc)
settings (setting.Rich one) (setting.Protocol other) = (λ is. cc, λ is. cc)
settings (setting.Rich one) (setting.SourcePort other) = (λ is. cc, λ is. cc)
settings (setting.Rich one) (setting.IcmpBlock other) = (λ is. cc, λ is. cc)
settings (setting.Rich one) setting.Masquerade = (λ is. cc, λ is. cc)
settings (setting.Rich one) (setting.Forward other) = (λ is. cc, λ is. cc)
settings (setting.Rich one) (setting.Rich other) = Decides-like (same_rule one other) (λ is. ap setting.Rich is) (λ is. cc) (same_rules.decides one other)
