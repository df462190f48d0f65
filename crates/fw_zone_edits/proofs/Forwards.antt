-- The test of forward ports says whether they are one.
use Rattle.std.proofs.Common.{◌≡◌, ◌&&◌, Bool, refl, ap, rules, Option, None, Some, nat_eq}
use Rattle.std.specs.Bool.{Decides}
use Rattle.std.specs.Option.{option_eq}
use Rattle.std.proofs.lemmas.Bool.Decides.{Decides-and, Decides-eqb, Decides-like}
use Rattle.fw_addr.specs.contracts.addr.AddrPartialEq.TheImpl as addr_eq
use Rattle.fw_addr.specs.declared.addr.Addr.{Addr}
use Rattle.fw_model.specs.contracts.forward.ForwardPartialEq.TheImpl as forward_eq
use Rattle.fw_model.specs.contracts.port.PortPartialEq.TheImpl as port_eq
use Rattle.fw_model.specs.declared.forward.Forward.{Forward}
use Rattle.fw_model.specs.declared.port.Port.{Port}
use Rattle.fw_answer.proofs.Items.{IsEquality}
use Rattle.fw_zone_edits.specs.Settings.{same_forward}

-- a part that may be absent
optional : {A : Type 0} (same : A → A → Bool) → ((one other : A) → Decides (same one other) (one ≡ other)) → (one other : Option A) → Decides (option_eq same one other) (one ≡ other)
optional same decided None None = (λ is. refl, λ is. refl)
optional same decided None (Some other) = (λ is. cc, λ is. cc)
optional same decided (Some one) None = (λ is. cc, λ is. cc)
optional same decided (Some one) (Some other) = Decides-like (same one other) (λ is. ap Some is) (λ is. cc) (decided one other)

addresses : (one other : Addr) → Decides ((addr_eq.ghosts).eq one other) (one ≡ other)
addresses one other = (λ is. search rules, λ is. search rules)

ports : (one other : Port) → Decides ((port_eq.ghosts).eq one other) (one ≡ other)
ports one other = (λ is. search rules, λ is. search rules)

decided : (one other : Forward) → Decides ((forward_eq.ghosts).eq one other) (one ≡ other)
decided one other =
    Decides-like ((forward_eq.ghosts).eq one other)
    (λ (parts : (one.port ≡ other.port) × ((one.to_port ≡ other.to_port) × (one.to_addr ≡ other.to_addr))). λ i. record { port = parts.0 i; to_port = parts.1.0 i; to_addr = parts.1.1 i })
    (λ (is : one ≡ other). (ap (λ (f : Forward). f.port) is, (ap (λ (f : Forward). f.to_port) is, ap (λ (f : Forward). f.to_addr) is)))
    (Decides-and ((port_eq.ghosts).eq one.port other.port) (option_eq nat_eq one.to_port other.to_port && option_eq (addr_eq.ghosts).eq one.to_addr other.to_addr)
    (ports one.port other.port)
    (Decides-and (option_eq nat_eq one.to_port other.to_port) (option_eq (addr_eq.ghosts).eq one.to_addr other.to_addr)
    (optional nat_eq Decides-eqb one.to_port other.to_port) (optional (addr_eq.ghosts).eq addresses one.to_addr other.to_addr)))

pub same_forwards : IsEquality same_forward
unfolding same_forward
same_forwards = record { decides = decided }
