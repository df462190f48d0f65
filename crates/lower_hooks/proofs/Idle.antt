-- Settings that have nothing that may stand in the filter do nothing there.
use Rattle.std.proofs.Common.{◌≡◌, ◌∙◌, ◌==◌, Bool, true, false, not, ◌||◌, List, [], ◌∷◌, length, refl, ap, arith}
use Rattle.std.proofs.lemmas.Bool.{eqb-true}
use Rattle.fw_model.specs.declared.config.Config.{Config}
use Rattle.fw_model.specs.declared.packet.Packet.{Packet}
use Rattle.fw_model.specs.declared.rules.Rules.{Rules}
use Rattle.fw_model.specs.declared.zone.Zone.{Zone}
use Rattle.fw_verdict.specs.Items.{items}
use Rattle.fw_verdict.specs.Walk.{nothing, walk}
use Rattle.lower_hooks.specs.Settings.{has_settings, has_walk}

neither_first : (one other : Bool) → (one || other) ≡ false → one ≡ false
neither_first true other is = cc
neither_first false other is = refl

neither_second : (one other : Bool) → (one || other) ≡ false → other ≡ false
neither_second true other is = cc
neither_second false other is = is

empty : {A : Type 0} (xs : List A) → not (length xs == 0) ≡ false → xs ≡ []
empty [] is = refl
empty (x ∷ xs) is = absurd (omega (arith, eqb-true (length (x ∷ xs)) 0 (turned (length (x ∷ xs) == 0) is)))
  where
    turned : (b : Bool) → not b ≡ false → b ≡ true
    turned true is = refl
    turned false is = cc

nothing_in : (config : Config) (packet : Packet) (rules : Rules)
    → rules.services ≡ [] → rules.ports ≡ [] → rules.protocols ≡ [] → rules.source_ports ≡ [] → rules.icmp_blocks ≡ [] → rules.rich ≡ []
    → walk (items config rules false) packet ≡ nothing
nothing_in config packet rules services ports protocols source_ports icmp rich =
    ap (λ list. walk (items config (record rules { services = list }) false) packet) services
    ∙ ap (λ list. walk (items config (record rules { services = []; ports = list }) false) packet) ports
    ∙ ap (λ list. walk (items config (record rules { services = []; ports = []; protocols = list }) false) packet) protocols
    ∙ ap (λ list. walk (items config (record rules { services = []; ports = []; protocols = []; source_ports = list }) false) packet) source_ports
    ∙ ap (λ list. walk (items config (record rules { services = []; ports = []; protocols = []; source_ports = []; icmp_blocks = list }) false) packet) icmp
    ∙ ap (λ list. walk (items config (record rules { services = []; ports = []; protocols = []; source_ports = []; icmp_blocks = []; rich = list }) false) packet) rich

pub idle : (config : Config) (rules : Rules) (packet : Packet) → has_settings rules ≡ false → walk (items config rules false) packet ≡ nothing
idle config rules packet none =
    let five = neither_first _ (not (length rules.rich == 0)) none in
    let four = neither_first _ (not (length rules.icmp_blocks == 0)) five in
    let three = neither_first _ (not (length rules.source_ports == 0)) four in
    let two = neither_first _ (not (length rules.protocols == 0)) three in
    nothing_in config packet rules
    (empty rules.services (neither_first _ (not (length rules.ports == 0)) two))
    (empty rules.ports (neither_second (not (length rules.services == 0)) _ two))
    (empty rules.protocols (neither_second (not (length rules.services == 0) || not (length rules.ports == 0)) _ three))
    (empty rules.source_ports (neither_second (not (length rules.services == 0) || not (length rules.ports == 0) || not (length rules.protocols == 0)) _ four))
    (empty rules.icmp_blocks (neither_second (not (length rules.services == 0) || not (length rules.ports == 0) || not (length rules.protocols == 0) || not (length rules.source_ports == 0)) _ five))
    (empty rules.rich (neither_second (not (length rules.services == 0) || not (length rules.ports == 0) || not (length rules.protocols == 0) || not (length rules.source_ports == 0) || not (length rules.icmp_blocks == 0)) _ none))

pub idle_zone : (config : Config) (zone : Zone) (packet : Packet) → has_walk zone ≡ false → walk (items config zone.rules zone.inversion) packet ≡ nothing
idle_zone config zone packet none =
    ap (λ (inversion : Bool). walk (items config zone.rules inversion) packet) (neither_first zone.inversion (has_settings zone.rules) none)
    ∙ idle config zone.rules packet (neither_second zone.inversion (has_settings zone.rules) none)
