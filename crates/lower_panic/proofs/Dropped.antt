-- In panic mode every packet is dropped by the ruleset, as it is by the settings.
use Rattle.std.proofs.Common.{◌≡◌, ℕ, zero, suc, Bool, true, false, List, [], ◌∷◌, refl, sym, ap, subst, if◌then◌else◌, arith}
use Rattle.std.specs.Str.{bytes_eq}
use Rattle.fw_model.specs.declared.outcome.Verdict.TheVariants as verdict
use Rattle.fw_model.specs.declared.packet.Origin.{Origin}
use Rattle.fw_model.specs.declared.packet.Origin.TheVariants as origin
use Rattle.fw_model.specs.declared.packet.Packet.{Packet}
use Rattle.fw_model.specs.declared.packet.Via.{Via}
use Rattle.fw_model.specs.declared.packet.Via.TheVariants as via
use Rattle.fw_verdict.specs.Way.{panicked, passed as walked}
use Rattle.lower_panic.specs.Laws.{PanicRulesCompile}
use Rattle.lower_panic.specs.Panic.{panic_rules}
use Rattle.nf_chains.proofs.Sound.{of_found}
use Rattle.nf_chains.specs.Evaluation.Ends.{drops, looks}
use Rattle.nf_chains.specs.Hooks.{Goes, Passes, routed, stops_behind, stops_before}
use Rattle.nf_chains.specs.Hooks.Goes.{refused as turned_away, routed_on}
use Rattle.nf_chains.specs.Hooks.Meets.{refused}
use Rattle.nf_chains.specs.Hooks.Passes.{stopped, through}
use Rattle.nf_chains.specs.Moments.{Moment, first_moment, looking}
use Rattle.nf_rules.specs.declared.chain.Chain.{Chain}
use Rattle.nf_sound.specs.Names.{IsByName}
use Rattle.nf_sound.specs.Sound.{IsIn, IsShort, SoundRules}
use Rattle.nf_sound.specs.Sound.Path.{stays, link}
use Rattle.nf_sound.specs.Targets.{rule_targets}

-- what the host sends is dropped at output
leaves_not : (to : Via) (now : Moment) → Passes panic_rules (stops_behind origin.Host to) now verdict.Drop (looking now)
leaves_not via.Local now = stopped (refused refl refl (looks refl drops) refl) refl
leaves_not (via.Link name) now = stopped (refused refl refl (looks refl drops) refl) refl

drops_from : (packet : Packet) (from : Origin) → packet.origin ≡ from → Goes panic_rules packet verdict.Drop (looking (first_moment packet))
drops_from packet origin.Host is =
    routed_on {now = first_moment packet}
    (subst (λ (o : Origin). Passes panic_rules (stops_before o) (first_moment packet) verdict.Accept (first_moment packet)) (sym is) through)
    (subst (λ (o : Origin). Passes panic_rules (stops_behind o (routed (first_moment packet))) (first_moment packet) verdict.Drop (looking (first_moment packet))) (sym is) (leaves_not (routed (first_moment packet)) (first_moment packet)))
drops_from packet (origin.Link name) is =
    turned_away
    (subst (λ (o : Origin). Passes panic_rules (stops_before o) (first_moment packet) verdict.Drop (looking (first_moment packet))) (sym is) (stopped (refused refl refl (looks refl drops) refl) refl))
    refl

-- the two chains stand in order of their names
in_order : IsByName (λ (chain : Chain). chain.name) panic_rules.chains
in_order zero zero d before within = absurd (omega arith)
in_order zero (suc zero) d before within = refl
in_order zero (suc (suc j)) d before within = absurd (omega arith)
in_order (suc i) zero d before within = absurd (omega arith)
in_order (suc i) (suc zero) d before within = absurd (omega arith)
in_order (suc i) (suc (suc j)) d before within = absurd (omega arith)

-- and lead nowhere
abbrev is_end : List (List ℕ) → Bool
is_end [] = true
is_end (name ∷ names) = false

none_among : (name : List ℕ) (names : List (List ℕ)) → is_end names ≡ true → IsIn name names → ⊥
none_among name [] is among = among
none_among name (first ∷ names) is among = cc

are_short : (name : List ℕ) → IsShort panic_rules name
are_short name links stays = omega arith
are_short name links (link {to = to} {chain = chain} found among path) =
    absurd (none_among to (rule_targets [] chain.rules) (of_found (λ (one : Chain). bytes_eq one.name name) (λ (one : Chain). is_end (rule_targets [] one.rules)) panic_rules.chains chain found refl) among)

is_sound : SoundRules panic_rules
is_sound = record {
  rules_stand = refl;
  maps_stand = refl;
  by_name = record {
    chains = in_order;
    sets = λ i j d before within. absurd (omega arith);
    maps = λ i j d before within. absurd (omega arith);
  };
  short = are_short;
}

pub panic_compiles : PanicRulesCompile
panic_compiles runtime panics = record {
  sound = is_sound;
  outcomes = λ packet is. record {
    verdict = verdict.Drop;
    end = looking (first_moment packet);
    goes = drops_from packet packet.origin refl;
    is = ap (λ (panic : Bool). if panic then panicked packet else walked runtime.config packet) panics;
  };
}
