-- What it means that rules of nft(8) lead packets to the chains of their zones. To which zone a packet belongs (firewalld.zones(5):
-- `ingress` and `egress`) stands on one side, the evaluation of rules (`Ends`) on the other.
use Rattle.std.specs.Prelude.{◌≡◌, ℕ, List, [], ◌∷◌, ◌++◌, Option, Some}
use Rattle.std.specs.Option.{option_and_then}
use Rattle.fw_hits.specs.Bindings.{egress, ingress}
use Rattle.fw_model.specs.declared.config.Config.{Config}
use Rattle.fw_model.specs.declared.outcome.Verdict.{Verdict}
use Rattle.fw_model.specs.declared.packet.Packet.{Packet}
use Rattle.fw_model.specs.declared.zone.Zone.{Zone}
use Rattle.lower_dispatch.specs.declared.direction.Direction.{Direction}
use Rattle.lower_dispatch.specs.declared.direction.Direction.TheVariants as direction
use Rattle.lower_match.specs.Lowers.{EachStands}
use Rattle.nf_chains.specs.Evaluation.{Ends}
use Rattle.nf_chains.specs.Moments.{Moment}
use Rattle.nf_rules.specs.declared.rule.Rule.{Rule}
use Rattle.nf_rules.specs.declared.ruleset.Ruleset.{Ruleset}
use Rattle.nf_rules.specs.declared.statement.Stmt.{Stmt}
use Rattle.nf_rules.specs.declared.statement.Stmt.TheVariants as stmt

-- the zone that a packet comes from, or that it goes to by the interface by which it leaves, if any
abbrev pub zone_on : Direction → Config → Option (List ℕ) → Packet → Option Zone
zone_on direction.Ingress config leaving packet = ingress config packet
zone_on direction.Egress config leaving packet = option_and_then (egress config packet) leaving

-- the moment at which so many rules were looked at
abbrev pub at_count : ℕ → Moment → Moment
at_count count now = record now { looked_at = count }

-- From a moment, rules that stand before any others lead to the chain of a name for good: an end from a `goto` to it, in whatever rule,
-- is an end from them.
pub record LeadTo (rules : Ruleset) (leaving : Option (List ℕ)) (made : List Rule) (now : Moment) (name : List ℕ) : Type 0 where
  pub looked_at : ℕ
  pub ends : (others : List Stmt) (behind : List Rule) (returns : List (List Rule)) (verdict : Verdict) (end : Moment)
      → Ends rules leaving (stmt.Goto name ∷ others) behind returns (at_count looked_at now) verdict end
      → Ends rules leaving [] (made ++ behind) returns now verdict end

-- In every ruleset in which each ipset stands as the set of its name, rules lead a packet at every moment to the chain of its zone,
-- which has the zone's name behind the same beginning.
abbrev pub Dispatches : Config → Direction → List ℕ → List Rule → Type 0
Dispatches config direction start made =
    (rules : Ruleset) (leaving : Option (List ℕ)) (now : Moment) (zone : Zone)
    → EachStands config.ipsets rules.sets
    → zone_on direction config leaving now.packet ≡ Some zone
    → LeadTo rules leaving made now (start ++ zone.name)
