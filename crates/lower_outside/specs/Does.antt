-- What it means that rules of nft(8) do with packets what a list of changes does. The list (`through` of `fw_verdict`) stands on one side,
-- the evaluation of rules (`Ends` of `nf_chains`) on the other.
use Rattle.std.specs.Prelude.{◌≡◌, ℕ, List, [], ◌∷◌, ◌++◌, Bool, true, false, Option}
use Rattle.fw_model.specs.Packets.{IsPacket}
use Rattle.fw_model.specs.declared.config.Config.{Config}
use Rattle.fw_model.specs.declared.outcome.Verdict.{Verdict}
use Rattle.fw_model.specs.declared.outcome.Verdict.TheVariants.{Accept}
use Rattle.fw_verdict.specs.Changes.{ChangeItem, Passing, Reached, through}
use Rattle.lower_zone.specs.Evaluates.{EachIsThere, Meeting}
use Rattle.nf_chains.specs.Evaluation.{Ends}
use Rattle.nf_chains.specs.Moments.{Moment}
use Rattle.nf_rules.specs.declared.chain.Chain.{Chain}
use Rattle.nf_rules.specs.declared.rule.Rule.{Rule}
use Rattle.nf_rules.specs.declared.ruleset.Ruleset.{Ruleset}
use Rattle.nf_rules.specs.declared.statement.Stmt.{Stmt}
use Rattle.nf_rules.specs.declared.statement.Stmt.TheVariants as stmt

-- A packet on its way, as it is at a moment of evaluation, and the moment at which it is so and so many rules were looked at.
abbrev pub passing_of : Moment → Passing
passing_of now = record { packet = now.packet; dnat = now.dnat; masquerade = now.masquerade; logs = now.logs }

abbrev pub moment_of : Passing → ℕ → Moment
moment_of now count =
    record { packet = now.packet; dnat = now.dnat; masquerade = now.masquerade; logs = now.logs; looked_at = count }

-- Where a walk is over, the base chain ends there, and lets the packet on. Where it isn't, the end is that of what comes next.
abbrev pub Onward : Bool → (Verdict → Moment → Type 0) → Moment → Verdict → Moment → Type 0
Onward true next now verdict end = (verdict ≡ Accept) × (end ≡ now)
Onward false next now verdict end = next verdict end

-- from where a walk has come to, behind so many rules
abbrev pub FromThere : Ruleset → Option (List ℕ) → List Rule → List (List Rule) → Reached → ℕ → Verdict → Moment → Type 0
FromThere rules leaving behind returns reached count verdict end =
    Onward reached.over (Ends rules leaving [] behind returns (moment_of reached.now count)) (moment_of reached.now count) verdict end

-- From a moment, rules that stand before others come to where a walk does.
pub record Reach (rules : Ruleset) (leaving : Option (List ℕ)) (made : List Rule) (now : Moment) (reached : Reached) : Type 0 where
  pub looked_at : ℕ
  pub ends : (behind : List Rule) (returns : List (List Rule)) (verdict : Verdict) (end : Moment)
      → FromThere rules leaving behind returns reached looked_at verdict end
      → Ends rules leaving [] (made ++ behind) returns now verdict end

-- From a moment, a jump to the chain of a name does.
pub record JumpReaches (rules : Ruleset) (leaving : Option (List ℕ)) (now : Moment) (name : List ℕ) (reached : Reached) : Type 0 where
  pub looked_at : ℕ
  pub ends : (others : List Stmt) (behind : List Rule) (returns : List (List Rule)) (verdict : Verdict) (end : Moment)
      → FromThere rules leaving behind returns reached looked_at verdict end
      → Ends rules leaving (stmt.Jump name ∷ others) behind returns now verdict end

-- Chains do with every packet, at every moment, what a list of changes does, in every ruleset in which they and the ipsets stand
-- under their names.
abbrev pub Changes : Config → List Chain → List ℕ → List ChangeItem → Type 0
Changes config chains name items =
    (rules : Ruleset) (leaving : Option (List ℕ)) (now : Moment)
    → EachIsThere chains rules
    → Meeting config rules now
    → JumpReaches rules leaving now name (through items (passing_of now))

-- What a list of changes makes of a packet is a packet.
abbrev pub KeepPackets : List ChangeItem → Type 0
KeepPackets items = (now : Passing) → IsPacket now.packet → IsPacket (through items now).now.packet
