-- What it means that chains of nft(8) do with packets what a walk of firewalld does. The walk (`fw_verdict`) stands on one side, the
-- evaluation of chains (`nf_chains`) on the other.
use Rattle.std.specs.Prelude.{◌≡◌, ℕ, List, [], ◌∷◌, ◌++◌, Option, None, Some}
use Rattle.fw_addr.specs.declared.log.LogLine.{LogLine}
use Rattle.fw_model.specs.Packets.{IsPacket}
use Rattle.fw_model.specs.declared.config.Config.{Config}
use Rattle.fw_model.specs.declared.outcome.Verdict.{Verdict}
use Rattle.fw_model.specs.declared.packet.Packet.{Packet}
use Rattle.fw_verdict.specs.Walk.{Walked}
use Rattle.fw_zone.specs.Lists.{IsIn}
use Rattle.lower_match.specs.Lowers.{EachStands}
use Rattle.nf_chains.specs.Evaluation.{Ends}
use Rattle.nf_chains.specs.Moments.{Moment}
use Rattle.nf_rules.specs.declared.chain.Chain.{Chain}
use Rattle.nf_rules.specs.declared.ruleset.Ruleset.{Ruleset}
use Rattle.nf_rules.specs.declared.rule.Rule.{Rule}
use Rattle.nf_rules.specs.declared.statement.Stmt.{Stmt}
use Rattle.nf_rules.specs.declared.statement.Stmt.TheVariants as stmt
use Rattle.nf_sound.specs.Names.{chain_of}

-- each of these chains is the one of its name in a ruleset
abbrev pub EachIsThere : List Chain → Ruleset → Type 0
EachIsThere chains rules = (chain : Chain) → IsIn chain chains → chain_of rules.chains chain.name ≡ Some chain

-- A packet meets a ruleset in which each ipset of a configuration stands as the set of its name.
pub record Meeting (config : Config) (rules : Ruleset) (now : Moment) : Type 0 where
  pub sets : EachStands config.ipsets rules.sets
  pub packet : IsPacket now.packet

-- A later moment of the same packet: these lines came behind those that were there, and so many rules were looked at.
abbrev pub behind_lines : List LogLine → ℕ → Moment → Moment
behind_lines lines count now = record now { logs = now.logs ++ lines; looked_at = count }

-- What was decided is the end. Where nothing was, the end is that of what comes next.
abbrev pub Follows : Option Verdict → (Verdict → Moment → Type 0) → Moment → Verdict → Moment → Type 0
Follows (Some chosen) next now verdict end = (verdict ≡ chosen) × (end ≡ now)
Follows None next now verdict end = next verdict end

-- From a moment, a jump to the chain of a name ends as the walk does: what the walk decides is decided there, with the lines of the walk
-- behind those so far; where it decides nothing, evaluation goes on with the rules behind the jump, and with these lines.
pub record JumpIs (rules : Ruleset) (leaving : Option (List ℕ)) (now : Moment) (name : List ℕ) (walked : Walked) : Type 0 where
  pub looked_at : ℕ
  pub ends : (others : List Stmt) (behind : List Rule) (returns : List (List Rule)) (verdict : Verdict) (end : Moment)
      → Follows walked.decided (Ends rules leaving [] behind returns (behind_lines walked.logs looked_at now)) (behind_lines walked.logs looked_at now) verdict end
      → Ends rules leaving (stmt.Jump name ∷ others) behind returns now verdict end

-- Chains do with every packet, at every moment and by whatever interface it leaves, if any, what a walk does, in every ruleset in which they and the ipsets stand under their names.
abbrev pub Evaluates : Config → List Chain → List ℕ → (Packet → Walked) → Type 0
Evaluates config chains name walked =
    (rules : Ruleset) (leaving : Option (List ℕ)) (now : Moment)
    → EachIsThere chains rules
    → Meeting config rules now
    → JumpIs rules leaving now name (walked now.packet)
