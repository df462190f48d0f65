-- What rules do that are added to a chain one after another, and the chains that they lead to.
use Rattle.std.specs.Prelude.{◌≡◌, ◌≢◌, ◌<◌, ◌^◌, ◌≤◌, ◌⊎◌, ℕ, List, [], ◌∷◌, ◌++◌, length, true, false, Bool, Option, None, IsTrue}
use Rattle.std.specs.List.{AllPairs, list_all}
use Rattle.fw_model.specs.declared.config.Config.{Config}
use Rattle.fw_model.specs.declared.outcome.Verdict.{Verdict}
use Rattle.fw_verdict.specs.Changes.{ChangeItem, Reached, through}
use Rattle.fw_verdict.specs.declared.sides.Side.{Side}
use Rattle.fw_zone.specs.Lists.{IsIn}
use Rattle.lower_match.specs.Stands.{EachHasSet}
use Rattle.lower_outside.specs.Does.{FromThere, KeepPackets, Reach, passing_of}
use Rattle.lower_outside.specs.Names.{own_name}
use Rattle.lower_outside.specs.declared.steps.Step.{Step}
use Rattle.lower_zone.specs.Evaluates.{EachIsThere, Meeting}
use Rattle.lower_zone.specs.Forms.{chain_named, each, jump_to}
use Rattle.nf_chains.specs.Evaluation.{Ends}
use Rattle.nf_chains.specs.Moments.{Moment}
use Rattle.nf_rules.specs.declared.chain.Chain.{Chain}
use Rattle.nf_rules.specs.declared.rule.Match.{Match}
use Rattle.nf_rules.specs.declared.rule.Rule.{Rule}
use Rattle.nf_rules.specs.declared.ruleset.Ruleset.{Ruleset}
use Rattle.nf_rules.specs.declared.statement.Stmt.{Stmt}
use Rattle.nf_rules.specs.declared.statement.Stmt.TheVariants as stmt
use Rattle.nf_sound.specs.Sound.{IsIn as IsNameIn, Path, rule_stands}
use Rattle.nf_sound.specs.Targets.{rule_targets}

-- The rules of a whole chain come to where a walk does. At its end it comes back.
pub record ChainReaches (rules : Ruleset) (leaving : Option (List ℕ)) (made : List Rule) (now : Moment) (reached : Reached) : Type 0 where
  pub looked_at : ℕ
  pub ends : (returns : List (List Rule)) (verdict : Verdict) (end : Moment)
      → FromThere rules leaving [] returns reached looked_at verdict end
      → Ends rules leaving [] made returns now verdict end

-- What rules and chains that stand together ask of the ruleset that they are in, and how many links lead on at most behind one from these
-- rules.
pub record AreBuilt (config : Config) (depth : ℕ) (rules : List Rule) (chains : List Chain) : Type 0 where
  pub stand : (table : Ruleset) → EachIsThere chains table → EachHasSet config.ipsets table → IsTrue (list_all (rule_stands table) rules)
  pub chains_stand : (table : Ruleset) → EachIsThere chains table → EachHasSet config.ipsets table
      → IsTrue (list_all (λ chain. list_all (rule_stands table) chain.rules) chains)
  pub short : (table : Ruleset) → EachIsThere chains table
      → (to : List ℕ) → IsNameIn to (rule_targets table.maps rules) → (links : ℕ) → Path table to links → links ≤ depth
  pub chains_short : (table : Ruleset) → EachIsThere chains table
      → (chain : Chain) → IsIn chain chains → (links : ℕ) → Path table chain.name links → links ≤ depth
  pub no_base : (chain : Chain) → IsIn chain chains → chain.base ≡ None

-- Rules and chains were added that do what a list of changes does, and lead nowhere behind the chains.
pub record Adds (config : Config) (items : List ChangeItem) (old_rules new_rules : List Rule) (old_chains new_chains : List Chain) : Type 0 where
  pub rules : List Rule
  pub chains : List Chain
  pub new_rules_are : new_rules ≡ old_rules ++ rules
  pub new_chains_are : new_chains ≡ old_chains ++ chains
  pub work : (table : Ruleset) (leaving : Option (List ℕ)) (now : Moment)
      → EachIsThere chains table
      → Meeting config table now
      → Reach table leaving rules now (through items (passing_of now))
  pub keep : KeepPackets items
  pub built : AreBuilt config 0 rules chains

-- A statement ends the base chain: behind it no other alternative is looked at.
abbrev pub is_last : Stmt → Bool
is_last stmt.Accept = false
is_last stmt.Drop = false
is_last (stmt.Reject kind) = false
is_last (stmt.Jump name) = false
is_last (stmt.Goto name) = false
is_last stmt.Return = false
is_last (stmt.Log line) = false
is_last (stmt.Mark value mask) = false
is_last (stmt.DnatTo dnat) = true
is_last stmt.Masquerade = true
is_last (stmt.VmapIn map) = false
is_last (stmt.VmapOut map) = false
is_last (stmt.VmapSrc map) = false
is_last (stmt.VmapDst map) = false

-- What does something once, in a chain of its own: what meets one alternative goes back.
abbrev pub once_rules : Stmt → List (List Match) → List Rule
once_rules statement alternatives = each (statement ∷ stmt.Return ∷ []) alternatives

-- A chain of its own was added, and a jump to it.
pub record HasOwn (of : Side) (block : List ℕ) (own : List Rule) (old_rules new_rules : List Rule) (old_chains new_chains : List Chain) : Type 0 where
  pub rules : new_rules ≡ old_rules ++ jump_to (own_name of (length old_chains) block) ∷ []
  pub chains : new_chains ≡ old_chains ++ chain_named (own_name of (length old_chains) block) own ∷ []
  pub fits : length old_chains < 2 ^ 64

-- The rules of a step were added: a rule for each alternative, or a chain of its own.
pub data HasStep (of : Side) (block : List ℕ) (step : Step) (old_rules new_rules : List Rule) (old_chains new_chains : List Chain) : Type 0 where
  alone : (length step.alternatives ≤ 1) ⊎ (is_last step.stmt ≡ true)
      → new_rules ≡ old_rules ++ each (step.stmt ∷ []) step.alternatives
      → new_chains ≡ old_chains
      → HasStep of block step old_rules new_rules old_chains new_chains
  own : is_last step.stmt ≡ false
      → HasOwn of block (once_rules step.stmt step.alternatives) old_rules new_rules old_chains new_chains
      → HasStep of block step old_rules new_rules old_chains new_chains

-- A name that a chain of a block may have so far: of a chain of its own by a number below.
pub record IsTaken (of : Side) (block : List ℕ) (count : ℕ) (name : List ℕ) : Type 0 where
  pub number : ℕ
  pub below : number < count
  pub fits : number < 2 ^ 64
  pub is : name ≡ own_name of number block

-- Chains so far have such names, and no two of them have the same.
pub record AreNamed (of : Side) (block : List ℕ) (chains : List Chain) : Type 0 where
  pub each : (chain : Chain) → IsIn chain chains → IsTaken of block (length chains) chain.name
  pub differ : AllPairs (λ one other. one.name ≢ other.name) chains
