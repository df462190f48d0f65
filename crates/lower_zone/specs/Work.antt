-- What rules do that are added to a chain one after another, and the chains that they lead to.
use Rattle.std.specs.Prelude.{◌≡◌, ◌≢◌, ◌<◌, ◌^◌, ℕ, List, [], ◌∷◌, ◌++◌, ◌≤◌, length, Bool, ◌&&◌, Option, None, Some, IsTrue, if◌then◌else◌}
use Rattle.std.specs.List.{AllPairs, list_all, list_any}
use Rattle.fw_addr.specs.declared.log.LogLine.{LogLine}
use Rattle.fw_model.specs.declared.config.Config.{Config}
use Rattle.fw_model.specs.declared.outcome.Verdict.{Verdict}
use Rattle.fw_model.specs.declared.packet.Packet.{Packet}
use Rattle.fw_verdict.specs.Walk.{Effect, Walked, done, nothing}
use Rattle.lower_match.specs.Stands.{EachHasSet, Stand}
use Rattle.lower_zone.specs.Evaluates.{EachIsThere, Follows, Meeting, behind_lines}
use Rattle.lower_zone.specs.Forms.{chain_named, jump_to}
use Rattle.lower_zone.specs.Names.{own_name, part_name, place}
use Rattle.fw_zone.specs.Lists.{IsIn}
use Rattle.fw_verdict.specs.declared.rich.Part.{Part}
use Rattle.nf_chains.specs.Condition.{are_plain}
use Rattle.nf_chains.specs.Evaluation.{Ends}
use Rattle.nf_chains.specs.Moments.{Moment}
use Rattle.nf_chains.specs.Tests.{match_at}
use Rattle.nf_rules.specs.declared.chain.Chain.{Chain}
use Rattle.nf_rules.specs.declared.rule.Match.{Match}
use Rattle.nf_rules.specs.declared.ruleset.Ruleset.{Ruleset}
use Rattle.nf_rules.specs.declared.rule.Rule.{Rule}
use Rattle.nf_sound.specs.Sound.{IsIn as IsNameIn, Path, rule_stands}
use Rattle.nf_sound.specs.Targets.{rule_targets}

-- From a moment, rules that stand before others do what a walk does.
pub record Do (rules : Ruleset) (leaving : Option (List ℕ)) (made : List Rule) (now : Moment) (walked : Walked) : Type 0 where
  pub looked_at : ℕ
  pub ends : (behind : List Rule) (returns : List (List Rule)) (verdict : Verdict) (end : Moment)
      → Follows walked.decided (Ends rules leaving [] behind returns (behind_lines walked.logs looked_at now)) (behind_lines walked.logs looked_at now) verdict end
      → Ends rules leaving [] (made ++ behind) returns now verdict end

-- The rules of a whole chain do what a walk does. At its end it comes back.
pub record ChainDoes (rules : Ruleset) (leaving : Option (List ℕ)) (made : List Rule) (now : Moment) (walked : Walked) : Type 0 where
  pub looked_at : ℕ
  pub ends : (returns : List (List Rule)) (verdict : Verdict) (end : Moment)
      → Follows walked.decided (Ends rules leaving [] [] returns (behind_lines walked.logs looked_at now)) (behind_lines walked.logs looked_at now) verdict end
      → Ends rules leaving [] made returns now verdict end

-- one of the alternatives holds, all of its matches do
abbrev pub one_holds_at : Option (List ℕ) → Ruleset → Packet → List (List Match) → Bool
one_holds_at leaving rules packet alternatives = list_any (list_all (match_at leaving rules.sets packet)) alternatives

-- A condition is told in alternatives, which look up sets of ipsets alone.
pub record Tells (config : Config) (alternatives : List (List Match)) (condition : Packet → Bool) : Type 0 where
  pub holds : (rules : Ruleset) (leaving : Option (List ℕ)) (now : Moment)
      → Meeting config rules now
      → condition now.packet ≡ one_holds_at leaving rules now.packet alternatives
  pub stand : Stand config.ipsets alternatives

-- what an effect does under a condition
abbrev pub under : (Packet → Bool) → Walked → Packet → Walked
under condition walked packet = if condition packet then walked else nothing

-- What rules and chains that stand together ask of the ruleset that they are in, and how many links lead on at most behind one from these rules.
pub record AreBuilt (config : Config) (depth : ℕ) (rules : List Rule) (chains : List Chain) : Type 0 where
  pub stand : (table : Ruleset) → EachIsThere chains table → EachHasSet config.ipsets table → IsTrue (list_all (rule_stands table) rules)
  pub chains_stand : (table : Ruleset) → EachIsThere chains table → EachHasSet config.ipsets table
      → IsTrue (list_all (λ chain. list_all (rule_stands table) chain.rules) chains)
  pub short : (table : Ruleset) → EachIsThere chains table
      → (to : List ℕ) → IsNameIn to (rule_targets table.maps rules) → (links : ℕ) → Path table to links → links ≤ depth
  pub chains_short : (table : Ruleset) → EachIsThere chains table
      → (chain : Chain) → IsIn chain chains → (links : ℕ) → Path table chain.name links → links ≤ depth
  pub no_base : (chain : Chain) → IsIn chain chains → chain.base ≡ None
  pub plain : IsTrue (are_plain rules)
  pub chains_plain : IsTrue (list_all (λ chain. are_plain chain.rules) chains)

-- Rules and chains were added that do what a walk does, and lead so many links on at most behind the first.
pub record AddsTo (depth : ℕ) (config : Config) (walked : Packet → Walked) (old_rules new_rules : List Rule) (old_chains new_chains : List Chain) : Type 0 where
  pub rules : List Rule
  pub chains : List Chain
  pub new_rules_are : new_rules ≡ old_rules ++ rules
  pub new_chains_are : new_chains ≡ old_chains ++ chains
  pub work : (table : Ruleset) (leaving : Option (List ℕ)) (now : Moment)
      → EachIsThere chains table
      → Meeting config table now
      → Do table leaving rules now (walked now.packet)
  pub built : AreBuilt config depth rules chains

-- to a part, whose rules lead to chains of their own
abbrev pub Adds : Config → (Packet → Walked) → List Rule → List Rule → List Chain → List Chain → Type 0
Adds config walked old_rules new_rules old_chains new_chains = AddsTo 0 config walked old_rules new_rules old_chains new_chains

-- to a block, whose rules lead to those of its parts
abbrev pub AddsParts : Config → (Packet → Walked) → List Rule → List Rule → List Chain → List Chain → Type 0
AddsParts config walked old_rules new_rules old_chains new_chains = AddsTo 1 config walked old_rules new_rules old_chains new_chains

-- A chain of its own was added, and a jump to it.
pub record HasOwn (block : List ℕ) (own : List Rule) (old_rules new_rules : List Rule) (old_chains new_chains : List Chain) : Type 0 where
  pub rules : new_rules ≡ old_rules ++ jump_to (own_name (length old_chains) block) ∷ []
  pub chains : new_chains ≡ old_chains ++ chain_named (own_name (length old_chains) block) own ∷ []
  pub fits : length old_chains < 2 ^ 64

-- A name that a chain of a block may have so far: of a part before one in order, or of a chain of its own by a number below.
pub data IsTaken (block : List ℕ) (parts count : ℕ) (name : List ℕ) : Type 0 where
  of_part : (part : Part) → place part < parts → name ≡ part_name part block → IsTaken block parts count name
  own : (number : ℕ) → number < count → number < 2 ^ 64 → name ≡ own_name number block → IsTaken block parts count name

-- Chains so far have such names, and no two of them have the same.
pub record AreNamed (block : List ℕ) (parts : ℕ) (chains : List Chain) : Type 0 where
  pub each : (chain : Chain) → IsIn chain chains → IsTaken block parts (length chains) chain.name
  pub differ : AllPairs (λ one other. one.name ≢ other.name) chains
