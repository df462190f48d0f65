-- Which rulesets are sound: one that isn't can't be installed (nft(8), "RULESET"), or leads packets round and round.
use Rattle.std.specs.Prelude.{◌≡◌, ℕ, suc, ◌≤◌, ◌&&◌, ◌⊎◌, Bool, true, List, [], ◌∷◌, Some, IsTrue, is_some}
use Rattle.std.specs.List.{list_all}
use Rattle.nf_rules.specs.declared.chain.Chain.{Chain}
use Rattle.nf_rules.specs.declared.map.NfMap.{NfMap}
use Rattle.nf_rules.specs.declared.rule.Rule.{Rule}
use Rattle.nf_rules.specs.declared.ruleset.Ruleset.{Ruleset}
use Rattle.nf_rules.specs.declared.statement.Stmt.{Stmt}
use Rattle.nf_rules.specs.declared.statement.Stmt.TheVariants as stmt
use Rattle.nf_rules.specs.declared.test.Test.{Test}
use Rattle.nf_rules.specs.declared.test.Test.TheVariants as test
use Rattle.nf_sound.specs.Names.{AreByName, chain_of, map_of, set_of}
use Rattle.nf_sound.specs.Targets.{rule_targets, values}

-- The set that a test looks up is there.
abbrev pub test_stands : Ruleset → Test → Bool
test_stands rules (test.SrcSet name) = is_some (set_of rules.sets name)
test_stands rules (test.DstSet name) = is_some (set_of rules.sets name)
test_stands rules (test.SrcMacSet name) = is_some (set_of rules.sets name)
test_stands rules (test.DportSet proto name) = is_some (set_of rules.sets name)
test_stands rules other = true

-- The chain that a statement jumps to and the map that it looks up are there.
abbrev pub statement_stands : Ruleset → Stmt → Bool
statement_stands rules (stmt.Jump name) = is_some (chain_of rules.chains name)
statement_stands rules (stmt.Goto name) = is_some (chain_of rules.chains name)
statement_stands rules (stmt.VmapIn name) = is_some (map_of rules.maps name)
statement_stands rules (stmt.VmapOut name) = is_some (map_of rules.maps name)
statement_stands rules (stmt.VmapSrc name) = is_some (map_of rules.maps name)
statement_stands rules (stmt.VmapDst name) = is_some (map_of rules.maps name)
statement_stands rules other = true

abbrev pub rule_stands : Ruleset → Rule → Bool
rule_stands rules rule =
    list_all (λ tested. test_stands rules tested.test) rule.matches && list_all (statement_stands rules) rule.stmts

-- The chains that a map leads to are there.
abbrev pub map_stands : Ruleset → NfMap → Bool
map_stands rules map = list_all (λ name. is_some (chain_of rules.chains name)) (values map.body)

abbrev pub IsIn : List ℕ → List (List ℕ) → Type 0
IsIn name [] = ⊥
IsIn name (first ∷ others) = (first ≡ name) ⊎ IsIn name others

-- From a chain so many links lead in a row, each by a jump, a goto or a map.
pub data Path (rules : Ruleset) : List ℕ → ℕ → Type 0 where
  stays : {name : List ℕ} → Path rules name 0
  link : {from to : List ℕ} {chain : Chain} {links : ℕ}
      → chain_of rules.chains from ≡ Some chain
      → IsIn to (rule_targets rules.maps chain.rules)
      → Path rules to links
      → Path rules from (suc links)

-- the most links in a row (nft(8) allows 16 levels of jumps)
abbrev pub max_links : ℕ
max_links = 16

-- no path from the chain of a name has more links
abbrev pub IsShort : Ruleset → List ℕ → Type 0
IsShort rules name = (links : ℕ) → Path rules name links → links ≤ max_links

-- no path at all
abbrev pub AreShort : Ruleset → Type 0
AreShort rules = (name : List ℕ) → IsShort rules name

pub record SoundRules (rules : Ruleset) : Type 0 where
  -- what a rule jumps to or looks up is there
  pub rules_stand : IsTrue (list_all (λ chain. list_all (rule_stands rules) chain.rules) rules.chains)
  -- what a map leads to is there
  pub maps_stand : IsTrue (list_all (map_stands rules) rules.maps)
  -- each kind is in order of names, and has each name once
  pub by_name : AreByName rules
  -- no path has more links than may be
  pub short : AreShort rules
