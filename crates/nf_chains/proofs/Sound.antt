-- A base chain of a sound ruleset runs with 16 links.
use Rattle.std.proofs.Common.{◌≡◌, ℕ, zero, suc, ◌≤◌, inl, inr, Bool, true, false, ◌&&◌, List, [], ◌∷◌, Option, None, Some, is_some, refl, sym, ap, subst, arith}
use Rattle.std.specs.List.{find, flat_map, list_all}
use Rattle.fw_model.specs.declared.packet.Packet.{Packet}
use Rattle.nf_chains.proofs.Bridge.{IsCall, IsRun}
use Rattle.nf_chains.proofs.Rules.{rules_so}
use Rattle.nf_chains.specs.Runs.{act, calls, holds, run, run_called, run_rules}
use Rattle.nf_rules.specs.declared.chain.Chain.{Chain}
use Rattle.nf_rules.specs.declared.map.NfMap.{NfMap}
use Rattle.nf_rules.specs.declared.ruleset.Ruleset.{Ruleset}
use Rattle.nf_rules.specs.declared.rule.Rule.{Rule}
use Rattle.nf_rules.specs.declared.statement.Stmt.{Stmt}
use Rattle.nf_rules.specs.declared.statement.Stmt.TheVariants as stmt
use Rattle.nf_sound.proofs.Order.{pick}
use Rattle.nf_sound.proofs.Paths.{in_one}
use Rattle.nf_sound.specs.Names.{chain_of, map_of}
use Rattle.nf_sound.specs.Sound.{IsIn, Path, SoundRules, map_stands, rule_stands, statement_stands}
use Rattle.nf_sound.specs.Sound.Path.{stays, link}
use Rattle.nf_sound.specs.Targets.{map_values, rule_targets, targets, values}

pub both : (a b : Bool) → a && b ≡ true → (a ≡ true) × (b ≡ true)
both true true is = (refl, refl)
both true false is = cc
both false b is = cc

-- what holds of all holds of what is found
pub of_found : {T : Type 0} (test p : T → Bool) (items : List T) (item : T) → find test items ≡ Some item → list_all p items ≡ true → p item ≡ true
of_found test p [] item found all = cc
of_found test p (first ∷ items) item found all =
    let parts = both (p first) (list_all p items) all in
    elim (pick (test first) first item (find test items) found) [
      | inl here ↦ (let same : first ≡ item = here.1 in subst (λ one. p one ≡ true) same parts.0)
      | inr later ↦ of_found test p items item later parts.1
    ]

-- and of each name among some
of_name : (p : List ℕ → Bool) (names : List (List ℕ)) (name : List ℕ) → list_all p names ≡ true → IsIn name names → p name ≡ true
of_name p [] name all is = absurd is
of_name p (first ∷ names) name all (inl here) = subst (λ (one : List ℕ). p one ≡ true) here (both (p first) (list_all p names) all).0
of_name p (first ∷ names) name all (inr later) = of_name p names name (both (p first) (list_all p names) all).1 later

-- the chain of this name is there
abbrev is_there : Ruleset → List ℕ → Bool
is_there rules name = is_some (chain_of rules.chains name)

map_there : (rules : Ruleset) (test : NfMap → Bool) (found : Option NfMap) → list_all (map_stands rules) rules.maps ≡ true → find test rules.maps ≡ found → (name : List ℕ) → IsIn name (map_values found) → is_there rules name ≡ true
map_there rules test None stand is name among = absurd among
map_there rules test (Some map) stand is name among =
    of_name (is_there rules) (values map.body) name (of_found test (map_stands rules) rules.maps map is stand) among

-- where a statement leads there are chains
statement_there : (rules : Ruleset) → list_all (map_stands rules) rules.maps ≡ true → (statement : Stmt) → statement_stands rules statement ≡ true → (name : List ℕ) → IsIn name (targets rules.maps statement) → is_there rules name ≡ true
statement_there rules maps stmt.Accept stands name among = absurd among
statement_there rules maps stmt.Drop stands name among = absurd among
statement_there rules maps (stmt.Reject kind) stands name among = absurd among
statement_there rules maps (stmt.Jump to) stands name among = of_name (is_there rules) (to ∷ []) name (rw stands refl) among
statement_there rules maps (stmt.Goto to) stands name among = of_name (is_there rules) (to ∷ []) name (rw stands refl) among
statement_there rules maps stmt.Return stands name among = absurd among
statement_there rules maps (stmt.Log line) stands name among = absurd among
statement_there rules maps (stmt.Mark value mask) stands name among = absurd among
statement_there rules maps (stmt.DnatTo dnat) stands name among = absurd among
statement_there rules maps stmt.Masquerade stands name among = absurd among
statement_there rules maps (stmt.VmapIn map) stands name among = map_there rules _ (map_of rules.maps map) maps refl name among
statement_there rules maps (stmt.VmapOut map) stands name among = map_there rules _ (map_of rules.maps map) maps refl name among
statement_there rules maps (stmt.VmapSrc map) stands name among = map_there rules _ (map_of rules.maps map) maps refl name among
statement_there rules maps (stmt.VmapDst map) stands name among = map_there rules _ (map_of rules.maps map) maps refl name among

statements_there : (rules : Ruleset) → list_all (map_stands rules) rules.maps ≡ true → (statements : List Stmt) → list_all (statement_stands rules) statements ≡ true → (name : List ℕ) → IsIn name (flat_map (targets rules.maps) statements) → is_there rules name ≡ true
statements_there rules maps [] stand name among = absurd among
statements_there rules maps (statement ∷ statements) stand name among =
    let parts = both (statement_stands rules statement) (list_all (statement_stands rules) statements) stand in
    elim (in_one name (targets rules.maps statement) (flat_map (targets rules.maps) statements) among) [
      | inl here ↦ statement_there rules maps statement parts.0 name here
      | inr later ↦ statements_there rules maps statements parts.1 name later
    ]

rules_there : (rules : Ruleset) → list_all (map_stands rules) rules.maps ≡ true → (list : List Rule) → list_all (rule_stands rules) list ≡ true → (name : List ℕ) → IsIn name (rule_targets rules.maps list) → is_there rules name ≡ true
rules_there rules maps [] stand name among = absurd among
rules_there rules maps (rule ∷ list) stand name among =
    let parts = both (rule_stands rules rule) (list_all (rule_stands rules) list) stand in
    let statements = both _ (list_all (statement_stands rules) rule.stmts) parts.0 in
    elim (in_one name (flat_map (targets rules.maps) rule.stmts) (rule_targets rules.maps list) among) [
      | inl here ↦ statements_there rules maps rule.stmts statements.1 name here
      | inr later ↦ rules_there rules maps list parts.1 name later
    ]

some_of : (found : Option Chain) → is_some found ≡ true → (chain : Chain) × (found ≡ Some chain)
some_of None is = cc
some_of (Some chain) is = (chain, refl)

-- a chain that is found runs with so many links as paths from it need
call_so : (rules : Ruleset) (leaving : Option (List ℕ)) (packet : Packet) → SoundRules rules → (links : ℕ) (name : List ℕ) → is_there rules name ≡ true → ((n : ℕ) → Path rules name n → suc n ≤ links) → IsCall rules leaving packet (calls rules leaving packet links) name
unfolding calls
call_so rules leaving packet sound zero name is short = absurd (let none = short 0 stays in omega arith)
call_so rules leaving packet sound (suc links) name is short =
    let here = some_of (chain_of rules.chains name) is in
    let stands = of_found _ (λ chain. list_all (rule_stands rules) chain.rules) rules.chains here.0 here.1 sound.rules_stand in
    let runs = rules_so rules leaving packet (calls rules leaving packet links) here.0.rules
    (λ to among. call_so rules leaving packet sound links to (rules_there rules sound.maps_stand here.0.rules stands to among) (λ n path. (let more = short (suc n) (link here.1 among path) in omega arith))) in
    let called : run_called (run_rules (holds rules leaving packet) (act rules leaving packet (calls rules leaving packet links))) (chain_of rules.chains name) ≡ run rules leaving packet links here.0.rules = ap (run_called (run rules leaving packet links)) here.1 in
    record { chain = here.0; found = here.1; runs = subst (λ step. IsRun rules leaving packet here.0.rules step) (sym called) runs }

-- rules that stand run with 16 links
pub base_runs : (rules : Ruleset) (leaving : Option (List ℕ)) (packet : Packet) → SoundRules rules → (chain : Chain) → chain_of rules.chains chain.name ≡ Some chain → list_all (rule_stands rules) chain.rules ≡ true → IsRun rules leaving packet chain.rules (run rules leaving packet 16 chain.rules)
base_runs rules leaving packet sound chain found stands =
    rules_so rules leaving packet (calls rules leaving packet 16) chain.rules
    (λ to among. call_so rules leaving packet sound 16 to (rules_there rules sound.maps_stand chain.rules stands to among) (λ n path. sound.short chain.name (suc n) (link found among path)))
