-- What rules and chains ask of a ruleset, and how far they lead, as they are put together.
use Rattle.std.proofs.Common.{◌≡◌, ◌∙◌, ◌≤◌, ℕ, suc, arith, Bool, true, false, ◌&&◌, List, [], ◌∷◌, ◌++◌, None, Some, refl, sym, ap, subst, inl, inr, append_assoc}
use Rattle.std.specs.Prelude.{IsTrue, is_some}
use Rattle.std.specs.List.{flat_map, list_all}
use Rattle.fw_model.specs.declared.config.Config.{Config}
use Rattle.fw_verdict.specs.Changes.{Change}
use Rattle.fw_verdict.specs.Changes.Change.{log, mark, masquerade, translate}
use Rattle.fw_zone.specs.Lists.{IsIn}
use Rattle.lower_match.specs.Stands.{EachHasSet, Stand, matches_stand}
use Rattle.lower_outside.specs.Stands.{StandAlone}
use Rattle.lower_outside.specs.Steps.{statement_of}
use Rattle.lower_outside.specs.Work.{AreBuilt, once_rules}
use Rattle.lower_zone.specs.Evaluates.{EachIsThere}
use Rattle.lower_zone.specs.Forms.{chain_named, each, jump_to}
use Rattle.lower_zone.proofs.Built.{all_joined, both, in_first, in_second}
use Rattle.nf_rules.specs.declared.chain.Chain.{Chain}
use Rattle.nf_rules.specs.declared.map.NfMap.{NfMap}
use Rattle.nf_rules.specs.declared.rule.Match.{Match}
use Rattle.nf_rules.specs.declared.rule.Rule.{Rule}
use Rattle.nf_rules.specs.declared.ruleset.Ruleset.{Ruleset}
use Rattle.nf_rules.specs.declared.statement.Stmt.{Stmt}
use Rattle.nf_rules.specs.declared.statement.Stmt.TheVariants as stmt
use Rattle.nf_sound.specs.Names.{chain_of}
use Rattle.nf_sound.specs.Sound.{IsIn as IsNameIn, Path, rule_stands, statement_stands}
use Rattle.nf_sound.specs.Sound.Path.{link, stays}
use Rattle.nf_sound.specs.Targets.{rule_targets, targets}

-- what holds of the items of two lists holds of those of both
pub in_either : {A : Type 0} (P : A → Type 0) (one other : List A)
    → ((item : A) → IsIn item one → P item) → ((item : A) → IsIn item other → P item)
    → (item : A) → IsIn item (one ++ other) → P item
in_either P [] other first second item there = second item there
in_either P (x ∷ one) other first second item (inl same) = first item (inl same)
in_either P (x ∷ one) other first second item (inr there) = in_either P one other (λ it is. first it (inr is)) second item there

pub targets_joined : (maps : List NfMap) (one other : List Rule) → rule_targets maps (one ++ other) ≡ rule_targets maps one ++ rule_targets maps other
targets_joined maps [] other = refl
targets_joined maps (rule ∷ one) other =
    ap (λ (rest : List (List ℕ)). flat_map (targets maps) rule.stmts ++ rest) (targets_joined maps one other)
    ∙ sym (append_assoc (flat_map (targets maps) rule.stmts) (rule_targets maps one) (rule_targets maps other))

pub names_in : (P : List ℕ → Type 0) (one other : List (List ℕ))
    → ((name : List ℕ) → IsNameIn name one → P name) → ((name : List ℕ) → IsNameIn name other → P name)
    → (name : List ℕ) → IsNameIn name (one ++ other) → P name
names_in P [] other first second name there = second name there
names_in P (x ∷ one) other first second name (inl same) = first name (inl same)
names_in P (x ∷ one) other first second name (inr there) = names_in P one other (λ it is. first it (inr is)) second name there

-- rules that lead nowhere and look up sets of ipsets alone
pub record AreLeaves (config : Config) (rules : List Rule) : Type 0 where
  pub stand : (table : Ruleset) → EachHasSet config.ipsets table → IsTrue (list_all (rule_stands table) rules)
  pub nowhere : (maps : List NfMap) → rule_targets maps rules ≡ []

-- statements of such rules
record AreLast (statements : List Stmt) : Type 0 where
  stand : (table : Ruleset) → list_all (statement_stands table) statements ≡ true
  nowhere : (maps : List NfMap) → flat_map (targets maps) statements ≡ []

each_stands : (table : Ruleset) (statements : List Stmt) → list_all (statement_stands table) statements ≡ true → (alternatives : List (List Match))
    → list_all (matches_stand table) alternatives ≡ true → list_all (rule_stands table) (each statements alternatives) ≡ true
each_stands table statements last [] all = refl
each_stands table statements last (alternative ∷ others) all =
    both (matches_stand table alternative && list_all (statement_stands table) statements) _
    (both (matches_stand table alternative) (list_all (statement_stands table) statements) (left (matches_stand table alternative) _ all) last)
    (each_stands table statements last others (right (matches_stand table alternative) _ all))
  where
    left : (a b : Bool) → (a && b) ≡ true → a ≡ true
    left true b is = refl
    left false b is = cc

    right : (a b : Bool) → (a && b) ≡ true → b ≡ true
    right true b is = is
    right false b is = cc

each_nowhere : (maps : List NfMap) (statements : List Stmt) → flat_map (targets maps) statements ≡ [] → (alternatives : List (List Match))
    → rule_targets maps (each statements alternatives) ≡ []
each_nowhere maps statements none [] = refl
each_nowhere maps statements none (alternative ∷ others) =
    ap (λ (first : List (List ℕ)). first ++ rule_targets maps (each statements others)) none ∙ each_nowhere maps statements none others

leaves_each : (config : Config) (statements : List Stmt) (alternatives : List (List Match)) → AreLast statements → Stand config.ipsets alternatives
    → AreLeaves config (each statements alternatives)
leaves_each config statements alternatives last stand = record {
  stand = λ table sets. each_stands table statements (last.stand table) alternatives (stand table sets);
  nowhere = λ maps. each_nowhere maps statements (last.nowhere maps) alternatives;
}

-- the statement of a change leads nowhere
statement_last : (change : Change) (others : List Stmt) → AreLast others → AreLast (statement_of change ∷ others)
statement_last (log line) others last = record { stand = λ table. last.stand table; nowhere = λ maps. last.nowhere maps }
statement_last (mark value mask) others last = record { stand = λ table. last.stand table; nowhere = λ maps. last.nowhere maps }
statement_last (translate dnat) others last = record { stand = λ table. last.stand table; nowhere = λ maps. last.nowhere maps }
statement_last masquerade others last = record { stand = λ table. last.stand table; nowhere = λ maps. last.nowhere maps }

pub leaves_change : (config : Config) (change : Change) (alternatives : List (List Match)) → Stand config.ipsets alternatives
    → AreLeaves config (each (statement_of change ∷ []) alternatives)
leaves_change config change alternatives stand =
    leaves_each config (statement_of change ∷ []) alternatives (statement_last change [] (record { stand = λ table. refl; nowhere = λ maps. refl })) stand

pub leaves_once : (config : Config) (change : Change) (alternatives : List (List Match)) → Stand config.ipsets alternatives
    → AreLeaves config (once_rules (statement_of change) alternatives)
leaves_once config change alternatives stand =
    leaves_each config (statement_of change ∷ stmt.Return ∷ []) alternatives
    (statement_last change (stmt.Return ∷ []) (record { stand = λ table. refl; nowhere = λ maps. refl })) stand

no_name : (names : List (List ℕ)) (name : List ℕ) → names ≡ [] → ¬ (IsNameIn name names)
no_name names name none there = subst (λ (list : List (List ℕ)). IsNameIn name list) none there

-- from the chain of a name one link more than behind its rules
path_from : (table : Ruleset) (name : List ℕ) (rules : List Rule) (depth : ℕ)
    → chain_of table.chains name ≡ Some (chain_named name rules)
    → ((to : List ℕ) → IsNameIn to (rule_targets table.maps rules) → (links : ℕ) → Path table to links → suc links ≤ depth)
    → {links : ℕ} → Path table name links → links ≤ depth
path_from table name rules depth found next stays = omega arith
path_from table name rules depth found next (link {to = to} {chain = chain} {links = links} there among rest) =
    let same : chain ≡ chain_named name rules = cc in
    next to (subst (λ (one : Chain). IsNameIn to (rule_targets table.maps one.rules)) same among) links rest

found_is_there : (table : Ruleset) (name : List ℕ) (chain : Chain) → chain_of table.chains name ≡ Some chain → is_some (chain_of table.chains name) ≡ true
found_is_there table name chain found = ap is_some found

module _ (config : Config) where
  pub built_nothing : (depth : ℕ) → AreBuilt config depth [] []
  built_nothing depth = record {
    stand = λ table there sets. refl;
    chains_stand = λ table there sets. refl;
    short = λ table there to among links path. absurd among;
    chains_short = λ table there chain among links path. absurd among;
    no_base = λ chain among. absurd among;
  }

  pub built_leaves : (depth : ℕ) (rules : List Rule) → AreLeaves config rules → AreBuilt config depth rules []
  built_leaves depth rules leaves = record {
    stand = λ table there sets. leaves.stand table sets;
    chains_stand = λ table there sets. refl;
    short = λ table there to among links path. absurd (no_name (rule_targets table.maps rules) to (leaves.nowhere table.maps) among);
    chains_short = λ table there chain among links path. absurd among;
    no_base = λ chain among. absurd among;
  }

  pub built_both : (depth : ℕ) (rules others : List Rule) (chains more : List Chain)
      → AreBuilt config depth rules chains → AreBuilt config depth others more → AreBuilt config depth (rules ++ others) (chains ++ more)
  built_both depth rules others chains more one other = record {
    stand = λ table there sets. all_joined (rule_stands table) rules others (one.stand table (first table there) sets) (other.stand table (second table there) sets);
    chains_stand = λ table there sets. all_joined (λ (chain : Chain). list_all (rule_stands table) chain.rules) chains more
        (one.chains_stand table (first table there) sets) (other.chains_stand table (second table there) sets);
    short = λ table there to among links path.
        names_in (λ name. Path table name links → links ≤ depth) (rule_targets table.maps rules) (rule_targets table.maps others)
        (λ name is. one.short table (first table there) name is links) (λ name is. other.short table (second table there) name is links)
        to (subst (λ (names : List (List ℕ)). IsNameIn to names) (targets_joined table.maps rules others) among) path;
    chains_short = λ table there chain among links path.
        in_either (λ (it : Chain). Path table it.name links → links ≤ depth) chains more
        (λ it is. one.chains_short table (first table there) it is links) (λ it is. other.chains_short table (second table there) it is links)
        chain among path;
    no_base = λ chain among. in_either (λ (it : Chain). it.base ≡ None) chains more one.no_base other.no_base chain among;
  }
    where
      first : (table : Ruleset) → EachIsThere (chains ++ more) table → EachIsThere chains table
      first table there chain is = there chain (in_first chain chains more is)

      second : (table : Ruleset) → EachIsThere (chains ++ more) table → EachIsThere more table
      second table there chain is = there chain (in_second chain chains more is)

  -- a chain of rules, and a jump to it
  pub built_named : (below depth : ℕ) (name : List ℕ) (made : List Rule) (chains : List Chain)
      → below ≤ depth
      → AreBuilt config below made chains
      → ((table : Ruleset) → EachIsThere chains table → (to : List ℕ) → IsNameIn to (rule_targets table.maps made) → (links : ℕ) → Path table to links → suc links ≤ depth)
      → AreBuilt config depth (jump_to name ∷ []) (chains ++ chain_named name made ∷ [])
  built_named below depth name made chains le inner next = record {
    stand = λ table there sets. both _ true (both _ true (found_is_there table name (chain_named name made) (here table there)) refl) refl;
    chains_stand = λ table there sets. all_joined (λ (chain : Chain). list_all (rule_stands table) chain.rules) chains (chain_named name made ∷ [])
        (inner.chains_stand table (others table there) sets)
        (both (list_all (rule_stands table) made) true (inner.stand table (others table there) sets) refl);
    short = λ table there to among links path. short table there to among links path;
    chains_short = λ table there chain among links path.
        in_either (λ (it : Chain). Path table it.name links → links ≤ depth) chains (chain_named name made ∷ [])
        (λ it is route. (let few = inner.chains_short table (others table there) it is links route in omega arith))
        (λ it is route. last table there it is links route)
        chain among path;
    no_base = λ chain among. in_either (λ (it : Chain). it.base ≡ None) chains (chain_named name made ∷ []) inner.no_base no_base chain among;
  }
    where
      here : (table : Ruleset) → EachIsThere (chains ++ chain_named name made ∷ []) table → chain_of table.chains name ≡ Some (chain_named name made)
      here table there = there (chain_named name made) (in_second (chain_named name made) chains (chain_named name made ∷ []) (inl refl))

      others : (table : Ruleset) → EachIsThere (chains ++ chain_named name made ∷ []) table → EachIsThere chains table
      others table there chain is = there chain (in_first chain chains (chain_named name made ∷ []) is)

      ends : (table : Ruleset) → EachIsThere (chains ++ chain_named name made ∷ []) table → (links : ℕ) → Path table name links → links ≤ depth
      ends table there links path = path_from table name made depth (here table there) (next table (others table there)) path

      short : (table : Ruleset) → EachIsThere (chains ++ chain_named name made ∷ []) table → (to : List ℕ) → IsNameIn to (name ∷ []) → (links : ℕ) → Path table to links → links ≤ depth
      short table there to (inl same) links path = ends table there links (subst (λ (one : List ℕ). Path table one links) (sym same) path)
      short table there to (inr among) links path = absurd among

      last : (table : Ruleset) → EachIsThere (chains ++ chain_named name made ∷ []) table → (chain : Chain) → IsIn chain (chain_named name made ∷ []) → (links : ℕ) → Path table chain.name links → links ≤ depth
      last table there chain (inl same) links path = ends table there links (subst (λ (one : Chain). Path table one.name links) (sym same) path)
      last table there chain (inr among) links path = absurd among

      no_base : (chain : Chain) → IsIn chain (chain_named name made ∷ []) → chain.base ≡ None
      no_base chain (inl same) = ap (λ (one : Chain). one.base) (sym same)
      no_base chain (inr among) = absurd among

  -- one of rules that lead nowhere
  pub built_own : (depth : ℕ) (name : List ℕ) (own : List Rule) → AreLeaves config own → AreBuilt config depth (jump_to name ∷ []) (chain_named name own ∷ [])
  built_own depth name own leaves =
      built_named 0 depth name own [] (omega arith) (built_leaves 0 own leaves)
      (λ table there to among links path. absurd (no_name (rule_targets table.maps own) to (leaves.nowhere table.maps) among))

  -- one of rules that lead on
  pub built_part : (depth : ℕ) (name : List ℕ) (made : List Rule) (chains : List Chain) → AreBuilt config depth made chains
      → AreBuilt config (suc depth) (jump_to name ∷ []) (chains ++ chain_named name made ∷ [])
  built_part depth name made chains inner =
      built_named depth (suc depth) name made chains (omega arith) inner
      (λ table there to among links path. (let few = inner.short table there to among links path in omega arith))

  -- the whole block
  pub stands_alone : (name called : List ℕ) (rules : List Rule) (chains all : List Chain)
      → AreBuilt config 0 rules chains
      → called ≡ name
      → all ≡ chains ++ chain_named called rules ∷ []
      → StandAlone config all name
  stands_alone name called rules chains all built same are =
      subst (λ (list : List Chain). StandAlone config list name) (sym are)
      (record {
        entry = chain_named called rules;
        entry_is_in = in_second (chain_named called rules) chains (chain_named called rules ∷ []) (inl refl);
        entry_named = same;
        stand = whole.chains_stand;
        short = whole.chains_short;
        no_base = whole.no_base;
      })
    where
      whole : AreBuilt config 1 (jump_to called ∷ []) (chains ++ chain_named called rules ∷ [])
      whole = built_part 0 called rules chains built
