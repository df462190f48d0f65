-- Rules and chains that were added, one after another.
use Rattle.std.proofs.Common.{◌≡◌, ◌∙◌, ◌≤◌, ◌⊎◌, inl, inr, ℕ, Bool, true, false, List, [], ◌∷◌, ◌++◌, length, Option, refl, sym, ap, subst, append-nil, append_assoc}
use Rattle.fw_model.specs.declared.config.Config.{Config}
use Rattle.fw_model.specs.declared.packet.Packet.{Packet}
use Rattle.fw_verdict.specs.Changes.{Change, ChangeItem, Reached, ends, through}
use Rattle.fw_verdict.specs.Changes.Change.{log, mark, masquerade, translate}
use Rattle.fw_verdict.specs.declared.sides.Side.{Side}
use Rattle.fw_zone.specs.Lists.{IsIn}
use Rattle.lower_outside.specs.Does.{Changes, Reach, moment_of, passing_of}
use Rattle.lower_outside.specs.Changing.{DoSteps}
use Rattle.lower_outside.specs.Names.{block_name, own_name}
use Rattle.lower_outside.specs.Stands.{StandAlone}
use Rattle.lower_outside.specs.Steps.{AreTold, CanBeMade, IsTold, statement_of}
use Rattle.lower_outside.specs.Work.{Adds, AreBuilt, HasOwn, HasStep, is_last, once_rules}
use Rattle.lower_outside.specs.Work.HasStep.{alone, own}
use Rattle.lower_outside.specs.declared.steps.Step.{Step}
use Rattle.lower_outside.proofs.Alternatives.{alone_changes, can_make, chain_changes, each_ends, reached_where}
use Rattle.lower_outside.proofs.Built.{built_both, built_leaves, built_nothing, built_own, leaves_change, leaves_once, stands_alone}
use Rattle.lower_outside.proofs.Packets.{keep_both, keep_nothing, keep_one}
use Rattle.lower_outside.proofs.Sequences.{both_reach, jump_is, jump_reaches, nothing_reached, through_append, through_one, whole}
use Rattle.lower_outside.proofs.Told.{told_last}
use Rattle.lower_zone.specs.Evaluates.{EachIsThere}
use Rattle.lower_zone.specs.Forms.{chain_named, each, jump_to}
use Rattle.lower_zone.specs.Work.{one_holds_at}
use Rattle.lower_zone.proofs.Built.{in_first, in_second}
use Rattle.nf_chains.specs.Moments.{Moment, looking}
use Rattle.nf_rules.specs.declared.chain.Chain.{Chain}
use Rattle.nf_rules.specs.declared.rule.Match.{Match}
use Rattle.nf_rules.specs.declared.ruleset.Ruleset.{Ruleset}
use Rattle.nf_rules.specs.declared.rule.Rule.{Rule}
use Rattle.nf_rules.specs.declared.statement.Stmt.{Stmt}

pub adds_nothing : (config : Config) (rules : List Rule) (chains : List Chain) → Adds config [] rules rules chains chains
adds_nothing config rules chains = record {
  rules = [];
  chains = [];
  new_rules_are = sym (append-nil rules);
  new_chains_are = sym (append-nil chains);
  work = λ table leaving now there meeting. nothing_reached table leaving now;
  keep = keep_nothing;
  built = built_nothing config 0;
}

-- one after another
pub adds_both : (config : Config) (one other : List ChangeItem) (old_rules rules new_rules : List Rule) (old_chains chains new_chains : List Chain)
    → Adds config one old_rules rules old_chains chains
    → Adds config other rules new_rules chains new_chains
    → Adds config (one ++ other) old_rules new_rules old_chains new_chains
adds_both config one other old_rules rules new_rules old_chains chains new_chains first second = record {
  rules = first.rules ++ second.rules;
  chains = first.chains ++ second.chains;
  new_rules_are = second.new_rules_are ∙ ap (λ (list : List Rule). list ++ second.rules) first.new_rules_are ∙ append_assoc old_rules first.rules second.rules;
  new_chains_are = second.new_chains_are ∙ ap (λ (list : List Chain). list ++ second.chains) first.new_chains_are ∙ append_assoc old_chains first.chains second.chains;
  work = λ table leaving now there meeting.
      let reached = through one (passing_of now) in
      subst (λ (come : Reached). Reach table leaving (first.rules ++ second.rules) now come) (sym (through_append one other (passing_of now)))
      (both_reach table leaving first.rules second.rules now reached.now reached.over (through other)
      (first.work table leaving now (λ chain is. there chain (in_first chain first.chains second.chains is)) meeting)
      (λ count. second.work table leaving (moment_of reached.now count) (λ chain is. there chain (in_second chain first.chains second.chains is))
      (record { sets = meeting.sets; packet = first.keep (passing_of now) meeting.packet })));
  keep = keep_both one other first.keep second.keep;
  built = built_both config 0 first.rules second.rules first.chains second.chains first.built second.built;
}

-- a statement that ends the base chain is that of a change that ends the walk
last_ends : (change : Change) → is_last (statement_of change) ≡ ends change
last_ends (log line) = refl
last_ends (mark value mask) = refl
last_ends (translate dnat) = refl
last_ends masquerade = refl

can_of : (condition : Packet → Bool) (change : Change) (packet : Packet) → CanBeMade condition change → condition packet ≡ true → can_make change packet ≡ true
can_of condition (log line) packet can hit = refl
can_of condition (mark value mask) packet can hit = refl
can_of condition (translate dnat) packet can hit = can.1 packet hit
can_of condition masquerade packet can hit = refl

-- what the rules for alternatives do, one rule for each
alone_work : (table : Ruleset) (leaving : Option (List ℕ)) (change : Change) (alternatives : List (List Match)) (now : Moment) (over : Bool)
    → ends change ≡ over
    → (one_holds_at leaving table now.packet alternatives ≡ true → can_make change now.packet ≡ true)
    → (length alternatives ≤ 1) ⊎ (is_last (statement_of change) ≡ true)
    → Reach table leaving (each (statement_of change ∷ []) alternatives) now (reached_where (one_holds_at leaving table now.packet alternatives) change (passing_of now))
alone_work table leaving change alternatives now true is can either = each_ends table leaving change alternatives now is can
alone_work table leaving change alternatives now false is can (inl few) = alone_changes table leaving change alternatives now is few
alone_work table leaving change alternatives now false is can (inr last) =
    let wrong : true ≡ false = sym last ∙ last_ends change ∙ is in cc

adds_alone : (config : Config) (step : Step) (item : ChangeItem) (old_rules new_rules : List Rule) (chains : List Chain)
    → IsTold config step item
    → (length step.alternatives ≤ 1) ⊎ (is_last (statement_of item.change) ≡ true)
    → new_rules ≡ old_rules ++ each (statement_of item.change ∷ []) step.alternatives
    → Adds config (item ∷ []) old_rules new_rules chains chains
adds_alone config step item old_rules new_rules chains told either are = record {
  rules = each (statement_of item.change ∷ []) step.alternatives;
  chains = [];
  new_rules_are = are;
  new_chains_are = sym (append-nil chains);
  work = λ table leaving now there meeting.
      let made = each (statement_of item.change ∷ []) step.alternatives in
      let holds = told.tells.holds table leaving now meeting in
      subst (λ (come : Reached). Reach table leaving made now come) (sym (through_one item (passing_of now)))
      (subst (λ (hit : Bool). Reach table leaving made now (reached_where hit item.change (passing_of now))) (sym holds)
      (alone_work table leaving item.change step.alternatives now (ends item.change) refl
      (λ hit. can_of item.hits item.change now.packet told.can (holds ∙ hit)) either));
  keep = keep_one item told.can;
  built = built_leaves config 0 (each (statement_of item.change ∷ []) step.alternatives) (leaves_change config item.change step.alternatives told.tells.stand);
}

adds_own : (config : Config) (of : Side) (block : List ℕ) (step : Step) (item : ChangeItem) (old_rules new_rules : List Rule) (old_chains new_chains : List Chain)
    → IsTold config step item
    → is_last (statement_of item.change) ≡ false
    → HasOwn of block (once_rules (statement_of item.change) step.alternatives) old_rules new_rules old_chains new_chains
    → Adds config (item ∷ []) old_rules new_rules old_chains new_chains
adds_own config of block step item old_rules new_rules old_chains new_chains told goes has =
    let name = own_name of (length old_chains) block in
    let made = once_rules (statement_of item.change) step.alternatives in
    record {
      rules = jump_to name ∷ [];
      chains = chain_named name made ∷ [];
      new_rules_are = has.rules;
      new_chains_are = has.chains;
      work = λ table leaving now there meeting.
          subst (λ (come : Reached). Reach table leaving (jump_to name ∷ []) now come) (sym (through_one item (passing_of now)))
          (subst (λ (hit : Bool). Reach table leaving (jump_to name ∷ []) now (reached_where hit item.change (passing_of now)))
          (sym (told.tells.holds table leaving now meeting))
          (jump_reaches table leaving name made now _ (there (chain_named name made) (inl refl))
          (chain_changes table leaving item.change step.alternatives (looking now) (sym (last_ends item.change) ∙ goes))));
      keep = keep_one item told.can;
      built = built_own config 0 name made (leaves_once config item.change step.alternatives told.tells.stand);
    }

-- the rules of a step
pub adds_step : (config : Config) (of : Side) (block : List ℕ) (step : Step) (item : ChangeItem) (old_rules new_rules : List Rule) (old_chains new_chains : List Chain)
    → IsTold config step item
    → HasStep of block step old_rules new_rules old_chains new_chains
    → Adds config (item ∷ []) old_rules new_rules old_chains new_chains
adds_step config of block step item old_rules new_rules old_chains new_chains told (alone either are same) =
    subst (λ (chains : List Chain). Adds config (item ∷ []) old_rules new_rules old_chains chains) (sym same)
    (adds_alone config step item old_rules new_rules old_chains told
    (subst (λ (one : Stmt). (length step.alternatives ≤ 1) ⊎ (is_last one ≡ true)) told.statement either)
    (subst (λ (one : Stmt). new_rules ≡ old_rules ++ each (one ∷ []) step.alternatives) told.statement are))
adds_step config of block step item old_rules new_rules old_chains new_chains told (own goes has) =
    adds_own config of block step item old_rules new_rules old_chains new_chains told
    (subst (λ (one : Stmt). is_last one ≡ false) told.statement goes)
    (subst (λ (one : Stmt). HasOwn of block (once_rules one step.alternatives) old_rules new_rules old_chains new_chains) told.statement has)

-- the whole block
pub changes_as : (config : Config) (name : List ℕ) (items : List ChangeItem) (rules : List Rule) (chains all : List Chain)
    → Adds config items [] rules [] chains
    → all ≡ chains ++ chain_named name rules ∷ []
    → Changes config all name items
changes_as config name items rules chains all added are table leaving now there meeting =
    let each_is = subst (λ (list : List Chain). EachIsThere list table) are there in
    jump_is table leaving name rules now (through items (passing_of now))
    (each_is (chain_named name rules) (in_second (chain_named name rules) chains (chain_named name rules ∷ []) (inl refl)))
    (whole table leaving rules now (through items (passing_of now))
    (subst (λ (list : List Rule). Reach table leaving list now (through items (passing_of now))) (sym added.new_rules_are)
    (added.work table leaving now
    (λ chain is. each_is chain (in_first chain chains (chain_named name rules ∷ []) (subst (λ (list : List Chain). IsIn chain list) (sym added.new_chains_are) is))) meeting)))

pub stands_as : (config : Config) (name : List ℕ) (items : List ChangeItem) (rules : List Rule) (chains all : List Chain)
    → Adds config items [] rules [] chains
    → all ≡ chains ++ chain_named name rules ∷ []
    → StandAlone config all name
stands_as config name items rules chains all added are =
    stands_alone config name name rules chains all
    (subst (λ (list : List Rule). AreBuilt config 0 list chains) (sym added.new_rules_are)
    (subst (λ (list : List Chain). AreBuilt config 0 added.rules list) (sym added.new_chains_are) added.built))
    refl are

pub does_steps : (config : Config) (of : Side) (block called : List ℕ) (items : List ChangeItem) (old_rules rules : List Rule) (old_chains chains all : List Chain)
    → old_rules ≡ [] → old_chains ≡ []
    → Adds config items old_rules rules old_chains chains
    → called ≡ block_name of block
    → all ≡ chains ++ chain_named called rules ∷ []
    → DoSteps config of block items all
does_steps config of block called items old_rules rules old_chains chains all no_rule no_chain added same are =
    let from_none = subst (λ (start : List Rule). Adds config items start rules [] chains) no_rule
    (subst (λ (start : List Chain). Adds config items old_rules rules start chains) no_chain added) in
    let all_are = are ∙ ap (λ (one : List ℕ). chains ++ chain_named one rules ∷ []) same in
    record {
      changes = changes_as config (block_name of block) items rules chains all from_none all_are;
      keep = added.keep;
      stands = stands_as config (block_name of block) items rules chains all from_none all_are;
    }

-- one step more
pub adds_more : (config : Config) (of : Side) (block : List ℕ) (steps : List Step) (step : Step) (items : List ChangeItem) (old_rules rules new_rules : List Rule) (old_chains chains new_chains : List Chain)
    → ((before : List ChangeItem) → AreTold config steps before → Adds config before old_rules rules old_chains chains)
    → HasStep of block step rules new_rules chains new_chains
    → AreTold config (steps ++ step ∷ []) items
    → Adds config items old_rules new_rules old_chains new_chains
adds_more config of block steps step items old_rules rules new_rules old_chains chains new_chains so_far has are =
    let last = told_last config steps step items are in
    subst (λ (list : List ChangeItem). Adds config list old_rules new_rules old_chains new_chains) (sym last.items_are)
    (adds_both config last.before (last.item ∷ []) old_rules rules new_rules old_chains chains new_chains (so_far last.before last.told)
    (adds_step config of block step last.item rules new_rules chains new_chains last.is has))
