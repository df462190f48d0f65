-- Rules and chains that were added, one after another.
use Rattle.std.proofs.Common.{◌≡◌, ◌∙◌, ◌≤◌, arith, inl, inr, ℕ, Bool, true, false, ◌&&◌, ◌||◌, List, [], ◌∷◌, ◌++◌, length, map, Option, None, Some, refl, sym, ap, subst, append-nil, append_assoc}
use Rattle.std.specs.Prelude.{if◌then◌else◌}
use Rattle.fw_addr.specs.declared.log.LogLine.{LogLine}
use Rattle.fw_model.specs.declared.config.Config.{Config}
use Rattle.fw_model.specs.declared.outcome.Verdict.{Verdict}
use Rattle.fw_model.specs.declared.packet.Packet.{Packet}
use Rattle.fw_verdict.specs.Walk.{Item, Walked, done, nothing, or_then, walk}
use Rattle.fw_verdict.specs.Walk.Effect.{decide, log}
use Rattle.fw_verdict.specs.declared.rich.Part.{Part}
use Rattle.fw_zone.specs.Lists.{IsIn}
use Rattle.lower_zone.specs.Evaluates.{EachIsThere, Evaluates, Meeting, behind_lines}
use Rattle.lower_zone.specs.Forms.{chain_named, each, jump_to, line_rules, statement}
use Rattle.lower_zone.specs.Names.{own_name, part_name}
use Rattle.lower_zone.specs.Stands.{StandAlone}
use Rattle.lower_zone.specs.Verdicts.{can_decide}
use Rattle.lower_zone.specs.Work.{Adds, AddsParts, AddsTo, AreBuilt, ChainDoes, Do, HasOwn, Tells, one_holds_at, under}
use Rattle.lower_zone.proofs.Built.{AreLeaves, built_both, built_deeper, built_leaves, built_no_rule, built_nothing, built_own, built_part, in_first, in_second, leaves_decision, leaves_line, leaves_line_once, stands_alone}
use Rattle.lower_zone.proofs.Alternatives.{alone_logs, chain_logs, each_decides}
use Rattle.lower_zone.proofs.Sequences.{both_do, jump_does, jump_is, nothing_done, walk_append, whole}
use Rattle.nf_chains.specs.Moments.{Moment, looking}
use Rattle.nf_rules.specs.declared.chain.Chain.{Chain}
use Rattle.nf_rules.specs.declared.rule.Match.{Match}
use Rattle.nf_rules.specs.declared.ruleset.Ruleset.{Ruleset}
use Rattle.nf_rules.specs.declared.rule.Rule.{Rule}
use Rattle.nf_rules.specs.declared.statement.Stmt.TheVariants as stmt

-- a packet at a later moment is the same
later : (config : Config) (rules : Ruleset) (now : Moment) (lines : List LogLine) (count : ℕ)
    → Meeting config rules now → Meeting config rules (behind_lines lines count now)
later config rules now lines count meeting = record { sets = meeting.sets; packet = meeting.packet }

pub adds_nothing : {depth : ℕ} (config : Config) (rules : List Rule) (chains : List Chain) → AddsTo depth config (λ packet. nothing) rules rules chains chains
adds_nothing {depth} config rules chains = record {
  rules = [];
  chains = [];
  new_rules_are = sym (append-nil rules);
  new_chains_are = sym (append-nil chains);
  work = λ table leaving now there meeting. nothing_done table leaving now;
  built = built_nothing config depth;
}

pub adds_same : {depth : ℕ} (config : Config) (one other : Packet → Walked) (old_rules new_rules : List Rule) (old_chains new_chains : List Chain)
    → ((packet : Packet) → one packet ≡ other packet)
    → AddsTo depth config one old_rules new_rules old_chains new_chains → AddsTo depth config other old_rules new_rules old_chains new_chains
adds_same config one other old_rules new_rules old_chains new_chains same added = record {
  rules = added.rules;
  chains = added.chains;
  new_rules_are = added.new_rules_are;
  new_chains_are = added.new_chains_are;
  work = λ table leaving now there meeting.
      subst (λ (walked : Walked). Do table leaving added.rules now walked) (same now.packet) (added.work table leaving now there meeting);
  built = added.built;
}

-- one after another
pub adds_both : {depth : ℕ} (config : Config) (one other : Packet → Walked) (old_rules rules new_rules : List Rule) (old_chains chains new_chains : List Chain)
    → AddsTo depth config one old_rules rules old_chains chains
    → AddsTo depth config other rules new_rules chains new_chains
    → AddsTo depth config (λ packet. or_then (one packet).decided (one packet).logs (other packet)) old_rules new_rules old_chains new_chains
adds_both {depth} config one other old_rules rules new_rules old_chains chains new_chains first second = record {
  rules = first.rules ++ second.rules;
  chains = first.chains ++ second.chains;
  new_rules_are = second.new_rules_are ∙ ap (λ (list : List Rule). list ++ second.rules) first.new_rules_are ∙ append_assoc old_rules first.rules second.rules;
  new_chains_are = second.new_chains_are ∙ ap (λ (list : List Chain). list ++ second.chains) first.new_chains_are ∙ append_assoc old_chains first.chains second.chains;
  work = λ table leaving now there meeting.
      both_do table leaving first.rules second.rules now (one now.packet).decided (one now.packet).logs (other now.packet)
      (first.work table leaving now (λ chain is. there chain (in_first chain first.chains second.chains is)) meeting)
      (λ count. second.work table leaving (behind_lines (one now.packet).logs count now) (λ chain is. there chain (in_second chain first.chains second.chains is))
      (later config table now (one now.packet).logs count meeting));
  built = built_both config depth first.rules second.rules first.chains second.chains first.built second.built;
}

-- the items of two lists
pub adds_lists : {depth : ℕ} (config : Config) (one other : List Item) (old_rules rules new_rules : List Rule) (old_chains chains new_chains : List Chain)
    → AddsTo depth config (walk one) old_rules rules old_chains chains
    → AddsTo depth config (walk other) rules new_rules chains new_chains
    → AddsTo depth config (walk (one ++ other)) old_rules new_rules old_chains new_chains
adds_lists config one other old_rules rules new_rules old_chains chains new_chains first second =
    adds_same config (λ packet. or_then (walk one packet).decided (walk one packet).logs (walk other packet)) (walk (one ++ other)) old_rules new_rules old_chains new_chains
    (λ packet. sym (walk_append one other packet))
    (adds_both config (walk one) (walk other) old_rules rules new_rules old_chains chains new_chains first second)

-- rules that decide
pub adds_decision : (config : Config) (condition : Packet → Bool) (alternatives : List (List Match)) (chosen : Verdict) (old_rules new_rules : List Rule) (chains : List Chain)
    → new_rules ≡ old_rules ++ each (statement chosen ∷ []) alternatives
    → Tells config alternatives condition
    → Adds config (under (λ packet. condition packet && can_decide chosen packet) (done (decide chosen))) old_rules new_rules chains chains
adds_decision config condition alternatives chosen old_rules new_rules chains are tells = record {
  rules = each (statement chosen ∷ []) alternatives;
  chains = [];
  new_rules_are = are;
  new_chains_are = sym (append-nil chains);
  work = λ table leaving now there meeting.
      subst (λ (hit : Bool). Do table leaving (each (statement chosen ∷ []) alternatives) now (if hit && can_decide chosen now.packet then done (decide chosen) else nothing))
      (sym (tells.holds table leaving now meeting)) (each_decides table leaving chosen alternatives now);
  built = built_leaves config 0 (each (statement chosen ∷ []) alternatives) (leaves_decision config chosen alternatives tells.stand);
}

-- a rule that logs
pub adds_line : (config : Config) (condition : Packet → Bool) (alternatives : List (List Match)) (line : LogLine) (old_rules new_rules : List Rule) (chains : List Chain)
    → length alternatives ≤ 1
    → new_rules ≡ old_rules ++ each (stmt.Log line ∷ []) alternatives
    → Tells config alternatives condition
    → Adds config (under condition (done (log line))) old_rules new_rules chains chains
adds_line config condition alternatives line old_rules new_rules chains few are tells = record {
  rules = each (stmt.Log line ∷ []) alternatives;
  chains = [];
  new_rules_are = are;
  new_chains_are = sym (append-nil chains);
  work = λ table leaving now there meeting.
      subst (λ (hit : Bool). Do table leaving (each (stmt.Log line ∷ []) alternatives) now (if hit then done (log line) else nothing))
      (sym (tells.holds table leaving now meeting)) (alone_logs table leaving line alternatives now few);
  built = built_leaves config 0 (each (stmt.Log line ∷ []) alternatives) (leaves_line config line alternatives tells.stand);
}

-- a chain of its own
pub adds_own : (config : Config) (block : List ℕ) (own : List Rule) (walked : Packet → Walked) (old_rules new_rules : List Rule) (old_chains new_chains : List Chain)
    → HasOwn block own old_rules new_rules old_chains new_chains
    → AreLeaves config own
    → ((table : Ruleset) (leaving : Option (List ℕ)) (now : Moment) → Meeting config table now → ChainDoes table leaving own now (walked now.packet))
    → Adds config walked old_rules new_rules old_chains new_chains
adds_own config block own walked old_rules new_rules old_chains new_chains has leaves does = record {
  rules = jump_to (own_name (length old_chains) block) ∷ [];
  chains = chain_named (own_name (length old_chains) block) own ∷ [];
  new_rules_are = has.rules;
  new_chains_are = has.chains;
  work = λ table leaving now there meeting.
      jump_does table leaving (own_name (length old_chains) block) own now (walked now.packet)
      (there (chain_named (own_name (length old_chains) block) own) (inl refl))
      (does table leaving (looking now) (record { sets = meeting.sets; packet = meeting.packet }));
  built = built_own config 0 (own_name (length old_chains) block) own leaves;
}

-- a chain that logs a line once
pub adds_own_line : (config : Config) (block : List ℕ) (condition : Packet → Bool) (alternatives : List (List Match)) (line : LogLine) (own old_rules new_rules : List Rule) (old_chains new_chains : List Chain)
    → own ≡ line_rules line alternatives
    → HasOwn block own old_rules new_rules old_chains new_chains
    → Tells config alternatives condition
    → Adds config (under condition (done (log line))) old_rules new_rules old_chains new_chains
adds_own_line config block condition alternatives line own old_rules new_rules old_chains new_chains are has tells =
    adds_own config block own (under condition (done (log line))) old_rules new_rules old_chains new_chains has
    (subst (AreLeaves config) (sym are) (leaves_line_once config line alternatives tells.stand))
    (λ table leaving now meeting.
    subst (λ (list : List Rule). ChainDoes table leaving list now (if condition now.packet then done (log line) else nothing)) (sym are)
    (subst (λ (hit : Bool). ChainDoes table leaving (line_rules line alternatives) now (if hit then done (log line) else nothing))
    (sym (tells.holds table leaving now meeting)) (chain_logs table leaving line alternatives now)))

-- the chain of a part
pub adds_part : (config : Config) (name : List ℕ) (walked : Packet → Walked) (made old_rules new_rules : List Rule) (before old_chains new_chains : List Chain)
    → new_rules ≡ old_rules ++ jump_to name ∷ []
    → new_chains ≡ old_chains ++ chain_named name made ∷ []
    → Adds config walked [] made before old_chains
    → AddsParts config walked old_rules new_rules before new_chains
adds_part config name walked made old_rules new_rules before old_chains new_chains are chains_are inner = record {
  rules = jump_to name ∷ [];
  chains = inner.chains ++ chain_named name made ∷ [];
  new_rules_are = are;
  new_chains_are = chains_are ∙ ap (λ (list : List Chain). list ++ chain_named name made ∷ []) inner.new_chains_are ∙ append_assoc before inner.chains (chain_named name made ∷ []);
  work = λ table leaving now there meeting.
      jump_does table leaving name made now (walked now.packet)
      (there (chain_named name made) (in_second (chain_named name made) inner.chains (chain_named name made ∷ []) (inl refl)))
      (whole table leaving made (looking now) (walked now.packet)
      (subst (λ (list : List Rule). Do table leaving list (looking now) (walked now.packet)) (sym inner.new_rules_are)
      (inner.work table leaving (looking now) (λ chain is. there chain (in_first chain inner.chains (chain_named name made ∷ []) is))
      (record { sets = meeting.sets; packet = meeting.packet }))));
  built = built_part config 0 name made inner.chains (subst (λ (list : List Rule). AreBuilt config 0 list inner.chains) (sym inner.new_rules_are) inner.built);
}

-- an empty part
pub adds_no_part : (config : Config) (walked : Packet → Walked) (made rules : List Rule) (before chains : List Chain)
    → made ≡ []
    → Adds config walked [] made before chains
    → AddsParts config walked rules rules before chains
adds_no_part config walked made rules before chains empty inner = record {
  rules = [];
  chains = inner.chains;
  new_rules_are = sym (append-nil rules);
  new_chains_are = inner.new_chains_are;
  work = λ table leaving now there meeting.
      subst (λ (list : List Rule). Do table leaving list now (walked now.packet)) (sym inner.new_rules_are ∙ empty)
      (inner.work table leaving now there meeting);
  built = built_deeper config 0 1 [] inner.chains (omega arith) (built_no_rule config 0 inner.rules inner.chains inner.built);
}

-- the whole block
pub evaluates : {depth : ℕ} (config : Config) (name : List ℕ) (walked : Packet → Walked) (rules : List Rule) (chains : List Chain) (all : List Chain)
    → AddsTo depth config walked [] rules [] chains
    → all ≡ chains ++ chain_named name rules ∷ []
    → Evaluates config all name walked
evaluates config name walked rules chains all added are table leaving now there meeting =
    let each_is = subst (λ (list : List Chain). EachIsThere list table) are there in
    jump_is table leaving name rules now (walked now.packet)
    (each_is (chain_named name rules) (in_second (chain_named name rules) chains (chain_named name rules ∷ []) (inl refl)))
    (whole table leaving rules now (walked now.packet)
    (subst (λ (list : List Rule). Do table leaving list now (walked now.packet)) (sym added.new_rules_are)
    (added.work table leaving now
    (λ chain is. each_is chain (in_first chain chains (chain_named name rules ∷ []) (subst (λ (list : List Chain). IsIn chain list) (sym added.new_chains_are) is))) meeting)))

-- begun with no rule and no chain
pub evaluates_from : {depth : ℕ} (config : Config) (name called : List ℕ) (walked : Packet → Walked) (old_rules rules : List Rule) (old_chains chains all : List Chain)
    → old_rules ≡ [] → old_chains ≡ []
    → AddsTo depth config walked old_rules rules old_chains chains
    → called ≡ name
    → all ≡ chains ++ chain_named called rules ∷ []
    → Evaluates config all name walked
evaluates_from {depth} config name called walked old_rules rules old_chains chains all no_rule no_chain added same are =
    evaluates config name walked rules chains all
    (subst (λ (start : List Rule). AddsTo depth config walked start rules [] chains) no_rule
    (subst (λ (start : List Chain). AddsTo depth config walked old_rules rules start chains) no_chain added))
    (are ∙ ap (λ (one : List ℕ). chains ++ chain_named one rules ∷ []) same)

pub from_no_rule : {depth : ℕ} (config : Config) (walked : Packet → Walked) (old_rules rules : List Rule) (old_chains chains : List Chain)
    → old_rules ≡ []
    → AddsTo depth config walked old_rules rules old_chains chains
    → AddsTo depth config walked [] rules old_chains chains
from_no_rule {depth} config walked old_rules rules old_chains chains no_rule added =
    subst (λ (start : List Rule). AddsTo depth config walked start rules old_chains chains) no_rule added

pub stands_from : (config : Config) (name called : List ℕ) (walked : Packet → Walked) (old_rules rules : List Rule) (old_chains chains all : List Chain)
    → old_rules ≡ [] → old_chains ≡ []
    → AddsParts config walked old_rules rules old_chains chains
    → called ≡ name
    → all ≡ chains ++ chain_named called rules ∷ []
    → StandAlone config all name
stands_from config name called walked old_rules rules old_chains chains all no_rule no_chain added same are =
    stands_alone config name called rules chains all
    (subst (λ (list : List Chain). AreBuilt config 1 rules list) (sym (added.new_chains_are ∙ ap (λ (list : List Chain). list ++ added.chains) no_chain))
    (subst (λ (list : List Rule). AreBuilt config 1 list added.chains) (sym (added.new_rules_are ∙ ap (λ (list : List Rule). list ++ added.rules) no_rule)) added.built))
    same are
