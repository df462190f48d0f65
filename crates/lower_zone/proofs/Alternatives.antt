-- What the rules for alternatives do.
use Rattle.std.proofs.Common.{◌≡◌, ◌∙◌, ◌≤◌, ℕ, suc, Bool, true, false, ◌&&◌, ◌||◌, List, [], ◌∷◌, ◌++◌, length, map, Option, None, Some, refl, sym, ap, subst, append-nil, arith}
use Rattle.std.specs.Prelude.{if◌then◌else◌}
use Rattle.std.specs.List.{list_all, list_any}
use Rattle.fw_addr.specs.declared.log.LogLine.{LogLine}
use Rattle.fw_model.specs.declared.outcome.Verdict.{Verdict}
use Rattle.fw_model.specs.declared.outcome.Verdict.TheVariants as verdict
use Rattle.fw_verdict.specs.Walk.{Walked, done, nothing}
use Rattle.fw_verdict.specs.Walk.Effect.{decide, log}
use Rattle.lower_zone.specs.Evaluates.{Follows, behind_lines}
use Rattle.lower_zone.specs.Forms.{each, line_rules, statement}
use Rattle.lower_zone.specs.Verdicts.{can_decide}
use Rattle.lower_zone.specs.Work.{ChainDoes, Do, one_holds_at}
use Rattle.lower_zone.proofs.Sequences.{nothing_done}
use Rattle.nf_chains.specs.Evaluation.{Ends}
use Rattle.nf_chains.specs.Evaluation.Ends.{accepts, drops, rejects, passes_over, logs as logged, looks, looks_past, returns as goes_back}
use Rattle.nf_chains.specs.Moments.{Moment, looking}
use Rattle.nf_chains.specs.Tests.{match_at}
use Rattle.nf_rules.specs.declared.rule.Match.{Match}
use Rattle.nf_rules.specs.declared.ruleset.Ruleset.{Ruleset}
use Rattle.nf_rules.specs.declared.rule.Rule.{Rule}
use Rattle.nf_rules.specs.declared.statement.Stmt.{Stmt}
use Rattle.nf_rules.specs.declared.statement.Stmt.TheVariants as stmt

module _ (rules : Ruleset) (leaving : Option (List ℕ)) where
  -- a statement that can decide, and one that can't
  decides : (chosen : Verdict) (now : Moment) (behind : List Rule) (returns : List (List Rule))
      → can_decide chosen now.packet ≡ true
      → Ends rules leaving (statement chosen ∷ []) behind returns now chosen now
  decides verdict.Accept now behind returns can = accepts
  decides verdict.Drop now behind returns can = drops
  decides (verdict.Reject kind) now behind returns can = rejects can

  passes : (chosen : Verdict) (now : Moment) (behind : List Rule) (returns : List (List Rule)) (verdict : Verdict) (end : Moment)
      → can_decide chosen now.packet ≡ false
      → Ends rules leaving [] behind returns now verdict end
      → Ends rules leaving (statement chosen ∷ []) behind returns now verdict end
  passes verdict.Accept now behind returns verdict end can next = cc
  passes verdict.Drop now behind returns verdict end can next = cc
  passes (verdict.Reject kind) now behind returns verdict end can next = passes_over can next

  abbrev holds : Moment → List Match → Bool
  holds now matches = list_all (match_at leaving rules.sets now.packet) matches

  -- what is decided at a moment to which no line was added
  decided_at : (from : List Rule) (returns : List (List Rule)) (now : Moment) (count : ℕ) (chosen verdict : Verdict) (end : Moment)
      → Ends rules leaving [] from returns now chosen (record now { looked_at = count })
      → (verdict ≡ chosen) × (end ≡ behind_lines [] count now)
      → Ends rules leaving [] from returns now verdict end
  decided_at from returns now count chosen verdict end there follows =
      subst (λ (one : Verdict). Ends rules leaving [] from returns now one end) (sym follows.0)
      (subst (λ (one : Moment). Ends rules leaving [] from returns now chosen one) (sym follows.1)
      (subst (λ (lines : List LogLine). Ends rules leaving [] from returns now chosen (record now { logs = lines; looked_at = count })) (sym (append-nil now.logs)) there))

  one_more_decides : (chosen : Verdict) (alternative : List Match) (others : List (List Match)) (now : Moment) (hit can later : Bool)
      → holds now alternative ≡ hit
      → can_decide chosen now.packet ≡ can
      → Do rules leaving (each (statement chosen ∷ []) others) (looking now) (if later && can then done (decide chosen) else nothing)
      → Do rules leaving (each (statement chosen ∷ []) (alternative ∷ others)) now (if (hit || later) && can then done (decide chosen) else nothing)
  one_more_decides chosen alternative others now true true later is can_is rest = record {
    looked_at = suc now.looked_at;
    ends = λ behind returns verdict end follows.
        decided_at (each (statement chosen ∷ []) (alternative ∷ others) ++ behind) returns now (suc now.looked_at) chosen verdict end
        (looks is (decides chosen (looking now) (each (statement chosen ∷ []) others ++ behind) returns can_is)) follows;
  }
  one_more_decides chosen alternative others now true false true is can_is rest = record {
    looked_at = rest.looked_at;
    ends = λ behind returns verdict end follows.
        looks is (passes chosen (looking now) (each (statement chosen ∷ []) others ++ behind) returns verdict end can_is (rest.ends behind returns verdict end follows));
  }
  one_more_decides chosen alternative others now true false false is can_is rest = record {
    looked_at = rest.looked_at;
    ends = λ behind returns verdict end follows.
        looks is (passes chosen (looking now) (each (statement chosen ∷ []) others ++ behind) returns verdict end can_is (rest.ends behind returns verdict end follows));
  }
  one_more_decides chosen alternative others now false can later is can_is rest = record {
    looked_at = rest.looked_at;
    ends = λ behind returns verdict end follows. looks_past is (rest.ends behind returns verdict end follows);
  }

  -- Rules that decide what meets one of the alternatives.
  pub each_decides : (chosen : Verdict) (alternatives : List (List Match)) (now : Moment)
      → Do rules leaving (each (statement chosen ∷ []) alternatives) now (if one_holds_at leaving rules now.packet alternatives && can_decide chosen now.packet then done (decide chosen) else nothing)
  each_decides chosen [] now = nothing_done rules leaving now
  each_decides chosen (alternative ∷ others) now =
      one_more_decides chosen alternative others now (holds now alternative) (can_decide chosen now.packet) (one_holds_at leaving rules now.packet others)
      refl refl (each_decides chosen others (looking now))

  one_line : (line : LogLine) (alternative : List Match) (now : Moment) (hit : Bool)
      → holds now alternative ≡ hit
      → Do rules leaving (each (stmt.Log line ∷ []) (alternative ∷ [])) now (if hit || false then done (log line) else nothing)
  one_line line alternative now true is = record {
    looked_at = suc now.looked_at;
    ends = λ behind returns verdict end follows. looks is (logged follows);
  }
  one_line line alternative now false is = record {
    looked_at = (nothing_done rules leaving (looking now)).looked_at;
    ends = λ behind returns verdict end follows. looks_past is ((nothing_done rules leaving (looking now)).ends behind returns verdict end follows);
  }

  -- A rule that logs a line, for one alternative at most.
  pub alone_logs : (line : LogLine) (alternatives : List (List Match)) (now : Moment) → length alternatives ≤ 1
      → Do rules leaving (each (stmt.Log line ∷ []) alternatives) now (if one_holds_at leaving rules now.packet alternatives then done (log line) else nothing)
  alone_logs line [] now few = nothing_done rules leaving now
  alone_logs line (alternative ∷ []) now few = one_line line alternative now (holds now alternative) refl
  alone_logs line (alternative ∷ other ∷ others) now few = absurd (omega (arith, few))

  -- a chain without rules comes back
  pub chain_of_nothing : (now : Moment) → ChainDoes rules leaving [] now nothing
  chain_of_nothing now = record {
    looked_at = now.looked_at;
    ends = λ returns verdict end follows.
        subst (λ (lines : List LogLine). Ends rules leaving [] [] returns (record now { logs = lines }) verdict end) (append-nil now.logs) follows;
  }

  one_more_logs : (line : LogLine) (alternative : List Match) (others : List (List Match)) (now : Moment) (hit later : Bool)
      → holds now alternative ≡ hit
      → ChainDoes rules leaving (line_rules line others) (looking now) (if later then done (log line) else nothing)
      → ChainDoes rules leaving (line_rules line (alternative ∷ others)) now (if hit || later then done (log line) else nothing)
  one_more_logs line alternative others now true later is rest = record {
    looked_at = suc now.looked_at;
    ends = λ returns verdict end follows. looks is (logged (goes_back follows));
  }
  one_more_logs line alternative others now false later is rest = record {
    looked_at = rest.looked_at;
    ends = λ returns verdict end follows. looks_past is (rest.ends returns verdict end follows);
  }

  -- A chain that logs a line, and goes back from the first alternative that is met.
  pub chain_logs : (line : LogLine) (alternatives : List (List Match)) (now : Moment)
      → ChainDoes rules leaving (line_rules line alternatives) now (if one_holds_at leaving rules now.packet alternatives then done (log line) else nothing)
  chain_logs line [] now = chain_of_nothing now
  chain_logs line (alternative ∷ others) now =
      one_more_logs line alternative others now (holds now alternative) (one_holds_at leaving rules now.packet others) refl (chain_logs line others (looking now))

  one_more_returns : (alternative : List Match) (others : List (List Match)) (made : List Rule) (walked : Walked) (now : Moment) (hit later : Bool)
      → holds now alternative ≡ hit
      → ChainDoes rules leaving (each (stmt.Return ∷ []) others ++ made) (looking now) (if later then nothing else walked)
      → ChainDoes rules leaving (each (stmt.Return ∷ []) (alternative ∷ others) ++ made) now (if hit || later then nothing else walked)
  one_more_returns alternative others made walked now true later is rest = record {
    looked_at = (chain_of_nothing (looking now)).looked_at;
    ends = λ returns verdict end follows. looks is (goes_back ((chain_of_nothing (looking now)).ends returns verdict end follows));
  }
  one_more_returns alternative others made walked now false later is rest = record {
    looked_at = rest.looked_at;
    ends = λ returns verdict end follows. looks_past is (rest.ends returns verdict end follows);
  }

  -- A chain that goes back from the first alternative that is met, before others of its rules.
  pub chain_returns : (alternatives : List (List Match)) (made : List Rule) (walked : Walked) (now : Moment)
      → ((count : ℕ) → ChainDoes rules leaving made (record now { looked_at = count }) walked)
      → ChainDoes rules leaving (each (stmt.Return ∷ []) alternatives ++ made) now (if one_holds_at leaving rules now.packet alternatives then nothing else walked)
  chain_returns [] made walked now does = does now.looked_at
  chain_returns (alternative ∷ others) made walked now does =
      one_more_returns alternative others made walked now (holds now alternative) (one_holds_at leaving rules now.packet others) refl
      (chain_returns others made walked (looking now) does)
