-- Each call has fewer links left, or as many for a part. What the rules or statements from here on tell, all tell.
use Rattle.std.proofs.Common.{◌≡◌, ℕ, ◌+◌, ◌*◌, List, Option, drop, is_some}
use Rattle.fw_addr.specs.declared.log.LogLine.{LogLine}
use Rattle.nf_chains.specs.Runs.{Tells, run_statements}
use Rattle.nf_chains.specs.Scenes.{act_in, run_in}
use Rattle.nf_chains.specs.declared.course.Course.{Course}
use Rattle.nf_chains.specs.declared.flow.Flow.{Flow}
use Rattle.nf_chains.proofs.run.+run.Given as goal

abbrev pub decreases-run : goal.decreases-run
decreases-run g l = 6 * l.links + 5

abbrev pub decreases-one_rule : goal.decreases-one_rule
decreases-one_rule g l = 6 * l.links + 4

abbrev pub decreases-run_statements : goal.decreases-run_statements
decreases-run_statements g l = 6 * l.links + 3

abbrev pub decreases-act : goal.decreases-act
decreases-act g l = 6 * l.links + 2

abbrev pub decreases-jump : goal.decreases-jump
decreases-jump g l = 6 * l.links + 1

abbrev pub decreases-lead : goal.decreases-lead
decreases-lead g l = 6 * l.links + 1

abbrev pub decreases-call : goal.decreases-call
decreases-call g l = 6 * l.links

abbrev pub invariant-run-loop-rule : goal.invariant-run-loop-rule
invariant-run-loop-rule g l = record {
  tells : (found : Flow) (course : Course) (after : Option (List LogLine)) (to : ℕ)
      → Tells found (run_in l.scene l.links (drop l.rule-index l.list)) l.course course l.journal after l.steps to
      → Tells found (run_in l.scene l.links l.list) l.fn.course course l.fn.journal after l.fn.steps to;
  kept : is_some l.journal ≡ is_some l.fn.journal;
}

abbrev pub invariant-run_statements-loop-statement : goal.invariant-run_statements-loop-statement
invariant-run_statements-loop-statement g l = record {
  tells : (found : Option Flow) (course : Course) (after : Option (List LogLine)) (to : ℕ)
      → Tells found (run_statements (act_in l.scene l.links) (drop l.statement-index l.statements)) l.course course l.journal after l.steps to
      → Tells found (run_statements (act_in l.scene l.links) l.statements) l.fn.course course l.fn.journal after l.fn.steps to;
  kept : is_some l.journal ≡ is_some l.fn.journal;
}
