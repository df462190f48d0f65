-- What the chains that are left tell, all tell; and lines are kept or not, as before.
use Rattle.std.proofs.Common.{◌≡◌, ℕ, List, Option, is_some, option_copied}
use Rattle.fw_addr.specs.declared.log.LogLine.{LogLine}
use Rattle.fw_model.specs.declared.outcome.Verdict.{Verdict}
use Rattle.nf_chains.specs.Runs.{Tells, meet}
use Rattle.nf_chains.specs.Scenes.{leaving_of, meet_all_in}
use Rattle.nf_chains.specs.declared.course.Course.{Course}
use Rattle.nf_chains.proofs.hook.meet_all.Given as goal

abbrev pub invariant-loop-left : goal.invariant-loop-left
invariant-loop-left g l = record {
  tells : (found : Verdict) (course : Course) (after : Option (List LogLine)) (to : ℕ)
      → Tells found (meet l.scene.rules.now (leaving_of l.scene) l.scene.packet.now l.wanted l._left (option_copied l.last)) l.course course l.journal after l.steps to
      → Tells found (meet_all_in l.scene l.wanted) l.fn.course course l.fn.journal after l.fn.steps to;
  kept : is_some l.journal ≡ is_some l.fn.journal;
}
