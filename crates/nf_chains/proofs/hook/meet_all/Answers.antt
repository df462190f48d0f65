-- One chain after another, until one refuses or none is left.
use Rattle.std.proofs.Common.{◌≡◌, ◌-◌, None, Some, true, false, option_copied, refl, sym, ◌∙◌, arith}
use Rattle.nf_chains.proofs.Told.{error_kept, met_accepted_at, met_none, met_out, met_refused_at, still_kept}
use Rattle.nf_chains.specs.Hooks.{is_accept, next_at}
use Rattle.nf_chains.specs.Scenes.{leaving_of, meet_all_in}
use Rattle.fw_model.specs.declared.outcome.Verdict.TheVariants as verdict
use Rattle.nf_chains.proofs.hook.meet_all.Goals as goal

pub loop-left-init : goal.loop-left-init
loop-left-init g c = record {
  tells = λ found course after to told. rw c.as_slice-chains.ensures at told;
  kept = refl;
}

pub returns-in_default : goal.returns-in_default
returns-in_default g c =
    let none : next_at c.args.wanted (option_copied c.loop-left.last) c.args.scene.now.rules.now.chains ≡ None = sym (rw c.as_slice-chains.ensures at c.in_default.ensures) in
    c.loop-left.invariant.tells verdict.Accept c.loop-left.course c.loop-left.journal c.loop-left.steps
    (met_none c.args.scene.now.rules.now (leaving_of c.args.scene.now) c.args.scene.now.packet.now c.args.wanted c.loop-left._left (option_copied c.loop-left.last) c.loop-left.course c.loop-left.journal c.loop-left.steps none)

pub returns-in_err-verdict : goal.returns-in_err-verdict
returns-in_err-verdict g c =
    error_kept c.from_residual.result (meet_all_in c.args.scene.now c.args.wanted) c.args.course.now c.meet_one.new.course c.args.journal.now c.meet_one.new.journal c.args.steps.now c.meet_one.new.steps
    c.from_residual.ensures.0 (sym c.loop-left.invariant.kept ∙ c.in_err-verdict.ensures)

pub returns-then-not-is_accept : goal.returns-then-not-is_accept
returns-then-not-is_accept g c =
    let next : next_at c.args.wanted (option_copied c.loop-left.last) c.args.scene.now.rules.now.chains ≡ Some c.in-Some.chain.now = sym (rw c.as_slice-chains.ensures at c.in-Some.ensures) in
    let fails : is_accept c.in_ok-verdict.verdict ≡ false = sym c.is_accept.ensures ∙ c.if-not-is_accept.true in
    c.loop-left.invariant.tells c.in_ok-verdict.verdict c.meet_one.new.course c.meet_one.new.journal c.meet_one.new.steps
    (met_refused_at c.args.scene.now.rules.now (leaving_of c.args.scene.now) c.args.scene.now.packet.now c.args.wanted c.loop-left._left (c.loop-left._left - 1) (option_copied c.loop-left.last) c.in-Some.chain.now c.in_ok-verdict.verdict
    c.loop-left.course c.meet_one.new.course c.loop-left.journal c.meet_one.new.journal c.loop-left.steps c.meet_one.new.steps (omega (arith, c.loop-left-test.true)) next fails c.in_ok-verdict.ensures)

pub loop-left-preserved : goal.loop-left-preserved
loop-left-preserved g c =
    let next : next_at c.args.wanted (option_copied c.loop-left.last) c.args.scene.now.rules.now.chains ≡ Some c.in-Some.chain.now = sym (rw c.as_slice-chains.ensures at c.in-Some.ensures) in
    let holds : is_accept c.in_ok-verdict.verdict ≡ true = sym c.is_accept.ensures ∙ c.if-not-is_accept.false in
    record {
      tells = λ found course after to told. c.loop-left.invariant.tells found course after to
          (met_accepted_at c.args.scene.now.rules.now (leaving_of c.args.scene.now) c.args.scene.now.packet.now c.args.wanted c.loop-left._left (c.loop-left._left - 1) (option_copied c.loop-left.last) c.in-Some.chain.now c.in_ok-verdict.verdict found
          c.loop-left.course c.meet_one.new.course course c.loop-left.journal c.meet_one.new.journal after c.loop-left.steps c.meet_one.new.steps to (omega (arith, c.loop-left-test.true)) next holds c.in_ok-verdict.ensures told);
      kept = still_kept c.in_ok-verdict.ensures ∙ c.loop-left.invariant.kept;
    }

pub returns : goal.returns
returns g c =
    c.loop-left.invariant.tells verdict.Accept c.loop-left.course c.loop-left.journal c.loop-left.steps
    (met_out c.args.scene.now.rules.now (leaving_of c.args.scene.now) c.args.scene.now.packet.now c.args.wanted c.loop-left._left (option_copied c.loop-left.last) c.loop-left.course c.loop-left.journal c.loop-left.steps (omega (arith, c.loop-left-test.false)))
