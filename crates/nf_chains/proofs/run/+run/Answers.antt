-- What each step tells.
use Rattle.std.proofs.Common.{◌≡◌, ◌+◌, ◌<◌, ◌≤◌, true, None, Some, drop, length, refl, sym, ◌∙◌, arith}
use Rattle.std.proofs.lemmas.Option.{slice_get_read}
use Rattle.nf_chains.proofs.Told.{call_answered, call_astray, drop_at, drop_past, no_call_left, rule_holds, rule_later, rule_over, rules_over, statement_ends_chain, statement_ends_rule, statement_later, statements_over, still_kept}
use Rattle.nf_chains.specs.Runs.{Tells, one_rule}
use Rattle.nf_chains.specs.Scenes.{act_in, holds_in, leaving_of}
use Rattle.nf_chains.specs.declared.flow.Flow.TheVariants as flow
use Rattle.nf_chains.specs.declared.flow.Next.TheVariants as next
use Rattle.nf_sound.specs.Names.{chain_of}
use Rattle.nf_chains.proofs.run.+run.Goals as goal

pub run-returns-in-Some : goal.run-returns-in-Some
run-returns-in-Some g t c =
    let within : c.loop-rule.rule-index < length c.args.list.now = omega arith in
    let at = slice_get_read c.args.list.now _ c.loop-rule.rule-index c.rule-item.result refl within c.rule-item.is in
    c.loop-rule.invariant.tells c.in-Some.flow c.one_rule.new.course c.one_rule.new.journal c.one_rule.new.steps
    (rule_over (holds_in c.args.scene.now) (act_in c.args.scene.now c.args.links) _ c.rule-item.result (drop (c.loop-rule.rule-index + 1) c.args.list.now) c.in-Some.flow c.loop-rule.course c.one_rule.new.course c.loop-rule.journal c.one_rule.new.journal c.loop-rule.steps c.one_rule.new.steps
    (drop_at c.args.list.now c.loop-rule.rule-index c.rule-item.result at) (rw c.in-Some.is at c.in_ok-flow.ensures))

pub run-loop-rule-preserved : goal.run-loop-rule-preserved
run-loop-rule-preserved g t c =
    let within : c.loop-rule.rule-index < length c.args.list.now = omega arith in
    let at = slice_get_read c.args.list.now _ c.loop-rule.rule-index c.rule-item.result refl within c.rule-item.is in
    let over : Tells None (one_rule (holds_in c.args.scene.now) (act_in c.args.scene.now c.args.links) c.rule-item.result) c.loop-rule.course c.one_rule.new.course c.loop-rule.journal c.one_rule.new.journal c.loop-rule.steps c.one_rule.new.steps = rw c.in_default.is at c.in_ok-flow.ensures in
    record {
      tells = λ found course after to rest. c.loop-rule.invariant.tells found course after to
          (rule_later (holds_in c.args.scene.now) (act_in c.args.scene.now c.args.links) _ c.rule-item.result (drop (c.loop-rule.rule-index + 1) c.args.list.now) found c.loop-rule.course c.one_rule.new.course course c.loop-rule.journal c.one_rule.new.journal after c.loop-rule.steps c.one_rule.new.steps to
          (drop_at c.args.list.now c.loop-rule.rule-index c.rule-item.result at) over rest);
      kept = still_kept over ∙ c.loop-rule.invariant.kept;
    }

pub run-returns : goal.run-returns
run-returns g t c =
    let past : length c.args.list.now ≤ c.loop-rule.rule-index = omega arith in
    c.loop-rule.invariant.tells flow.Back c.loop-rule.course c.loop-rule.journal c.loop-rule.steps
    (rules_over (holds_in c.args.scene.now) (act_in c.args.scene.now c.args.links) _ c.loop-rule.course c.loop-rule.journal c.loop-rule.steps
    (drop_past c.args.list.now c.loop-rule.rule-index past))

pub one_rule-returns-then-all_hold : goal.one_rule-returns-then-all_hold
one_rule-returns-then-all_hold g t c =
    let holds : holds_in c.args.scene.now c.args.rule.now c.args.course.now ≡ true = sym (rw c.as_slice.ensures at c.all_hold.ensures) ∙ c.if-all_hold.true in
    rule_holds (holds_in c.args.scene.now) (act_in c.args.scene.now c.args.links) c.args.rule.now c.run_statements.result c.args.course.now c.run_statements.new.course c.args.journal.now c.run_statements.new.journal c.args.steps.now c.tick.new.self c.run_statements.new.steps
    holds c.tick.ensures (rw c.as_slice-then-all_hold.ensures at c.run_statements.ensures)

pub run_statements-returns-in-Rule : goal.run_statements-returns-in-Rule
run_statements-returns-in-Rule g t c =
    let within : c.loop-statement.statement-index < length c.args.statements.now = omega arith in
    let at = slice_get_read c.args.statements.now _ c.loop-statement.statement-index c.statement-item.result refl within c.statement-item.is in
    c.loop-statement.invariant.tells None c.act.new.course c.act.new.journal c.act.new.steps
    (statement_ends_rule (act_in c.args.scene.now c.args.links) _ c.statement-item.result (drop (c.loop-statement.statement-index + 1) c.args.statements.now) c.loop-statement.course c.act.new.course c.loop-statement.journal c.act.new.journal c.loop-statement.steps c.act.new.steps
    (drop_at c.args.statements.now c.loop-statement.statement-index c.statement-item.result at) (rw c.in-Rule.is at c.in_ok-act.ensures))

pub run_statements-returns-in-Over : goal.run_statements-returns-in-Over
run_statements-returns-in-Over g t c =
    let within : c.loop-statement.statement-index < length c.args.statements.now = omega arith in
    let at = slice_get_read c.args.statements.now _ c.loop-statement.statement-index c.statement-item.result refl within c.statement-item.is in
    c.loop-statement.invariant.tells (Some c.in-Over.flow) c.act.new.course c.act.new.journal c.act.new.steps
    (statement_ends_chain (act_in c.args.scene.now c.args.links) _ c.statement-item.result (drop (c.loop-statement.statement-index + 1) c.args.statements.now) c.in-Over.flow c.loop-statement.course c.act.new.course c.loop-statement.journal c.act.new.journal c.loop-statement.steps c.act.new.steps
    (drop_at c.args.statements.now c.loop-statement.statement-index c.statement-item.result at) (rw c.in-Over.is at c.in_ok-act.ensures))

pub run_statements-loop-statement-preserved : goal.run_statements-loop-statement-preserved
run_statements-loop-statement-preserved g t c =
    let within : c.loop-statement.statement-index < length c.args.statements.now = omega arith in
    let at = slice_get_read c.args.statements.now _ c.loop-statement.statement-index c.statement-item.result refl within c.statement-item.is in
    let on : Tells next.Statement (act_in c.args.scene.now c.args.links c.statement-item.result) c.loop-statement.course c.act.new.course c.loop-statement.journal c.act.new.journal c.loop-statement.steps c.act.new.steps = rw c.in-Statement.is at c.in_ok-act.ensures in
    record {
      tells = λ found course after to rest. c.loop-statement.invariant.tells found course after to
          (statement_later (act_in c.args.scene.now c.args.links) _ c.statement-item.result (drop (c.loop-statement.statement-index + 1) c.args.statements.now) found c.loop-statement.course c.act.new.course course c.loop-statement.journal c.act.new.journal after c.loop-statement.steps c.act.new.steps to
          (drop_at c.args.statements.now c.loop-statement.statement-index c.statement-item.result at) on rest);
      kept = still_kept on ∙ c.loop-statement.invariant.kept;
    }

pub run_statements-returns : goal.run_statements-returns
run_statements-returns g t c =
    let past : length c.args.statements.now ≤ c.loop-statement.statement-index = omega arith in
    c.loop-statement.invariant.tells None c.loop-statement.course c.loop-statement.journal c.loop-statement.steps
    (statements_over (act_in c.args.scene.now c.args.links) _ c.loop-statement.course c.loop-statement.journal c.loop-statement.steps
    (drop_past c.args.statements.now c.loop-statement.statement-index past))

pub call-returns-then-links-eq0 : goal.call-returns-then-links-eq0
call-returns-then-links-eq0 g t c =
    no_call_left c.args.scene.now.rules.now (leaving_of c.args.scene.now) c.args.scene.now.packet.now c.args.links c.args.name.now c.args.course.now c.args.journal.now c.args.steps.now c.if-links-eq0.true

pub call-returns-in-Some : goal.call-returns-in-Some
call-returns-in-Some g t c =
    let found : chain_of c.args.scene.now.rules.now.chains c.args.name.now ≡ Some c.in-Some.chain.now = sym (rw c.as_slice.ensures at c.in-Some.ensures) in
    call_answered c.args.scene.now.rules.now (leaving_of c.args.scene.now) c.args.scene.now.packet.now c.args.links c.args.name.now c.in-Some.chain.now c.run.result c.args.course.now c.run.new.course c.args.journal.now c.run.new.journal c.args.steps.now c.run.new.steps
    (omega arith) found (rw c.as_slice-in-Some.ensures at c.run.ensures)

pub call-returns-in-None : goal.call-returns-in-None
call-returns-in-None g t c =
    let found : chain_of c.args.scene.now.rules.now.chains c.args.name.now ≡ None = sym (rw c.as_slice.ensures at c.in-None.ensures) in
    call_astray c.args.scene.now.rules.now (leaving_of c.args.scene.now) c.args.scene.now.packet.now c.args.links c.args.name.now c.args.course.now c.args.journal.now c.args.steps.now found
