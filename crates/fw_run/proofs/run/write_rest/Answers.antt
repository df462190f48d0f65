-- By whether anything may still be written, and whether that fails.
use Rattle.std.proofs.Common.{rules, refl, inl, inr, subst}
use Rattle.fw_run.specs.Turns.{Stopped}
use Rattle.fw_run.specs.declared.ended.Ended.TheVariants as ended
use Rattle.fw_run.proofs.Stops.{runs-fault, runs-silent, runs-written}
use Rattle.fw_run.proofs.run.write_rest.Goals as goal

pub returns-in-WriteFault-clause-runs : goal.returns-in-WriteFault-clause-runs
returns-in-WriteFault-clause-runs g c = λ first lines before stopped.
    runs-silent g.M.Machine.step first ended.WriteFault lines before _ _ (inl refl) (subst (λ end. Stopped g.M.Machine.step first end lines before c.args.runner.now (g.O.Sink.written c.args.output.now)) c.in-WriteFault.is stopped)

pub returns-in-Memory-clause-runs : goal.returns-in-Memory-clause-runs
returns-in-Memory-clause-runs g c = λ first lines before stopped.
    runs-silent g.M.Machine.step first ended.Memory lines before _ _ (inr refl) (subst (λ end. Stopped g.M.Machine.step first end lines before c.args.runner.now (g.O.Sink.written c.args.output.now)) c.in-Memory.is stopped)

pub returns-in-Ok : goal.returns-in-Ok
returns-in-Ok g c = record {
  runs = λ first lines before stopped. runs-written g.M.Machine.step first c.args.ended lines before _ _ _ c.flush.new.self c.in-Ok.field-0 c.in_default.not-WriteFault c.in_default.not-Memory stopped c.in-Ok.ensures.flushes c.in-Ok.ensures.empty;
  writes = search rules;
  write_fault = search rules;
  same = search rules;
}

pub returns-in-Err : goal.returns-in-Err
returns-in-Err g c = record {
  runs = λ first lines before stopped. runs-fault g.M.Machine.step first c.args.ended lines before _ _ _ c.flush.new.self c.flush.result c.in_default.not-WriteFault c.in_default.not-Memory stopped c.flush.ensures.flushes;
  writes = search rules;
  write_fault = search rules;
  same = search rules;
}
