-- A flush and a line keep a run in its middle, or stop it.
use Rattle.std.proofs.Common.{◌∙◌, sym, arith}
use Rattle.fw_input.specs.Reading.{outlook}
use Rattle.fw_run.proofs.Stops.{progress-flushed, stopped-fault, stopped-line}
use Rattle.fw_run.proofs.Turning.{progress-line}
use Rattle.fw_run.proofs.run.run_lines.Goals as goal

pub returns-then-is_err-clause-stopped : goal.returns-then-is_err-clause-stopped
returns-then-is_err-clause-stopped g c = λ first lines before progress.
    stopped-fault g.M.Machine.step first lines _ before _ _ _ _ c.flush_before_read.result (sym c.is_err.ensures.value ∙ c.if-is_err.true) (c.lines.invariant.progress first lines before progress) c.flush_before_read.ensures.flushes

pub returns-in-Some-clause-stopped : goal.returns-in-Some-clause-stopped
returns-in-Some-clause-stopped g c = λ first lines before progress.
    let flushed = progress-flushed g.M.Machine.step first lines _ before _ _ _ _ c.flush_before_read.result (sym c.is_err.ensures.value ∙ c.if-is_err.false) (c.lines.invariant.progress first lines before progress) c.flush_before_read.ensures.flushes in
    stopped-line g.M.Machine.step first c.in-Some.ended lines _ (outlook c.take_line.new.reader (g.I.Source.left c.take_line.new.input)) before _ _ _ flushed c.in-Some.ensures.takes

pub lines-preserved : goal.lines-preserved
lines-preserved g c = record {
  progress = λ first lines before progress.
      let flushed = progress-flushed g.M.Machine.step first lines _ before _ _ _ _ c.flush_before_read.result (sym c.is_err.ensures.value ∙ c.if-is_err.false) (c.lines.invariant.progress first lines before progress) c.flush_before_read.ensures.flushes in
      progress-line g.M.Machine.step first lines _ _ before _ _ _ flushed c.in_default.ensures.takes;
  number = omega (arith, c.flush_before_read.ensures.flushes.number, c.in_default.ensures.number, c.lines.invariant.number);
  reads = omega (arith, c.lines.invariant.reads, c.in_default.ensures.counted);
  writes = omega (arith, c.lines.invariant.writes, c.flush_before_read.ensures.cause.kept);
}
