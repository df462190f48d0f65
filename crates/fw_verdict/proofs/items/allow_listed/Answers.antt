use Rattle.std.proofs.Common.{◌∙◌, Some, None, sym, ap}
use Rattle.std.specs.Prelude.{if◌then◌else◌, Bool}
use Rattle.fw_model.specs.declared.outcome.Verdict.TheVariants.{Accept}
use Rattle.fw_verdict.specs.Walk.{silently}
use Rattle.fw_verdict.proofs.Zones.{allowed}
use Rattle.fw_verdict.proofs.items.allow_listed.Goals as goal

pub returns-then-passes : goal.returns-then-passes
returns-then-passes c =
    allowed c.args.config.now c.args.rules.now c.args.inversion c.args.packet.now
    ∙ ap (λ (passes : Bool). silently (if passes then Some Accept else None)) (sym c.in_ok-passes.ensures ∙ c.if-passes.true)

pub returns-else-passes : goal.returns-else-passes
returns-else-passes c =
    allowed c.args.config.now c.args.rules.now c.args.inversion c.args.packet.now
    ∙ ap (λ (passes : Bool). silently (if passes then Some Accept else None)) (sym c.in_ok-passes.ensures ∙ c.if-passes.false)
