use Rattle.std.proofs.Common.{◌≡◌, rules, sym, subst, Bool}
use Rattle.std.specs.Prelude.{◌↔◌, IsTrue}
use Rattle.fw_timed.specs.Timers.{same_setting}
use Rattle.fw_timed.proofs.Settings.{settings}
use Rattle.fw_timed.proofs.same.is_same.Goals as goal

pub returns-clause-same : goal.returns-clause-same
unfolding same_setting
returns-clause-same c = search rules

pub returns-clause-value : goal.returns-clause-value
returns-clause-value c = subst (λ (b : Bool). IsTrue b ↔ (c.args.one.now ≡ c.args.other.now)) (sym c.eq.ensures) (settings c.args.one.now c.args.other.now)
