use Rattle.std.proofs.Common.{ℕ, ◌≤◌, List, length, refl, subst, sym}
use Rattle.fw_calls.specs.declared.signal.Signal.{Signal}
use Rattle.fw_history.proofs.Entering.{AtEntering, at_entering, entered_as, entered_history}
use Rattle.fw_history.specs.History.{IsEntered, IsPlanned, Recorded}
use Rattle.fw_history.proofs.history.History.enter.Goals as goal
use Rattle.fw_machine.specs.Machine.{step}
use Rattle.fw_replay.specs.Legal.{MayCome}
use Rattle.fw_settings.specs.Valid.{AreValid}

-- the history before
abbrev before : goal.After-push → Recorded
before c = record { first = c.self.inside.first; settings = c.self.inside.settings; journal = c.self.inside.journal; limit = c.self.inside.limit }

at : (c : goal.After-push) → AtEntering (before c) c.args.event c.args.plan.proposal c.args.save c.args.commit c.settle-reply.new.settings c.settle-reply.result.1 c.settle-reply.result.0 c.push.new.self
at c =
    at_entering (before c) c.args.event c.requires.planned.0 c.args.plan.proposal c.args.plan.told c.args.plan.earlier c.args.save c.args.commit c.settle-reply.new.settings c.settle-reply.result.1 c.settle-reply.result.0 c.push.new.self c.session_of.result c.len-place.result
    c.self.invariant
    (subst (λ (was : Recorded). MayCome was.journal.entries c.args.event) (sym c.self.view_is) c.requires.comes)
    c.requires.results
    (subst (λ (was : Recorded). IsPlanned was c.args.event c.requires.planned.0 c.args.plan.proposal c.args.plan.told c.args.plan.earlier) (sym c.self.view_is) c.requires.planned.1)
    (subst (λ (was : Recorded). AreValid (step was.settings c.args.event).after) (sym c.self.view_is) c.requires.valid)
    c.settle-reply.ensures.settled
    c.settle-reply.ensures.valid
    c.laws.ensures
    c.len-place.ensures
    c.session_of.ensures
    c.push.ensures.entries
    c.push.ensures.told

-- and behind the event
abbrev after : goal.After-push → Recorded
after c = record { first = c.self.inside.first; settings = c.settle-reply.new.settings; journal = c.push.new.self; limit = c.self.inside.limit }

pub invariant_of-self : goal.invariant_of-self
invariant_of-self c = entered_history (before c) _ _ _ _ _ _ _ _ (at c)

pub returns : goal.returns
returns c =
    subst
    (λ (was : Recorded). (from : ℕ) → from ≤ length was.journal.entries
    → IsPlanned was c.args.event from c.args.plan.proposal c.args.plan.told c.args.plan.earlier
    → IsEntered was (after c) c.args.event from c.args.save c.args.commit c.len-place.result c.told_of-signals.result c.settle-reply.result.0)
    c.self.view_is
    (λ from within planned.
    subst (λ (signals : List Signal). IsEntered (before c) (after c) c.args.event from c.args.save c.args.commit c.len-place.result signals c.settle-reply.result.0)
    (sym c.told_of-signals.ensures)
    (entered_as (before c) (after c) _ from _ _ _ _ _ _ _ _ _ _ (at c) refl within planned c.len-place.ensures c.push.ensures.spare))
