use Rattle.std.proofs.Common.{◌≤◌, List, length, option_map, refl, subst, sym}
use Rattle.fw_calls.specs.declared.event.Entry.{Entry}
use Rattle.fw_daemon.proofs.Meeting.{few, few_asked, not_many, planned_over}
use Rattle.fw_daemon.proofs.Serving.{AtCarried, handled_as, sound_again}
use Rattle.fw_daemon.proofs.daemon.Daemon.handle.Given.{Over}
use Rattle.fw_daemon.proofs.daemon.Daemon.handle.Goals as goal
use Rattle.fw_daemon.specs.Daemons.{IsHandled, Served}

pub carry_out-place-requires-clause-calls : goal.carry_out-place-requires-clause-calls
carry_out-place-requires-clause-calls g c = not_many _ _ c.self.invariant.calls (few _ c.self.invariant.history)

pub carry_out-place-requires-clause-asked : goal.carry_out-place-requires-clause-asked
carry_out-place-requires-clause-asked g c = few_asked _ _ _ _ _ _ c.in-Ok.ensures.ready c.self.invariant.asked (few _ c.self.invariant.history)

-- the daemon before and behind the event
abbrev before : (g : Over) → goal.After-laws g → Served g.row.B.Denot g.row.K.Denot g.row.C.Denot
before g c = record { backend = c.self.inside.backend; keeper = c.self.inside.keeper; compiler = c.self.inside.compiler; history = c.self.inside.history; backend_faults = c.self.inside.backend_faults; keeper_faults = c.self.inside.keeper_faults }

abbrev after : (g : Over) → goal.After-laws g → Served g.row.B.Denot g.row.K.Denot g.row.C.Denot
after g c = record { backend = c.carry_out-place.new.backend; keeper = c.carry_out-place.new.keeper; compiler = c.self.inside.compiler; history = c.carry_out-place.new.history; backend_faults = c.self.inside.backend_faults; keeper_faults = c.self.inside.keeper_faults }

at : (g : Over) (c : goal.After-laws g)
    → AtCarried g.B.Backend.kernel g.K.Keeper.kept g.C.Compiler.makes (before g c) (after g c) c.prepare.new.history (g.B.Backend.kernel c.prepare.new.backend)
    c.args.event (option_map (λ bytes. bytes.items) c.in-Ok.prepared.text) c.in-Ok.prepared.plan.proposal.needs_save c.in-Ok.prepared.plan.proposal.needs_commit
    c.args.from c.carry_out-place.result.place c.carry_out-place.result.signals c.carry_out-place.result.reply
at g c = record {
  sound = c.self.invariant;
  same = c.in-Ok.ensures.same;
  carried =
      c.carry_out-place.ensures c.args.from
      (subst (λ (entries : List Entry). c.args.from ≤ length entries) (sym c.in-Ok.ensures.same.entries)
      (subst (λ (daemon : Served g.row.B.Denot g.row.K.Denot g.row.C.Denot). c.args.from ≤ length daemon.history.journal.entries) (sym c.self.view_is) c.requires.from))
      (planned_over c.self.inside.history c.prepare.new.history c.args.event c.args.from _ _ _ c.in-Ok.ensures.same c.in-Ok.ensures.planned);
  save_needed = c.in-Ok.ensures.planned.proposes.save;
  commit_needed = c.in-Ok.ensures.planned.proposes.commit;
  text_for = c.in-Ok.ensures.text;
  ready_for = c.in-Ok.ensures.ready;
  history = c.laws.ensures;
  compiler_is = refl;
  backend_faults_are = refl;
  keeper_faults_are = refl;
}

pub invariant_of-self-2 : goal.invariant_of-self-2
invariant_of-self-2 g c = sound_again _ _ _ (before g c) (after g c) _ _ _ _ _ _ _ _ _ _ (at g c)

pub returns-clause-handles : goal.returns-clause-handles
returns-clause-handles g c =
    subst
    (λ (daemon : Served g.row.B.Denot g.row.K.Denot g.row.C.Denot).
    IsHandled g.B.Backend.kernel g.K.Keeper.kept daemon (after g c) c.args.event c.args.from c.carry_out-place.result.place c.carry_out-place.result.signals c.carry_out-place.result.reply)
    c.self.view_is
    (handled_as _ _ g.C.Compiler.makes (before g c) (after g c) _ _ _ _ _ _ _ _ _ _ (at g c))
