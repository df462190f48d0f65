use Rattle.std.proofs.Common.{rules, arith, ap, sym, ◌∙◌, subst, ◌<◌}
use Rattle.turn_core.specs.Knowledge.{opened, looked}
use Rattle.turn_core.proofs.Moves.{opens, slot_out_moves}
use Rattle.turn_core.proofs.turn.Turn.open.Goals as goal

pub vacant-requires : goal.vacant-requires
vacant-requires g c = opens g.S.Journaled.base g.S.Journaled.entries g.S.Journaled.session (g.S.Journaled.base c.args.first.now)

pub load-requires : goal.load-requires
load-requires g c = let me = c.in_ok-table.ensures.4 in
    (c.in_ok-table.ensures.2, search rules, slot_out_moves g.S.Journaled.base g.S.Journaled.entries g.S.Journaled.session _ _ _ _ (subst (λ m. 0 < m.0.knows.parts) (sym me) (omega arith)) (ap (λ m. m.0.vacant) me))

pub returns-clause-pass : goal.returns-clause-pass
returns-clause-pass g c = let t = c.load.ensures.2 in let me = c.in_ok-table.ensures.4 in
    ap (λ m. m.0.knows) t.0 ∙ (ap (λ w. looked c.in_ok-table.seat.me.0.knows w) (t.1 ∙ ap (λ m. Rattle.turn_core.specs.Knowledge.held_word m.0.knows) me) ∙ ap (λ m. looked m.0.knows 1) me)
