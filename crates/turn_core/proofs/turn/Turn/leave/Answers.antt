use Rattle.std.proofs.Common.{rules, ap, sym, ◌∙◌, Some, ◌∷◌, ◌*◌}
use Rattle.atomic_table.specs.Table.{rest}
use Rattle.turn_core.proofs.Moves.{leave_moves}
use Rattle.turn_core.proofs.turn.Turn.leave.Goals as goal

pub store-requires : goal.store-requires
store-requires g c = let J = g.S.Journaled in let me = c.pass.inside.seat.me in let holds = ap (λ x. x.knows.holds) c.pass.view_is ∙ c.requires.holds in (
  search rules,
  search rules,
  leave_moves J.base J.entries J.session _ _ _ _ me.0 c.args.state (2 * c.len-entries.result)
      (c.exchange.ensures.3 ∙ ap (λ l. (me.0, (0, Some c.args.state) ∷ rest l)) (c.pass.invariant.holding holds)) c.pass.invariant.sound.part holds c.pass.invariant.full
      (ap (λ x. x.knows.base) c.pass.view_is ∙ c.requires.base) (c.requires.journal ∙ sym (ap (λ x. x.knows.seen) c.pass.view_is)) (ap (λ n. 2 * n) c.len-entries.ensures.count),
)
