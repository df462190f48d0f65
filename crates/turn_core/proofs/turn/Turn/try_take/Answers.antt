use Rattle.std.proofs.Common.{rules, arith, refl, ap, sym, ◌∙◌, Some, ◌∷◌, ◌+◌}
use Rattle.atomic_table.specs.Table.{rest}
use Rattle.turn_core.proofs.Moves.{load_moves, tries_moves}
use Rattle.turn_core.proofs.turn.Turn.try_take.Goals as goal

pub load-word-requires : goal.load-word-requires
load-word-requires g c = (search rules, search rules, load_moves g.S.Journaled.base g.S.Journaled.entries g.S.Journaled.session _ _ _ _ c.pass.invariant.sound.part)

pub compare_exchange-found-requires : goal.compare_exchange-found-requires
compare_exchange-found-requires g c = let t = c.load-word.ensures.2 in (
  search rules,
  search rules,
  tries_moves g.S.Journaled.base g.S.Journaled.entries g.S.Journaled.session _ _ _ _ c.load-word.result (c.load-word.result + 1) t.1.0.part
      (ap (λ m. m.0.knows.holds) t.0 ∙ (ap (λ x. x.knows.holds) c.pass.view_is ∙ c.requires.free)) (let odd = c.if-word-eq1.false in omega arith) refl,
)

pub exchange-requires : goal.exchange-requires
exchange-requires g c = let won = c.compare_exchange-found.ensures.2.0 c.if-found-word.false in let now = ap (λ m. m.1) won.1 in
    (search rules, (Some won.0, now ∙ ap (λ l. (0, Some won.0) ∷ rest l) (sym now)))
