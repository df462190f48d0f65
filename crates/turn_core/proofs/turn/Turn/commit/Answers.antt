use Rattle.std.proofs.Common.{rules, ap, sym, ◌∙◌, subst, Some, ◌∷◌, [], ◌*◌, ◌++◌, length}
use Rattle.atomic_table.specs.Table.{rest}
use Rattle.turn_core.specs.Passes.{Adds, Gains}
use Rattle.turn_core.proofs.Moves.{commit_moves}
use Rattle.turn_core.proofs.Passing.{gains}
use Rattle.turn_core.proofs.turn.Turn.commit.Goals as goal

pub store-requires : goal.store-requires
store-requires g c = let J = g.S.Journaled in let me = c.pass.inside.seat.me in let holds = ap (λ x. x.knows.holds) c.pass.view_is ∙ c.requires.holds in
    let adds = subst (λ k. Adds J.session k (J.entries c.args.state)) (sym (ap (λ x. x.knows) c.pass.view_is)) c.requires.entry in (
      search rules,
      search rules,
      commit_moves J.base J.entries J.session _ _ _ _ me.0 c.args.state adds.0 (2 * c.len-entries.result)
          (c.exchange.ensures.3 ∙ ap (λ l. (me.0, (0, Some c.args.state) ∷ rest l)) (c.pass.invariant.holding holds)) c.pass.invariant.sound.part holds c.pass.invariant.full
          (ap (λ x. x.knows.base) c.pass.view_is ∙ c.requires.base) adds.1 adds.2 (ap (λ n. 2 * n) c.len-entries.ensures.count),
    )

pub returns-clause-place : goal.returns-clause-place
returns-clause-place g c = let J = g.S.Journaled in let me = c.pass.inside.seat.me in let holds = ap (λ x. x.knows.holds) c.pass.view_is ∙ c.requires.holds in
    let carried = c.exchange.ensures.3 ∙ ap (λ l. (me.0, (0, Some c.args.state) ∷ rest l)) (c.pass.invariant.holding holds) in
    let told = c.store.ensures.2 c.args.state (ap (λ m. m.1) carried) in
    let now = ap (λ m. m.0.knows.mine) told.0 ∙ (ap (λ m. m.0.knows.mine ++ length m.0.knows.seen ∷ []) carried ∙ ap (λ x. x.knows.mine ++ length x.knows.seen ∷ []) c.pass.view_is) in
    subst (λ l. Gains c.args.pass.now.knows.mine (length c.args.pass.now.knows.seen) l) (sym now) (gains _ _)
