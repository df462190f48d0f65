use Rattle.std.proofs.Common.{rules, arith, ap, sym, ◌∙◌, subst, subst₂, ◌<◌}
use Rattle.turn_core.specs.Places.{IsFront, Ascending}
use Rattle.turn_core.specs.Knowledge.{looked}
use Rattle.turn_core.specs.Passes.{HasJoined}
use Rattle.turn_core.proofs.Moves.{load_moves, join_moves}
use Rattle.turn_core.proofs.Passing.{joins_tell}
use Rattle.turn_core.proofs.turn.Turn.join.Goals as goal

pub join_seat-requires : goal.join_seat-requires
join_seat-requires g c = let J = g.S.Journaled in let free' = ap (λ k. k.holds) c.into_seat.ensures.knows ∙ c.requires.free.1 in (
  search rules,
  search rules,
  c.into_seat.ensures.seated.free free',
  search rules,
  join_moves J.base J.entries J.session _ _ _ _ _ c.pass.invariant.sound.part (ap (λ x. x.knows.holds) c.pass.view_is ∙ c.requires.free.0) free' c.pass.invariant.full,
)

pub load-requires : goal.load-requires
load-requires g c = let J = g.S.Journaled in let me = c.join_seat.ensures.2 in let part = c.pass.invariant.sound.part in
    (search rules, search rules, load_moves J.base J.entries J.session _ _ _ _ (subst (λ m. 0 < m.0.knows.parts) (sym me) (omega (arith, part))))

pub returns-clause-pass : goal.returns-clause-pass
returns-clause-pass g c = let told = c.load.ensures.2 in let me = c.join_seat.ensures.2 in let k = c.pass.inside.seat.me.0.knows in let other = c.into_seat.result.me.0.knows in
    let now = ap (λ m. m.0) told.0 ∙ ap (λ m. record m.0 { knows = looked m.0.knows c.load.result }) me in
    let joins = joins_tell k other c.load.result (subst (λ v. IsFront v.shorter v.knows.seen) now told.1.1) (subst (λ v. Ascending v.knows.mine) now told.1.0.ascending) in
    subst₂ (λ a b. HasJoined a b c.load.new.seat.me.0.knows) (ap (λ x. x.knows) c.pass.view_is) c.into_seat.ensures.knows (subst (λ n. HasJoined k other n) (sym (ap (λ v. v.knows) now)) joins)
