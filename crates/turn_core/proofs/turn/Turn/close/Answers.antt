use Rattle.std.proofs.Common.{rules, ap, sym, ◌∙◌, None}
use mathlib.Core.Option.{some-injective}
use Rattle.turn_core.proofs.Moves.{slot_in_moves, closes}
use Rattle.turn_core.proofs.turn.Turn.close.Goals as goal

pub load-requires : goal.load-requires
load-requires g c = let J = g.S.Journaled in let me = c.into_seat-seat.result.me in let holds = ap (λ k. k.holds) c.into_seat-seat.ensures.knows ∙ c.requires.holds in
    (search rules, search rules, slot_in_moves J.base J.entries J.session _ _ _ _ me.0 (ap (λ l. (me.0, l)) (c.into_seat-seat.ensures.seated.holding holds)) c.into_seat-seat.ensures.seated.sound.part holds)

pub let_go-requires : goal.let_go-requires
let_go-requires g c = let J = g.S.Journaled in let final = c.close_with-closed.ensures.values.2 in
    some-injective _ _ (sym c.take.ensures.value ∙ final.4 0 None (closes J.base J.entries J.session _ final.0 _ _ final.1 (ap (λ m. m.0.vacant) c.load.ensures.2)))
