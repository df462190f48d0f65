use Rattle.std.proofs.Common.{rules, ap, ◌∙◌, ◌%◌}
use Rattle.turn_core.proofs.Moves.{split_moves}
use Rattle.turn_core.proofs.turn.Turn.split.Goals as goal

pub split_seat-seat-requires : goal.split_seat-seat-requires
split_seat-seat-requires g c = let J = g.S.Journaled in
    (search rules, search rules, split_moves J.base J.entries J.session _ _ _ c.pass.invariant.sound.part (ap (λ x. x.knows.holds) c.pass.view_is ∙ c.requires.free) (ap (λ x. x.knows.parts % 2) c.pass.view_is ∙ c.requires.parts))
