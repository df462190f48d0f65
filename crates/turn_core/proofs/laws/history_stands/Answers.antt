use Rattle.turn_core.proofs.Stepping.{opening_stands, step_keeps, step_events}
use Rattle.turn_core.proofs.laws.history_stands.Goals as goal

pub returns : goal.returns
returns g c = let J = g.S.Journaled in record {
  opening = λ base. opening_stands J.base J.entries J.session base;
  steps = λ base m n h s. step_keeps J.base J.entries J.session base m n h s;
  events = λ base m n h s. step_events J.base J.entries J.session base m n h s;
}
