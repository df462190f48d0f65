use Rattle.fw_replay.proofs.Behind.{legal_behind, replay_behind, replies_behind, signals_behind}
use Rattle.fw_replay.proofs.laws.journal_grows.Goals as goal

pub returns-clause-settings : goal.returns-clause-settings
returns-clause-settings c = replay_behind

pub returns-clause-signals : goal.returns-clause-signals
returns-clause-signals c = signals_behind

pub returns-clause-replies : goal.returns-clause-replies
returns-clause-replies c = replies_behind

pub returns-clause-legal : goal.returns-clause-legal
returns-clause-legal c = legal_behind
