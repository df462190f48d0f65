-- A pass that commits keeps what it had.
use Rattle.std.proofs.Common.{◌≡◌, List, length, ap, ◌∙◌, inl}
use Rattle.turn_core.specs.Knowledge.{committed}
use Rattle.turn_core.specs.Passes.{Gains}
use Rattle.turn_rows.specs.declared.journal.Entry.{Entry}
use Rattle.turn_rows.specs.Work.{Known, Keeps}

pub commits_keep : (old mid new : Known) (entries : List Entry) → Keeps old mid → new.turn ≡ mid.turn → new.knows ≡ committed mid.knows entries → Gains mid.knows.mine (length mid.knows.seen) new.knows.mine → Keeps old new
commits_keep old mid new entries k turn knows gains = record {
  turn = turn ∙ k.turn;
  base = ap (λ x. x.base) knows ∙ k.base;
  parts = ap (λ x. x.parts) knows ∙ k.parts;
  mine = λ place has. (gains place).1 (inl (k.mine place has));
}

pub keep_again : (old mid new : Known) → Keeps old mid → Keeps mid new → Keeps old new
keep_again old mid new k l = record { turn = l.turn ∙ k.turn; base = l.base ∙ k.base; parts = l.parts ∙ k.parts; mine = λ place has. l.mine place (k.mine place has) }
