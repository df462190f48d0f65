-- Laws of evaluation: it has one outcome, and looks at one number of rules.
use Rattle.std.specs.Prelude.{◌≡◌, ℕ}
use Rattle.fw_model.specs.declared.outcome.Outcome.{Outcome}
use Rattle.fw_model.specs.declared.packet.Packet.{Packet}
use Rattle.nf_chains.specs.Hooks.{Eval, Visits}
use Rattle.nf_rules.specs.declared.ruleset.Ruleset.{Ruleset}

-- A ruleset gives a packet one outcome.
abbrev pub HasOneOutcome : Type 0
HasOneOutcome = (rules : Ruleset) (packet : Packet) (one other : Outcome) → Eval rules packet one → Eval rules packet other → one ≡ other

-- and looks at so many of its rules, and no other number
abbrev pub HasOneCount : Type 0
HasOneCount = (rules : Ruleset) (packet : Packet) (one other : ℕ) → Visits rules packet one → Visits rules packet other → one ≡ other
