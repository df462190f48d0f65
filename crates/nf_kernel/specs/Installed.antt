-- What is seen of a kernel that holds one ruleset, and what staging and committing a transaction change.
use Rattle.std.specs.Prelude.{◌≡◌, ◌↔◌, ℕ, ◌+◌, List, length, Option, None, Some, Result, IsErr, IfSome, OnOk, OnErr}
use Rattle.std.specs.List.{Contains}
use Rattle.fw_base.specs.Causes.{HasCause}
use Rattle.nf_kernel.specs.Transactions.{apply}
use Rattle.nf_kernel.specs.declared.kernel.Ready.{Ready}
use Rattle.nf_rules.specs.declared.command.Command.{Command}
use Rattle.nf_rules.specs.declared.ruleset.Ruleset.{Ruleset}

pub record Kernel : Type 0 where
  -- the ruleset that is installed
  pub installed : Ruleset
  -- what the next commit installs
  pub staged : Option Ready
  -- the faults so far, of which there are counted 2^64 - 1
  pub faults : ℕ
  -- the commits so far
  pub asked : ℕ
  -- the commands in these
  pub sent : ℕ
  -- the numbers, from 1, of the commits that fail, where they are told
  pub failing : Option (List ℕ)

abbrev pub with_staged : Option Ready → Kernel → Kernel
with_staged staged kernel = record {
  installed = kernel.installed;
  staged = staged;
  faults = kernel.faults;
  asked = kernel.asked;
  sent = kernel.sent;
  failing = kernel.failing;
}

-- These commands are staged, and what they make is ready; nothing else has changed.
pub record IsStaged (commands : List Command) (before now : Kernel) : Type 0 where
  pub after : Ruleset
  pub made : apply commands before.installed ≡ Some after
  pub is : now ≡ with_staged (Some (record { after = after; commands = length commands })) before

-- A commit of what was ready: all of it or nothing is done, and nothing is staged any more.
pub record IsCommitted {T E : Type 0} (ready : Ready) (before now : Kernel) (result : Result T E) : Type 0 where
  pub done : OnOk result (now.installed ≡ ready.after)
  pub refused : OnErr result (now.installed ≡ before.installed)
  pub cause : HasCause before.faults now.faults result
  pub staged : now.staged ≡ None
  pub asked : now.asked ≡ before.asked + 1
  pub sent : now.sent ≡ before.sent + ready.commands
  pub failing : now.failing ≡ before.failing
  pub told : IfSome before.failing (λ numbers. IsErr result ↔ Contains numbers now.asked)
