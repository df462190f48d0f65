use Rattle.lower_panic.proofs.Dropped.{panic_compiles}
use Rattle.lower_panic.proofs.laws.panic_rules_compile.Goals as goal

pub returns : goal.returns
returns c = panic_compiles
