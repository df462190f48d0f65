-- The alternatives so far stand behind the front.
use Rattle.std.proofs.Common.{◌≡◌}
use Rattle.lower_match.specs.RichForms.{behind}
use Rattle.lower_match.proofs.rich.put_behind.Given as goal

abbrev pub invariant-loop-alternative : goal.invariant-loop-alternative
invariant-loop-alternative l = l.made ≡ behind l.front l.yielded
