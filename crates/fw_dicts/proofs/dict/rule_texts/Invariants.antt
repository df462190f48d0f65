-- What was made of the rules so far.
use Rattle.std.proofs.Common.{◌≡◌, map, take}
use Rattle.fw_rich.specs.Canonical.{canon}
use Rattle.fw_dicts.proofs.dict.rule_texts.Given as goal

abbrev pub invariant-loop-rule : goal.invariant-loop-rule
invariant-loop-rule l = l.texts ≡ map canon (take l.rule-index l.rules)
