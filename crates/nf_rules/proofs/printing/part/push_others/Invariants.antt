-- The parts so far stand behind what was there, each behind the separator.
use Rattle.std.proofs.Common.{◌≡◌, ◌++◌, take, string_bytes}
use Rattle.std.specs.List.{flat_map}
use Rattle.nf_rules.proofs.printing.part.push_others.Given as goal

abbrev pub invariant-loop-part : goal.invariant-loop-part
invariant-loop-part g l = string_bytes l.out ≡ string_bytes l.fn.out ++ flat_map (λ part. l.separator ++ g.T.Part.text part) (take l.part-index l.parts)
