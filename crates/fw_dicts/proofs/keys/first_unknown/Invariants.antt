-- The least unknown key so far.
use Rattle.std.proofs.Common.{◌≡◌, fold, None, take}
use Rattle.std.specs.Option.{option_copied}
use Rattle.fw_dicts.specs.Keys.{with_key}
use Rattle.fw_dicts.proofs.keys.first_unknown.Given as goal

abbrev pub invariant-loop-field : goal.invariant-loop-field
invariant-loop-field l = option_copied l.least ≡ fold (with_key l.owner l.fields) None (take l.field-index l.fields)
