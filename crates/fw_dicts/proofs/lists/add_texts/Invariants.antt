-- What the texts that are left make of the settings so far is what all of them make of the first ones.
use Rattle.std.proofs.Common.{◌≡◌, drop}
use Rattle.fw_dicts.specs.Lists.{text_setting, with_all}
use Rattle.fw_dicts.proofs.lists.add_texts.Given as goal

abbrev pub invariant-loop-text : goal.invariant-loop-text
invariant-loop-text l =
    with_all (text_setting l.config l.list) l.fn.rules l.texts ≡ with_all (text_setting l.config l.list) l.rules (drop l.text-index l.texts)
