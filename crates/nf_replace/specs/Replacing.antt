-- The transaction that puts one ruleset in the place of whatever another (nft(8), "flush ruleset" and the commands that add).
use Rattle.std.specs.Prelude.{◌≡◌, List, ◌∷◌, ◌++◌, map, Some}
use Rattle.nf_kernel.specs.Transactions.{apply}
use Rattle.nf_rules.specs.declared.command.Command.{Command}
use Rattle.nf_rules.specs.declared.command.Command.TheVariants as command
use Rattle.nf_rules.specs.declared.ruleset.Ruleset.{Ruleset}
use Rattle.nf_sound.specs.Names.{AreByName}

-- all is cleared, and then each set, map and chain is put in its place, once
abbrev pub replacing : Ruleset → List Command
replacing rules = command.Clear ∷ ((map command.PutSet rules.sets ++ map command.PutMap rules.maps) ++ map command.PutChain rules.chains)

-- whatever was there, what it makes is the ruleset
abbrev pub Replaces : List Command → Ruleset → Type 0
Replaces commands rules = AreByName rules → (old : Ruleset) → apply commands old ≡ Some rules
