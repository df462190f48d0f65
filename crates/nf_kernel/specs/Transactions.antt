-- What the commands of a transaction make of a ruleset (nft(8), "RULESET" and the commands of chains, sets and maps).
use Rattle.std.specs.Prelude.{◌≡◌, List, [], ◌∷◌, Option, Some}
use Rattle.std.specs.Option.{option_map}
use Rattle.fw_text.specs.Steps.{◌>>=◌}
use Rattle.nf_kernel.specs.Parts.{delete, put}
use Rattle.nf_rules.specs.declared.chain.Chain.{Chain}
use Rattle.nf_rules.specs.declared.command.Command.{Command}
use Rattle.nf_rules.specs.declared.command.Command.TheVariants as command
use Rattle.nf_rules.specs.declared.map.NfMap.{NfMap}
use Rattle.nf_rules.specs.declared.ruleset.Ruleset.{Ruleset}
use Rattle.nf_rules.specs.declared.set.NfSet.{NfSet}
use Rattle.nf_sound.specs.Sound.{SoundRules}

-- no chain, set or map
abbrev pub empty : Ruleset
empty = record { chains = []; sets = []; maps = [] }

abbrev pub with_chains : Ruleset → List Chain → Ruleset
with_chains rules parts = record { chains = parts; sets = rules.sets; maps = rules.maps }

abbrev pub with_sets : Ruleset → List NfSet → Ruleset
with_sets rules parts = record { chains = rules.chains; sets = parts; maps = rules.maps }

abbrev pub with_maps : Ruleset → List NfMap → Ruleset
with_maps rules parts = record { chains = rules.chains; sets = rules.sets; maps = parts }

-- one command; None where it deletes what isn't there
abbrev pub done : Command → Ruleset → Option Ruleset
done command.Clear rules = Some empty
done (command.PutChain chain) rules = Some (with_chains rules (put (λ part. part.name) chain rules.chains))
done (command.DeleteChain name) rules = option_map (with_chains rules) (delete (λ part. part.name) name rules.chains)
done (command.PutSet set) rules = Some (with_sets rules (put (λ part. part.name) set rules.sets))
done (command.DeleteSet name) rules = option_map (with_sets rules) (delete (λ part. part.name) name rules.sets)
done (command.PutMap map) rules = Some (with_maps rules (put (λ part. part.name) map rules.maps))
done (command.DeleteMap name) rules = option_map (with_maps rules) (delete (λ part. part.name) name rules.maps)

-- commands, one after another
abbrev pub apply : List Command → Ruleset → Option Ruleset
apply [] rules = Some rules
apply (first ∷ others) rules = done first rules >>= apply others

-- they can all be done, and what they make is sound
pub record Fits (commands : List Command) (rules : Ruleset) : Type 0 where
  pub after : Ruleset
  pub is : apply commands rules ≡ Some after
  pub sound : SoundRules after
