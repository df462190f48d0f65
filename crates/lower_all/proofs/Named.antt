-- Chains and sets by their names: each is found by its own, and they stand in order.
use Rattle.std.proofs.Common.{◌≡◌, ◌≢◌, List, [], ◌∷◌, map, codes, Some, is_some, AllPairs, refl, sym, ap, subst}
use Rattle.fw_model.specs.declared.config.Config.{Config}
use Rattle.fw_model.specs.declared.ipset.IpSet.{IpSet}
use Rattle.fw_valid.specs.Each.{IsWithoutRepeats}
use Rattle.fw_valid.specs.Names.{AreNamed}
use Rattle.fw_zone.specs.Lists.{IsIn}
use Rattle.lower_all.specs.Joined.{AreJoined, AreSetsOf, set_of}
use Rattle.lower_match.specs.Lowers.{set_name}
use Rattle.lower_match.specs.Stands.{EachHasSet}
use Rattle.nf_rules.specs.declared.chain.Chain.{Chain}
use Rattle.nf_rules.specs.declared.ruleset.Ruleset.{Ruleset}
use Rattle.nf_rules.specs.declared.set.NfSet.{NfSet}
use Rattle.nf_sound.specs.Names.{IsByName, called}
use Rattle.std.proofs.lemmas.List.{append_cancel_left}
use Rattle.lower_all.proofs.Distinct.{apart_from_names, distinct_told}
use Rattle.lower_all.proofs.Found.{apart_again, by_name, found, is_in_again}
use Rattle.lower_all.proofs.Apart.{names_apart}
use Rattle.lower_all.proofs.Laws.{NameLaws}
use Rattle.lower_blocks.proofs.Lists.{in_map}

map_twice : {A B C : Type 0} (f : B → C) (g : A → B) (items : List A) → map f (map g items) ≡ map (λ item. f (g item)) items
map_twice f g [] = refl
map_twice f g (item ∷ items) = ap (λ rest. f (g item) ∷ rest) (map_twice f g items)

-- chains

pub chains_by_name : NameLaws → (config : Config) (chains : List Chain) → AreJoined config chains → AreNamed config → IsByName (λ (chain : Chain). chain.name) chains
chains_by_name laws config chains joined named = by_name (λ (chain : Chain). chain.name) chains joined.sorted (names_apart laws config named chains joined)

-- sets

pub sets_apart : (config : Config) (sets : List NfSet) → AreSetsOf config sets → AreNamed config → AllPairs (λ one other. one.name ≢ other.name) sets
sets_apart config sets are named =
    apart_again (λ (set : NfSet). set.name) (map set_of config.ipsets) sets are.all
    (apart_from_names (λ (set : NfSet). set.name) (map set_of config.ipsets)
    (subst IsWithoutRepeats (sym (map_twice (λ (set : NfSet). set.name) set_of config.ipsets))
    (distinct_told (λ (ipset : IpSet). ipset.name) (λ (ipset : IpSet). (set_of ipset).name)
    (λ one other same. append_cancel_left (codes "ipset_") one.name other.name same) config.ipsets named.ipsets.unique)))

pub sets_by_name : (config : Config) (sets : List NfSet) → AreSetsOf config sets → AreNamed config → IsByName (λ (set : NfSet). set.name) sets
sets_by_name config sets are named = by_name (λ (set : NfSet). set.name) sets are.sorted (sets_apart config sets are named)

-- each ipset's set is found by its name
pub set_found : (config : Config) (sets : List NfSet) → AreSetsOf config sets → AreNamed config
    → (ipset : IpSet) → IsIn ipset config.ipsets → called (λ (set : NfSet). set.name) (set_name ipset.name) sets ≡ Some (set_of ipset)
set_found config sets are named ipset there =
    found (λ (set : NfSet). set.name) sets (sets_apart config sets are named) (set_of ipset)
    (is_in_again (map set_of config.ipsets) sets are.all (set_of ipset) (in_map set_of ipset config.ipsets there))

pub each_has_set : (config : Config) (table : Ruleset) → AreSetsOf config table.sets → AreNamed config → EachHasSet config.ipsets table
each_has_set config table are named ipset there = ap is_some (set_found config table.sets are named ipset there)
