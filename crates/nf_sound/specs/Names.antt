-- Chains, sets and maps stand in order of their names, and rules mean them by name (nft(8), "CHAINS", "SETS" and "MAPS").
use Rattle.std.specs.Prelude.{◌≡◌, ℕ, List, Option, Some, slice_get}
use Rattle.std.specs.Cmp.Lexicographic.{slice_cmp}
use Rattle.std.specs.List.{AllPairs, find}
use Rattle.std.specs.Ordering.{nat_cmp}
use Rattle.std.specs.Str.{bytes_eq}
use Rattle.std.specs.declared.cmp.Ordering.TheVariants.{Less}
use Rattle.nf_rules.specs.declared.chain.Chain.{Chain}
use Rattle.nf_rules.specs.declared.map.NfMap.{NfMap}
use Rattle.nf_rules.specs.declared.ruleset.Ruleset.{Ruleset}
use Rattle.nf_rules.specs.declared.set.NfSet.{NfSet}

-- a name is before another, by their bytes
abbrev pub IsBefore : List ℕ → List ℕ → Type 0
IsBefore one other = slice_cmp nat_cmp one other ≡ Less

-- Each is before all those behind it. So a name is there once.
abbrev pub IsByName : {T : Type 0} → (T → List ℕ) → List T → Type 0
IsByName name_of items = AllPairs (λ one other. IsBefore (name_of one) (name_of other)) items

-- the first of a name
abbrev pub called : {T : Type 0} → (T → List ℕ) → List ℕ → List T → Option T
called name_of name items = find (λ item. bytes_eq (name_of item) name) items

abbrev pub chain_of : List Chain → List ℕ → Option Chain
chain_of chains name = called (λ chain. chain.name) name chains

abbrev pub set_of : List NfSet → List ℕ → Option NfSet
set_of sets name = called (λ set. set.name) name sets

abbrev pub map_of : List NfMap → List ℕ → Option NfMap
map_of maps name = called (λ map. map.name) name maps

-- Chains, sets and maps are each in order of names.
pub record AreByName (rules : Ruleset) : Type 0 where
  pub chains : IsByName (λ chain. chain.name) rules.chains
  pub sets : IsByName (λ set. set.name) rules.sets
  pub maps : IsByName (λ map. map.name) rules.maps

-- the one of a name stands at a place
pub record StandsAt {T : Type 0} (name_of : T → List ℕ) (name : List ℕ) (items : List T) (place : ℕ) : Type 0 where
  pub item : T
  pub at : slice_get items place ≡ Some item
  pub found : called name_of name items ≡ Some item
