-- The names of chains outside the filter. What stands before a block's name has small letters alone, and a block's name begins with a
-- capital, as those of the filter do (`lower_zone`), so that no two chains share a name, whatever zones and policies are called.
use Rattle.std.specs.Prelude.{◌≡◌, ◌≢◌, ◌<◌, ◌^◌, ℕ, List, ◌++◌, codes, decimal}
use Rattle.std.specs.List.{AllPairs}
use Rattle.fw_verdict.specs.declared.sides.Side.{Side}
use Rattle.fw_verdict.specs.declared.sides.Side.TheVariants as side
use Rattle.fw_zone.specs.Lists.{IsIn}
use Rattle.lower_zone.specs.Names.{block_of}
use Rattle.nf_rules.specs.declared.chain.Chain.{Chain}

-- the blocks of a zone's settings: what they mark, what they translate, and what they have leave with the host's own address
abbrev pub zone_word : Side → List ℕ
zone_word side.Marked = codes "MARK_ZONE_"
zone_word side.Translated = codes "DNAT_ZONE_"
zone_word side.Leaving = codes "MASQ_ZONE_"

-- and of a policy's
abbrev pub policy_word : Side → List ℕ
policy_word side.Marked = codes "MARK_POLICY_"
policy_word side.Translated = codes "DNAT_POLICY_"
policy_word side.Leaving = codes "MASQ_POLICY_"

abbrev pub zone_block : Side → List ℕ → List ℕ
zone_block of name = zone_word of ++ name

abbrev pub policy_block : Side → List ℕ → List ℕ
policy_block of name = policy_word of ++ name

-- what the names of chains begin with
abbrev pub front : Side → List ℕ
front side.Marked = codes "mangle_"
front side.Translated = codes "nat_"
front side.Leaving = codes "nat_"

-- the chain of a block
abbrev pub block_name : Side → List ℕ → List ℕ
block_name of block = front of ++ block

-- a chain for one step, by its number in the block
abbrev pub own_name : Side → ℕ → List ℕ → List ℕ
own_name of number block = front of ++ codes "own" ++ decimal number ++ codes "_" ++ block

-- a name that a chain of a block may have
pub data IsNameOf (of : Side) (block name : List ℕ) : Type 0 where
  whole : name ≡ block_name of block → IsNameOf of block name
  own : (number : ℕ) → number < 2 ^ 64 → name ≡ own_name of number block → IsNameOf of block name

-- Chains have names of a block, from which it can be told, and no two of them have the same.
pub record NamesDiffer (of : Side) (block : List ℕ) (chains : List Chain) : Type 0 where
  pub each : (chain : Chain) → IsIn chain chains → IsNameOf of block chain.name
  pub told : (chain : Chain) → IsIn chain chains → block_of chain.name ≡ block_of block
  pub differ : AllPairs (λ one other. one.name ≢ other.name) chains
