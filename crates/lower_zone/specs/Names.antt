-- The names of chains, in firewalld's manner. What stands before a block's name begins with a small letter, and a block's name with a
-- capital, so that no two chains share a name, whatever zones and policies are called.
use Rattle.std.specs.Prelude.{◌≡◌, ◌≢◌, ◌⊎◌, ◌<◌, ◌^◌, ℕ, List, [], ◌∷◌, ◌++◌, codes, decimal, if◌then◌else◌}
use Rattle.std.specs.Char.{is_ascii_uppercase}
use Rattle.std.specs.List.{AllPairs}
use Rattle.fw_zone.specs.Lists.{IsIn}
use Rattle.nf_rules.specs.declared.chain.Chain.{Chain}
use Rattle.fw_verdict.specs.declared.rich.Part.{Part}
use Rattle.fw_verdict.specs.declared.rich.Part.TheVariants as part

-- the block of a zone's settings for packets to the host
abbrev pub zone_block : List ℕ → List ℕ
zone_block name = codes "IN_" ++ name

-- the block of a policy's settings
abbrev pub policy_block : List ℕ → List ℕ
policy_block name = codes "POLICY_" ++ name

-- the chain of a block
abbrev pub block_name : List ℕ → List ℕ
block_name block = codes "filter_" ++ block

-- the chains of its parts
abbrev pub part_word : Part → List ℕ
part_word part.Pre = codes "filter_pre_"
part_word part.Log = codes "filter_log_"
part_word part.Deny = codes "filter_deny_"
part_word part.Allow = codes "filter_allow_"
part_word part.Post = codes "filter_post_"

abbrev pub part_name : Part → List ℕ → List ℕ
part_name part block = part_word part ++ block

-- a chain for one condition, by its number in the block
abbrev pub own_name : ℕ → List ℕ → List ℕ
own_name number block = codes "filter_own" ++ decimal number ++ codes "_" ++ block

-- the parts in their order
abbrev pub place : Part → ℕ
place part.Pre = 0
place part.Log = 1
place part.Deny = 2
place part.Allow = 3
place part.Post = 4

-- a name that a chain of a block may have
pub data IsNameOf (block name : List ℕ) : Type 0 where
  whole : name ≡ block_name block → IsNameOf block name
  of_part : (part : Part) → name ≡ part_name part block → IsNameOf block name
  own : (number : ℕ) → number < 2 ^ 64 → name ≡ own_name number block → IsNameOf block name

-- The block that a name tells: what stands from its first capital on. A block of a zone or a policy begins with one.
abbrev pub block_of : List ℕ → List ℕ
block_of [] = []
block_of (byte ∷ bytes) = if is_ascii_uppercase byte then byte ∷ bytes else block_of bytes

-- Chains have names of a block, from which it can be told, and no two of them have the same.
pub record NamesDiffer (block : List ℕ) (chains : List Chain) : Type 0 where
  pub each : (chain : Chain) → IsIn chain chains → IsNameOf block chain.name
  pub told : (chain : Chain) → IsIn chain chains → block_of chain.name ≡ block_of block
  pub differ : AllPairs (λ one other. one.name ≢ other.name) chains
