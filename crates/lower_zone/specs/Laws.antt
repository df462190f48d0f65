-- A law of names: chains of different zones and policies never share one.
use Rattle.std.specs.Prelude.{◌≡◌, ◌≢◌, ℕ, List}
use Rattle.fw_zone.specs.Lists.{IsIn}
use Rattle.lower_zone.specs.Names.{NamesDiffer, policy_block, zone_block}
use Rattle.nf_rules.specs.declared.chain.Chain.{Chain}

-- the block of a zone or of a policy
pub data IsBlock (block : List ℕ) : Type 0 where
  of_zone : (name : List ℕ) → block ≡ zone_block name → IsBlock block
  of_policy : (name : List ℕ) → block ≡ policy_block name → IsBlock block

-- Chains of two blocks that aren't the same never share a name.
abbrev pub AreBlocksApart : Type 0
AreBlocksApart =
    (one other : List ℕ) (chains others : List Chain)
    → IsBlock one
    → IsBlock other
    → one ≢ other
    → NamesDiffer one chains
    → NamesDiffer other others
    → (chain another : Chain)
    → IsIn chain chains
    → IsIn another others
    → chain.name ≢ another.name
