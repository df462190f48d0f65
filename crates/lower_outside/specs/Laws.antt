-- A law of names: chains of different blocks never share one.
use Rattle.std.specs.Prelude.{◌≡◌, ◌≢◌, ℕ, List}
use Rattle.fw_verdict.specs.declared.sides.Side.{Side}
use Rattle.fw_zone.specs.Lists.{IsIn}
use Rattle.lower_outside.specs.Names.{NamesDiffer, policy_block, zone_block}
use Rattle.nf_rules.specs.declared.chain.Chain.{Chain}

-- the block of a zone or of a policy, on a side
pub data IsBlock (of : Side) (block : List ℕ) : Type 0 where
  of_zone : (name : List ℕ) → block ≡ zone_block of name → IsBlock of block
  of_policy : (name : List ℕ) → block ≡ policy_block of name → IsBlock of block

-- Chains of two blocks that aren't the same never share a name.
abbrev pub AreBlocksApart : Type 0
AreBlocksApart =
    (of on : Side) (one other : List ℕ) (chains others : List Chain)
    → IsBlock of one
    → IsBlock on other
    → one ≢ other
    → NamesDiffer of one chains
    → NamesDiffer on other others
    → (chain another : Chain)
    → IsIn chain chains
    → IsIn another others
    → chain.name ≢ another.name
