-- What is in blocks.
use Rattle.std.proofs.Common.{◌≡◌, ◌⊎◌, inl, inr, List, [], ◌∷◌, ◌++◌, refl, subst}
use Rattle.fw_model.specs.declared.config.Config.{Config}
use Rattle.fw_verdict.specs.declared.sides.Side.{Side}
use Rattle.fw_zone.specs.Lists.{IsIn}
use Rattle.lower_blocks.specs.Blocks.{Told}
use Rattle.lower_blocks.proofs.Lists.{in_either, in_first, in_second}
use Rattle.lower_changes.specs.Blocks.{AreBlocks, IsBlock}
use Rattle.lower_changes.specs.Blocks.AreBlocks.{none, one_more}
use Rattle.nf_rules.specs.declared.chain.Chain.{Chain}

-- a block has a chain, so that no chain is no block
pub no_block : {config : Config} {of : Side} {told : List Told} {chains : List Chain} → AreBlocks config of told chains → chains ≡ [] → told ≡ []
no_block none empty = refl
no_block (one_more told last chains block blocks does) empty =
    absurd (subst (IsIn does.does.stands.entry) empty (in_second does.does.stands.entry chains block does.does.stands.entry_is_in))

-- a block among chains
pub record BlockIn (config : Config) (of : Side) (one : Told) (all : List Chain) : Type 0 where
  pub block : List Chain
  pub is : IsBlock config of one block
  pub among : (chain : Chain) → IsIn chain block → IsIn chain all

pub block_in : {config : Config} {of : Side} {told : List Told} {chains : List Chain} (one : Told) → AreBlocks config of told chains → IsIn one told → BlockIn config of one chains
block_in one none there = absurd there
block_in {config} {of} one (one_more told last chains block blocks does) there = either (in_either one told (last ∷ []) there) (block_in one blocks)
  where
    either : IsIn one told ⊎ IsIn one (last ∷ []) → (IsIn one told → BlockIn config of one chains) → BlockIn config of one (chains ++ block)
    either (inl before) rest =
        let old = rest before in
        record { block = old.block; is = old.is; among = λ chain within. in_first chain chains block (old.among chain within) }
    either (inr (inl same)) rest = record {
      block = block;
      is = subst (λ (it : Told). IsBlock config of it block) same does;
      among = λ chain within. in_second chain chains block within;
    }
    either (inr (inr never)) rest = absurd never

-- the block that a chain is of
pub record OfBlock (config : Config) (of : Side) (told : List Told) (chain : Chain) (all : List Chain) : Type 0 where
  pub one : Told
  pub listed : IsIn one told
  pub block : List Chain
  pub is : IsBlock config of one block
  pub chain_in : IsIn chain block
  pub among : (other : Chain) → IsIn other block → IsIn other all

pub of_block : {config : Config} {of : Side} {told : List Told} {chains : List Chain} (chain : Chain) → AreBlocks config of told chains → IsIn chain chains → OfBlock config of told chain chains
of_block chain none there = absurd there
of_block {config} {of} chain (one_more told last chains block blocks does) there = either (in_either chain chains block there) (of_block chain blocks)
  where
    either : IsIn chain chains ⊎ IsIn chain block → (IsIn chain chains → OfBlock config of told chain chains) → OfBlock config of (told ++ last ∷ []) chain (chains ++ block)
    either (inl before) rest =
        let old = rest before in
        record {
          one = old.one;
          listed = in_first old.one told (last ∷ []) old.listed;
          block = old.block;
          is = old.is;
          chain_in = old.chain_in;
          among = λ other within. in_first other chains block (old.among other within);
        }
    either (inr within) rest = record {
      one = last;
      listed = in_second last told (last ∷ []) (inl refl);
      block = block;
      is = does;
      chain_in = within;
      among = λ other there. in_second other chains block there;
    }
