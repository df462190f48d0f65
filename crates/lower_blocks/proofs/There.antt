-- What is in blocks, and that no two of their chains have the same name.
use Rattle.std.proofs.Common.{◌≡◌, ◌≢◌, ◌∙◌, ◌⊎◌, inl, inr, ℕ, List, [], ◌∷◌, ◌++◌, map, get_or, Bool, codes, AllPairs, refl, sym, ap, subst, subst₂, arith}
use Rattle.std.specs.List.{filter}
use Rattle.std.proofs.lemmas.List.{append_cancel_left}
use Rattle.std.proofs.lemmas.List.Kept.{AllPairs-filter}
use Rattle.fw_model.specs.declared.config.Config.{Config}
use Rattle.fw_model.specs.declared.policy.Policy.{Policy}
use Rattle.fw_model.specs.declared.zone.Zone.{Zone}
use Rattle.fw_valid.specs.Each.{IsWithoutRepeats}
use Rattle.fw_valid.specs.Names.{AreNamed}
use Rattle.fw_zone.specs.Lists.{IsIn}
use Rattle.lower_blocks.specs.Blocks.{AreBlock, AreBlocks, Told, block_of}
use Rattle.lower_blocks.specs.Blocks.AreBlocks.{none, one_more}
use Rattle.lower_blocks.specs.Blocks.Told.{of_policy, of_zone}
use Rattle.lower_blocks.specs.Needed.{all_told, is_needed, is_told}
use Rattle.lower_blocks.proofs.Lists.{from_map, in_either, in_first, in_map, in_second, pairs_across, pairs_front, pairs_joined, pairs_map, pairs_more, pairs_none}
use Rattle.lower_zone.specs.Laws.{AreBlocksApart, IsBlock}
use Rattle.lower_zone.specs.Laws.IsBlock.{of_policy as policy_is, of_zone as zone_is}
use Rattle.nf_rules.specs.declared.chain.Chain.{Chain}

-- a block among chains
pub record BlockIn (config : Config) (one : Told) (all : List Chain) : Type 0 where
  pub block : List Chain
  pub is : AreBlock config one block
  pub among : (chain : Chain) → IsIn chain block → IsIn chain all

-- the block that a chain is of
pub record OfBlock (config : Config) (told : List Told) (chain : Chain) (all : List Chain) : Type 0 where
  pub one : Told
  pub listed : IsIn one told
  pub block : List Chain
  pub is : AreBlock config one block
  pub chain_in : IsIn chain block
  pub among : (other : Chain) → IsIn other block → IsIn other all

block_in : {config : Config} {told : List Told} {chains : List Chain} (one : Told) → AreBlocks config told chains → IsIn one told → BlockIn config one chains
block_in one none there = absurd there
block_in {config} one (one_more told last chains block blocks does) there = either (in_either one told (last ∷ []) there) (block_in one blocks)
  where
    either : IsIn one told ⊎ IsIn one (last ∷ []) → (IsIn one told → BlockIn config one chains) → BlockIn config one (chains ++ block)
    either (inl before) rest =
        let old = rest before in
        record { block = old.block; is = old.is; among = λ chain within. in_first chain chains block (old.among chain within) }
    either (inr (inl same)) rest = record {
      block = block;
      is = subst (λ (it : Told). AreBlock config it block) same does;
      among = λ chain within. in_second chain chains block within;
    }
    either (inr (inr never)) rest = absurd never

pub block_is_in : (config : Config) (told : List Told) (chains : List Chain) (one : Told) → AreBlocks config told chains → IsIn one told → BlockIn config one chains
block_is_in config told chains one blocks there = block_in one blocks there

of_block : {config : Config} {told : List Told} {chains : List Chain} (chain : Chain) → AreBlocks config told chains → IsIn chain chains → OfBlock config told chain chains
of_block chain none there = absurd there
of_block {config} chain (one_more told last chains block blocks does) there = either (in_either chain chains block there) (of_block chain blocks)
  where
    either : IsIn chain chains ⊎ IsIn chain block → (IsIn chain chains → OfBlock config told chain chains) → OfBlock config (told ++ last ∷ []) chain (chains ++ block)
    either (inl before) rest =
        let old = rest before in
        record {
          one = old.one;
          listed = in_first old.one told (last ∷ []) old.listed;
          block = old.block;
          is = old.is;
          chain_in = old.chain_in;
          among = λ other within. in_first other chains block (old.among other within);
        }
    either (inr within) rest = record {
      one = last;
      listed = in_second last told (last ∷ []) (inl refl);
      block = block;
      is = does;
      chain_in = within;
      among = λ other there. in_second other chains block there;
    }

pub of_some_block : (config : Config) (told : List Told) (chains : List Chain) → AreBlocks config told chains → (chain : Chain) → IsIn chain chains → OfBlock config told chain chains
of_some_block config told chains blocks chain there = of_block chain blocks there

-- no two have the same block name
abbrev pub AreApart : List Told → Type 0
AreApart told = AllPairs (λ one other. block_of one ≢ block_of other) told

is_block : (told : Told) → IsBlock (block_of told)
is_block (of_zone zone) = zone_is zone.name refl
is_block (of_policy policy) = policy_is policy.name refl

abbrev Differ : Told → Told → Type 0
Differ one other = block_of one ≢ block_of other

apart : {config : Config} {told : List Told} {chains : List Chain} → AreBlocksApart → AreBlocks config told chains → AreApart told → AllPairs (λ one other. one.name ≢ other.name) chains
apart law none differ = pairs_none (λ (one other : Chain). one.name ≢ other.name)
apart {config} law (one_more told last chains block blocks does) differ =
    pairs_joined (λ (one other : Chain). one.name ≢ other.name) chains block
    (apart law blocks (pairs_front Differ told (last ∷ []) differ)) does.names.differ
    (λ one other there within.
    let old = of_block one blocks there in
    law (block_of old.one) (block_of last) old.block block (is_block old.one) (is_block last)
    (pairs_across Differ told (last ∷ []) differ old.one last old.listed (inl refl)) old.is.names does.names one other old.chain_in within)

pub names_apart : (config : Config) (told : List Told) (chains : List Chain) → AreBlocksApart → AreBlocks config told chains
    → AllPairs (λ one other. block_of one ≢ block_of other) told
    → AllPairs (λ one other. one.name ≢ other.name) chains
names_apart config told chains law blocks differ = apart law blocks differ

-- what settings are told of: zones of which no two have the same name, and such policies

differ_by : {A : Type 0} (name_of : A → List ℕ) (items : List A) → IsWithoutRepeats (map name_of items) → AllPairs (λ one other. name_of one ≢ name_of other) items
differ_by name_of [] alone = pairs_none (λ one other. name_of one ≢ name_of other)
differ_by name_of (item ∷ items) alone =
    pairs_more (λ one other. name_of one ≢ name_of other) item items
    (λ other there same. alone.0 (subst (λ (name : List ℕ). IsIn name (map name_of items)) (sym same) (in_map name_of other items there)))
    (differ_by name_of items alone.1)

-- the blocks of what is kept of them
blocks_differ : {A : Type 0} (name_of : A → List ℕ) (of : A → Told) (front : List ℕ) (passes : A → Bool) (items : List A)
    → ((item : A) → block_of (of item) ≡ front ++ name_of item)
    → IsWithoutRepeats (map name_of items)
    → AllPairs Differ (map of (filter passes items))
blocks_differ name_of of front passes items named alone =
    pairs_map Differ of (filter passes items)
    (AllPairs-filter (λ one other. Differ (of one) (of other)) passes items
    (λ one other default before within same.
    differ_by name_of items alone one other default before within
    (append_cancel_left front (name_of (get_or items one default)) (name_of (get_or items other default))
    (sym (named (get_or items one default)) ∙ same ∙ named (get_or items other default)))))

zone_or_policy : (zone : Zone) (policy : Policy) → Differ (of_zone zone) (of_policy policy)
zone_or_policy zone policy same = let letter : 73 ≡ 80 = ap (λ (name : List ℕ). get_or name 0 0) same in absurd (omega (arith, letter))

pub told_apart : (config : Config) (zones : List Zone) → AreNamed config → AllPairs (λ one other. block_of one ≢ block_of other) (all_told config zones)
told_apart config zones named =
    pairs_joined Differ (map of_zone (filter (is_told config) config.zones)) (map of_policy (filter (is_needed zones) config.policies))
    (blocks_differ (λ (zone : Zone). zone.name) of_zone (codes "IN_") (is_told config) config.zones (λ zone. refl) named.zones.unique)
    (blocks_differ (λ (policy : Policy). policy.name) of_policy (codes "POLICY_") (is_needed zones) config.policies (λ policy. refl) named.policies.unique)
    (λ one other there within.
    let zone = from_map of_zone one (filter (is_told config) config.zones) there in
    let policy = from_map of_policy other (filter (is_needed zones) config.policies) within in
    subst₂ Differ zone.2 policy.2 (zone_or_policy zone.0 policy.0))
