-- No two chains share a name.
use Rattle.std.proofs.Common.{◌≡◌, ◌≢◌, ◌∙◌, ◌⊎◌, inl, inr, ℕ, Bool, true, false, List, [], ◌∷◌, ◌++◌, map, get_or, AllPairs, ⊎_elim, refl, sym, ap, subst, subst₂, arith}
use Rattle.std.specs.Prelude.{if◌then◌else◌}
use Rattle.std.specs.List.{flat_map}
use Rattle.std.proofs.lemmas.List.{append_cancel_left}
use Rattle.fw_model.specs.declared.config.Config.{Config}
use Rattle.fw_model.specs.declared.policy.Policy.{Policy}
use Rattle.fw_model.specs.declared.zone.Zone.{Zone}
use Rattle.fw_valid.specs.Each.{IsWithoutRepeats}
use Rattle.fw_verdict.specs.declared.sides.Side.{Side}
use Rattle.fw_verdict.specs.declared.sides.Side.TheVariants as side
use Rattle.fw_zone.specs.Lists.{IsIn}
use Rattle.lower_blocks.specs.Blocks.{Told}
use Rattle.lower_blocks.specs.Blocks.Told.{of_policy, of_zone}
use Rattle.lower_blocks.proofs.Lists.{from_map, in_either, in_map, pairs_across, pairs_front, pairs_joined, pairs_map, pairs_more, pairs_none}
use Rattle.lower_changes.specs.Apart.{ChainsApart, SidesApart, StandOutside}
use Rattle.lower_changes.specs.Blocks.{AreBlocks, block_of}
use Rattle.lower_changes.specs.Blocks.AreBlocks.{none, one_more}
use Rattle.lower_changes.specs.Chains.{IsHook, base_chain, zone_chain}
use Rattle.lower_changes.specs.Names.{base_name, start}
use Rattle.lower_changes.specs.Needed.{is_needed, needed, told_policy, told_zone}
use Rattle.lower_changes.specs.Rules.{early}
use Rattle.lower_changes.specs.Sides.{IsSide}
use Rattle.lower_changes.specs.Sides.IsSide.{full, idle}
use Rattle.lower_changes.proofs.There.{of_block}
use Rattle.lower_outside.specs.Laws.{IsBlock}
use Rattle.lower_outside.specs.Laws.IsBlock.{of_policy as policy_is, of_zone as zone_is}
use Rattle.lower_outside.specs.Names.{IsNameOf}
use Rattle.lower_outside.specs.Names.IsNameOf.{own, whole}
use Rattle.lower_outside.specs.Needed.{has_changes}
use Rattle.lower_outside.proofs.Named.{blocks_apart}
use Rattle.lower_zone.specs.Names.{block_of as told_by}
use Rattle.nf_rules.specs.declared.chain.Chain.{Chain}

-- What the name of a chain of a side is.
data IsNamed (of : Side) (name : List ℕ) : Type 0 where
  of_base : name ≡ base_name of → IsNamed of name
  of_one : (zone : List ℕ) → name ≡ start of ++ zone → IsNamed of name
  of_settings : (told : Told) → IsNameOf of (block_of of told) name → told_by name ≡ told_by (block_of of told) → IsNamed of name

hook_named : (config : Config) (of : Side) (zones : List Zone) (hook : List Chain) → IsHook config of zones hook → (chain : Chain) → IsIn chain hook → IsNamed of chain.name
hook_named config of zones hook is chain there = by (subst (IsIn chain) is.are there)
  where
    by : IsIn chain (base_chain of (early of ++ is.dispatched) ∷ map (zone_chain config of) zones) → IsNamed of chain.name
    by (inl same) = of_base (ap (λ (one : Chain). one.name) (sym same))
    by (inr among) =
        let zone = from_map (zone_chain config of) chain zones among in
        of_one zone.0.name (ap (λ (one : Chain). one.name) (sym zone.2))

block_named : (config : Config) (of : Side) (told : List Told) (blocks : List Chain) → AreBlocks config of told blocks → (chain : Chain) → IsIn chain blocks → IsNamed of chain.name
block_named config of told blocks are chain there =
    let block = of_block chain are there in
    of_settings block.one (block.is.names.each chain block.chain_in) (block.is.names.told chain block.chain_in)

named : (config : Config) (of : Side) (zones : List Zone) (chains : List Chain) → IsSide config of zones chains → (chain : Chain) → IsIn chain chains → IsNamed of chain.name
named config of zones chains (idle empty nothing) chain there = absurd (subst (IsIn chain) empty there)
named config of zones chains (full hook blocks joined is are) chain there =
    ⊎_elim (hook_named config of zones hook is chain) (block_named config of (needed config of zones) blocks are chain)
    (in_either chain hook blocks (subst (IsIn chain) joined there))

-- the first letter
abbrev letter : Side → ℕ
letter side.Marked = 109
letter side.Translated = 110
letter side.Leaving = 110

base_letter : (of : Side) → get_or (base_name of) 0 0 ≡ letter of
base_letter side.Marked = refl
base_letter side.Translated = refl
base_letter side.Leaving = refl

zone_letter : (of : Side) (zone : List ℕ) → get_or (start of ++ zone) 0 0 ≡ letter of
zone_letter side.Marked zone = refl
zone_letter side.Translated zone = refl
zone_letter side.Leaving zone = refl

settings_letter : (of : Side) (block name : List ℕ) → IsNameOf of block name → get_or name 0 0 ≡ letter of
settings_letter side.Marked block name (whole is) = ap (λ (text : List ℕ). get_or text 0 0) is
settings_letter side.Translated block name (whole is) = ap (λ (text : List ℕ). get_or text 0 0) is
settings_letter side.Leaving block name (whole is) = ap (λ (text : List ℕ). get_or text 0 0) is
settings_letter side.Marked block name (own number small is) = ap (λ (text : List ℕ). get_or text 0 0) is
settings_letter side.Translated block name (own number small is) = ap (λ (text : List ℕ). get_or text 0 0) is
settings_letter side.Leaving block name (own number small is) = ap (λ (text : List ℕ). get_or text 0 0) is

first_letter : (of : Side) (name : List ℕ) → IsNamed of name → get_or name 0 0 ≡ letter of
first_letter of name (of_base is) = ap (λ (text : List ℕ). get_or text 0 0) is ∙ base_letter of
first_letter of name (of_one zone is) = ap (λ (text : List ℕ). get_or text 0 0) is ∙ zone_letter of zone
first_letter of name (of_settings told is tells) = settings_letter of (block_of of told) name is

not_f : (of : Side) → letter of ≢ 102
not_f side.Marked same = absurd (omega (arith, same))
not_f side.Translated same = absurd (omega (arith, same))
not_f side.Leaving same = absurd (omega (arith, same))

pub stand_outside : StandOutside
stand_outside config of zones chains is chain there same =
    not_f of (sym (first_letter of chain.name (named config of zones chains is chain there)) ∙ same)

-- the second letter from the first capital on tells the two of kind nat apart
abbrev IsSecond : Side → ℕ → Type 0
IsSecond side.Marked byte = Unit {0}
IsSecond side.Translated byte = (byte ≡ 82) ⊎ (byte ≡ 78)
IsSecond side.Leaving byte = (byte ≡ 79) ⊎ (byte ≡ 65)

abbrev second_of : List ℕ → ℕ
second_of name = get_or (told_by name) 1 0

base_second : (of : Side) → IsSecond of (second_of (base_name of))
base_second side.Marked = tt
base_second side.Translated = inl refl
base_second side.Leaving = inl refl

zone_second : (of : Side) (zone : List ℕ) → IsSecond of (second_of (start of ++ zone))
zone_second side.Marked zone = tt
zone_second side.Translated zone = inl refl
zone_second side.Leaving zone = inl refl

settings_second : (of : Side) (told : Told) → IsSecond of (second_of (block_of of told))
settings_second side.Marked told = tt
settings_second side.Translated (of_zone zone) = inr refl
settings_second side.Translated (of_policy policy) = inr refl
settings_second side.Leaving (of_zone zone) = inr refl
settings_second side.Leaving (of_policy policy) = inr refl

second_letter : (of : Side) (name : List ℕ) → IsNamed of name → IsSecond of (second_of name)
second_letter of name (of_base is) = subst (λ (text : List ℕ). IsSecond of (second_of text)) (sym is) (base_second of)
second_letter of name (of_one zone is) = subst (λ (text : List ℕ). IsSecond of (second_of text)) (sym is) (zone_second of zone)
second_letter of name (of_settings told is tells) = subst (λ (text : List ℕ). IsSecond of (get_or text 1 0)) (sym tells) (settings_second of told)

never_both : (byte : ℕ) → IsSecond side.Translated byte → IsSecond side.Leaving byte → ⊥
never_both byte (inl one) (inl other) = absurd (omega (arith, one, other))
never_both byte (inl one) (inr other) = absurd (omega (arith, one, other))
never_both byte (inr one) (inl other) = absurd (omega (arith, one, other))
never_both byte (inr one) (inr other) = absurd (omega (arith, one, other))

names_apart : (of on : Side) (one other : List ℕ) → of ≢ on → IsNamed of one → IsNamed on other → one ≢ other
names_apart side.Marked side.Marked one other apart is is_too same = absurd (apart refl)
names_apart side.Translated side.Translated one other apart is is_too same = absurd (apart refl)
names_apart side.Leaving side.Leaving one other apart is is_too same = absurd (apart refl)
names_apart side.Marked side.Translated one other apart is is_too same =
    let e : 109 ≡ 110 = sym (first_letter side.Marked one is) ∙ ap (λ (text : List ℕ). get_or text 0 0) same ∙ first_letter side.Translated other is_too in absurd (omega (arith, e))
names_apart side.Marked side.Leaving one other apart is is_too same =
    let e : 109 ≡ 110 = sym (first_letter side.Marked one is) ∙ ap (λ (text : List ℕ). get_or text 0 0) same ∙ first_letter side.Leaving other is_too in absurd (omega (arith, e))
names_apart side.Translated side.Marked one other apart is is_too same =
    let e : 110 ≡ 109 = sym (first_letter side.Translated one is) ∙ ap (λ (text : List ℕ). get_or text 0 0) same ∙ first_letter side.Marked other is_too in absurd (omega (arith, e))
names_apart side.Leaving side.Marked one other apart is is_too same =
    let e : 110 ≡ 109 = sym (first_letter side.Leaving one is) ∙ ap (λ (text : List ℕ). get_or text 0 0) same ∙ first_letter side.Marked other is_too in absurd (omega (arith, e))
names_apart side.Translated side.Leaving one other apart is is_too same =
    never_both (second_of other) (subst (λ (text : List ℕ). IsSecond side.Translated (second_of text)) same (second_letter side.Translated one is)) (second_letter side.Leaving other is_too)
names_apart side.Leaving side.Translated one other apart is is_too same =
    never_both (second_of other) (second_letter side.Translated other is_too) (subst (λ (text : List ℕ). IsSecond side.Leaving (second_of text)) same (second_letter side.Leaving one is))

pub sides_apart : SidesApart
sides_apart config of on zones chains others is is_too apart chain another there there_too =
    names_apart of on chain.name another.name apart (named config of zones chains is chain there) (named config on zones others is_too another there_too)

-- within a side: the base chain, those of zones, and those of settings

abbrev Differ : Chain → Chain → Type 0
Differ one other = one.name ≢ other.name

base_apart : (of : Side) (zone : List ℕ) → base_name of ≢ start of ++ zone
base_apart side.Marked zone same = let e : 82 ≡ 95 = ap (λ (text : List ℕ). get_or text 10 0) same in absurd (omega (arith, e))
base_apart side.Translated zone same = let e : 82 ≡ 95 = ap (λ (text : List ℕ). get_or text 7 0) same in absurd (omega (arith, e))
base_apart side.Leaving zone same = let e : 82 ≡ 95 = ap (λ (text : List ℕ). get_or text 8 0) same in absurd (omega (arith, e))

differ_by : {A : Type 0} (name_of : A → List ℕ) (items : List A) → IsWithoutRepeats (map name_of items) → AllPairs (λ one other. name_of one ≢ name_of other) items
differ_by name_of [] alone = pairs_none (λ one other. name_of one ≢ name_of other)
differ_by name_of (item ∷ items) alone =
    pairs_more (λ one other. name_of one ≢ name_of other) item items
    (λ other there same. alone.0 (subst (λ (name : List ℕ). IsIn name (map name_of items)) (sym same) (in_map name_of other items there)))
    (differ_by name_of items alone.1)

zones_apart : (config : Config) (of : Side) (zones : List Zone) → IsWithoutRepeats (map (λ (zone : Zone). zone.name) zones) → AllPairs Differ (map (zone_chain config of) zones)
zones_apart config of zones alone =
    pairs_map Differ (zone_chain config of) zones
    (λ one other default before within same.
    differ_by (λ (zone : Zone). zone.name) zones alone one other default before within
    (append_cancel_left (start of) (get_or zones one default).name (get_or zones other default).name same))

-- blocks of settings

abbrev BlocksDiffer : Side → Told → Told → Type 0
BlocksDiffer of one other = block_of of one ≢ block_of of other

is_block : (of : Side) (told : Told) → IsBlock of (block_of of told)
is_block of (of_zone zone) = zone_is zone.name refl
is_block of (of_policy policy) = policy_is policy.name refl

blocks_differ : {config : Config} {of : Side} {told : List Told} {chains : List Chain} → AreBlocks config of told chains → AllPairs (BlocksDiffer of) told → AllPairs Differ chains
blocks_differ none apart = pairs_none Differ
blocks_differ {config} {of} (one_more told last chains block blocks does) apart =
    pairs_joined Differ chains block
    (blocks_differ blocks (pairs_front (BlocksDiffer of) told (last ∷ []) apart)) does.names.differ
    (λ one other there within.
    let old = of_block one blocks there in
    blocks_apart of of (block_of of old.one) (block_of of last) old.block block (is_block of old.one) (is_block of last)
    (pairs_across (BlocksDiffer of) told (last ∷ []) apart old.one last old.listed (inl refl)) old.is.names does.names one other old.chain_in within)

-- one for each item, where there is one
abbrev kept : {A : Type 0} → (A → Bool) → (A → Told) → A → List Told
kept some of item = if some item then of item ∷ [] else []

from_kept : {A : Type 0} (some : A → Bool) (of : A → Told) (told : Told) (items : List A) → IsIn told (flat_map (kept some of) items) → (item : A) × IsIn item items × (of item ≡ told)
from_kept some of told [] there = absurd there
from_kept some of told (first ∷ others) there =
    ⊎_elim (λ here. (first, inl refl, by (some first) here)) (λ behind. let rest = from_kept some of told others behind in (rest.0, inr rest.1, rest.2))
    (in_either told (kept some of first) (flat_map (kept some of) others) there)
  where
    by : (b : Bool) → IsIn told (if b then of first ∷ [] else []) → of first ≡ told
    by true (inl same) = same
    by true (inr never) = absurd never
    by false never = absurd never

kept_apart : {A : Type 0} (on : Side) (some : A → Bool) (of : A → Told) (name_of : A → List ℕ) (word : List ℕ) (items : List A)
    → ((item : A) → block_of on (of item) ≡ word ++ name_of item)
    → IsWithoutRepeats (map name_of items)
    → AllPairs (BlocksDiffer on) (flat_map (kept some of) items)
kept_apart on some of name_of word [] are alone = pairs_none (BlocksDiffer on)
kept_apart on some of name_of word (item ∷ items) are alone = by (some item) (kept_apart on some of name_of word items are alone.1)
  where
    by : (b : Bool) → AllPairs (BlocksDiffer on) (flat_map (kept some of) items) → AllPairs (BlocksDiffer on) ((if b then of item ∷ [] else []) ++ flat_map (kept some of) items)
    by true rest =
        pairs_more (BlocksDiffer on) (of item) (flat_map (kept some of) items)
        (λ other there same.
        let found = from_kept some of other items there in
        let alike = append_cancel_left word (name_of item) (name_of found.0) (sym (are item) ∙ same ∙ ap (block_of on) (sym found.2) ∙ are found.0) in
        alone.0 (subst (λ (name : List ℕ). IsIn name (map name_of items)) (sym alike) (in_map name_of found.0 items found.1)))
        rest
    by false rest = rest

zone_or_policy : (of : Side) (zone : Zone) (policy : Policy) → block_of of (of_zone zone) ≢ block_of of (of_policy policy)
zone_or_policy side.Marked zone policy same = let e : 90 ≡ 80 = ap (λ (text : List ℕ). get_or text 5 0) same in absurd (omega (arith, e))
zone_or_policy side.Translated zone policy same = let e : 90 ≡ 80 = ap (λ (text : List ℕ). get_or text 5 0) same in absurd (omega (arith, e))
zone_or_policy side.Leaving zone policy same = let e : 90 ≡ 80 = ap (λ (text : List ℕ). get_or text 5 0) same in absurd (omega (arith, e))

needed_apart : (config : Config) (of : Side) (zones : List Zone)
    → IsWithoutRepeats (map (λ (zone : Zone). zone.name) zones)
    → IsWithoutRepeats (map (λ (policy : Policy). policy.name) config.policies)
    → AllPairs (BlocksDiffer of) (needed config of zones)
needed_apart config of zones alone policies_alone =
    pairs_joined (BlocksDiffer of) (flat_map (told_zone of) zones) (flat_map (told_policy of zones) config.policies)
    (kept_apart of (λ (zone : Zone). has_changes of zone.rules) of_zone (λ (zone : Zone). zone.name) _ zones (λ zone. refl) alone)
    (kept_apart of (is_needed of zones) of_policy (λ (policy : Policy). policy.name) _ config.policies (λ policy. refl) policies_alone)
    (λ one other there within.
    let zone = from_kept (λ (it : Zone). has_changes of it.rules) of_zone one zones there in
    let policy = from_kept (is_needed of zones) of_policy other config.policies within in
    subst₂ (BlocksDiffer of) zone.2 policy.2 (zone_or_policy of zone.0 policy.0))

-- the first letter from the first capital on tells chains of zones from those of settings
abbrev first_of : List ℕ → ℕ
first_of name = get_or (told_by name) 0 0

base_first : (of : Side) → first_of (base_name of) ≡ 80
base_first side.Marked = refl
base_first side.Translated = refl
base_first side.Leaving = refl

zone_first : (of : Side) (zone : List ℕ) → first_of (start of ++ zone) ≡ 80
zone_first side.Marked zone = refl
zone_first side.Translated zone = refl
zone_first side.Leaving zone = refl

settings_first : (of : Side) (told : Told) → first_of (block_of of told) ≢ 80
settings_first side.Marked (of_zone zone) same = let e : 77 ≡ 80 = same in absurd (omega (arith, e))
settings_first side.Marked (of_policy policy) same = let e : 77 ≡ 80 = same in absurd (omega (arith, e))
settings_first side.Translated (of_zone zone) same = let e : 68 ≡ 80 = same in absurd (omega (arith, e))
settings_first side.Translated (of_policy policy) same = let e : 68 ≡ 80 = same in absurd (omega (arith, e))
settings_first side.Leaving (of_zone zone) same = let e : 77 ≡ 80 = same in absurd (omega (arith, e))
settings_first side.Leaving (of_policy policy) same = let e : 77 ≡ 80 = same in absurd (omega (arith, e))

hook_first : (config : Config) (of : Side) (zones : List Zone) (hook : List Chain) → IsHook config of zones hook → (chain : Chain) → IsIn chain hook → first_of chain.name ≡ 80
hook_first config of zones hook is chain there = by (subst (IsIn chain) is.are there)
  where
    by : IsIn chain (base_chain of (early of ++ is.dispatched) ∷ map (zone_chain config of) zones) → first_of chain.name ≡ 80
    by (inl same) = ap (λ (one : Chain). first_of one.name) (sym same) ∙ base_first of
    by (inr among) =
        let zone = from_map (zone_chain config of) chain zones among in
        ap (λ (one : Chain). first_of one.name) (sym zone.2) ∙ zone_first of zone.0.name

hook_apart : (config : Config) (of : Side) (zones : List Zone) (hook : List Chain) → IsHook config of zones hook
    → IsWithoutRepeats (map (λ (zone : Zone). zone.name) zones) → AllPairs Differ hook
hook_apart config of zones hook is alone =
    subst (AllPairs Differ) (sym is.are)
    (pairs_more Differ (base_chain of (early of ++ is.dispatched)) (map (zone_chain config of) zones)
    (λ other there same.
    let zone = from_map (zone_chain config of) other zones there in
    base_apart of zone.0.name (same ∙ ap (λ (one : Chain). one.name) (sym zone.2)))
    (zones_apart config of zones alone))

pub chains_apart : ChainsApart
chains_apart config of zones chains (idle empty nothing) alone policies_alone = subst (AllPairs Differ) (sym empty) (pairs_none Differ)
chains_apart config of zones chains (full hook blocks joined is are) alone policies_alone =
    subst (AllPairs Differ) (sym joined)
    (pairs_joined Differ hook blocks (hook_apart config of zones hook is alone)
    (blocks_differ are (needed_apart config of zones alone policies_alone))
    (λ one other there within same.
    let block = of_block other are within in
    settings_first of block.one
    (ap (λ (text : List ℕ). get_or text 0 0) (sym (block.is.names.told other block.chain_in))
    ∙ ap first_of (sym same)
    ∙ hook_first config of zones hook is one there)))
