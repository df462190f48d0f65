-- No two chains share a name.
use Rattle.std.proofs.Common.{◌≡◌, ◌≢◌, ◌∙◌, ◌≤◌, ◌==◌, ◌&&◌, not, nat_le, ◌⊎◌, ℕ, inl, inr, true, false, List, [], ◌∷◌, ◌++◌, map, length, get_or, drop, IsTrue, AllPairs, ⊎_elim, refl, sym, ap, subst, arith}
use Rattle.std.specs.Prelude.{codes, if◌then◌else◌}
use Rattle.std.specs.List.{list_all}
use Rattle.std.proofs.lemmas.Bool.{and_parts, ne_eqb}
use Rattle.std.proofs.lemmas.List.{append_assoc, append_cancel_left, length-append, map-append}
use Rattle.fw_addr.specs.WellFormed.{is_name, is_name_byte}
use Rattle.fw_model.specs.declared.config.Config.{Config}
use Rattle.fw_model.specs.declared.zone.Zone.{Zone}
use Rattle.fw_valid.specs.Each.{Each, IsWithoutRepeats}
use Rattle.fw_valid.specs.Names.{AreNamed}
use Rattle.fw_zone.specs.Lists.{IsIn}
use Rattle.fw_verdict.specs.declared.rich.Part.TheVariants as part
use Rattle.fw_verdict.specs.declared.sides.Side.{Side}
use Rattle.fw_verdict.specs.declared.sides.Side.TheVariants as side
use Rattle.lower_all.specs.Joined.{AreJoined, AreOutside, used_zones}
use Rattle.lower_blocks.specs.Blocks as blocks
use Rattle.lower_blocks.specs.Blocks.{Told}
use Rattle.lower_blocks.specs.Blocks.Told.{of_policy as told_policy, of_zone as told_zone}
use Rattle.lower_blocks.specs.Needed.{all_told}
use Rattle.lower_changes.specs.Sides.{IsSide}
use Rattle.lower_dispatch.specs.Uses.{is_in_use}
use Rattle.lower_hooks.specs.Names.{forward_names, forward_start, from_names, input_start, names_of, output_start, pair_start, zone_names}
use Rattle.lower_zone.specs.Laws.{IsBlock}
use Rattle.lower_zone.specs.Laws.IsBlock.{of_policy, of_zone}
use Rattle.lower_zone.specs.Names.{IsNameOf, block_of}
use Rattle.lower_zone.specs.Names.IsNameOf.{of_part, own, whole}
use Rattle.nf_rules.specs.declared.chain.Chain.{Chain}
use Rattle.lower_all.proofs.Distinct.{apart_from_names, distinct_each, distinct_filtered, distinct_joined, distinct_told, each_from, each_of, from_flat_map}
use Rattle.lower_all.proofs.Among.{in_both}
use Rattle.lower_all.proofs.Found.{AreApart, apart_again, apart_joined}
use Rattle.lower_all.proofs.Laws.{NameLaws}
use Rattle.lower_all.proofs.Parts.{all_of, are_side, each_outside, filter_of, side_of}
use Rattle.lower_blocks.proofs.Lists.{from_map, in_either, in_map, was_in}
use Rattle.lower_blocks.proofs.There.{names_apart as settings_apart, of_some_block, told_apart}
use Rattle.lower_zone.proofs.Apart.{blocks_apart}

-- names that begin alike

distinct_zone_names : (start : List ℕ) (zones : List Zone) → IsWithoutRepeats (map (λ (zone : Zone). zone.name) zones) → IsWithoutRepeats (zone_names start zones)
distinct_zone_names start zones distinct =
    distinct_told (λ (zone : Zone). zone.name) (λ (zone : Zone). start ++ zone.name) (λ one other same. append_cancel_left start one.name other.name same) zones distinct

-- a letter that what they begin with shows
letter_of : (start : List ℕ) (at letter : ℕ) → ((name : List ℕ) → get_or (start ++ name) at 0 ≡ letter)
    → (zones : List Zone) (name : List ℕ) → IsIn name (zone_names start zones) → get_or name at 0 ≡ letter
letter_of start at letter shown zones name there =
    let of = from_map (λ (zone : Zone). start ++ zone.name) name zones there in
    ap (λ (text : List ℕ). get_or text at 0) (sym of.2) ∙ shown of.0.name

-- a base chain's name, and those of zones behind it
distinct_behind : (base : List ℕ) (at : ℕ) (names : List (List ℕ)) → get_or base at 0 ≡ 0 → ((name : List ℕ) → IsIn name names → get_or name at 0 ≡ 95) → IsWithoutRepeats names → IsWithoutRepeats (base ∷ names)
distinct_behind base at names ends goes_on distinct = (λ there. absurd (omega (arith, ends, goes_on base there)), distinct)

name_bytes : (name : List ℕ) → IsTrue (is_name name) → list_all is_name_byte name ≡ true
name_bytes name is = (and_parts (not (length name == 0) && nat_le (length name) 64) (list_all is_name_byte name) is).1

-- input

abbrev input_names : List Zone → List (List ℕ)
input_names zones = codes "filter_INPUT" ∷ zone_names input_start zones

distinct_input : (zones : List Zone) → IsWithoutRepeats (map (λ (zone : Zone). zone.name) zones) → IsWithoutRepeats (input_names zones)
distinct_input zones distinct =
    distinct_behind (codes "filter_INPUT") 12 (zone_names input_start zones) refl (letter_of input_start 12 95 (λ name. refl) zones) (distinct_zone_names input_start zones distinct)

-- output

abbrev output_names : List Zone → List (List ℕ)
output_names zones = codes "filter_OUTPUT" ∷ zone_names output_start zones

distinct_output : (zones : List Zone) → IsWithoutRepeats (map (λ (zone : Zone). zone.name) zones) → IsWithoutRepeats (output_names zones)
distinct_output zones distinct =
    distinct_behind (codes "filter_OUTPUT") 13 (zone_names output_start zones) refl (letter_of output_start 13 95 (λ name. refl) zones) (distinct_zone_names output_start zones distinct)

-- forward: what stands before the first slash is the zone that packets come from

abbrev before_slash : List ℕ → List ℕ
before_slash [] = []
before_slash (byte ∷ bytes) = if byte == 47 then [] else byte ∷ before_slash bytes

no_slash : (byte : ℕ) → is_name_byte byte ≡ true → (byte == 47) ≡ false
no_slash byte is = ne_eqb byte 47 (λ same. let untrue : false ≡ true = subst (λ (it : ℕ). is_name_byte it ≡ true) same is in cc)

before_name : (name behind : List ℕ) → list_all is_name_byte name ≡ true → before_slash (name ++ 47 ∷ behind) ≡ name
before_name [] behind are = refl
before_name (byte ∷ bytes) behind are =
    let both = and_parts (is_name_byte byte) (list_all is_name_byte bytes) are in
    rw (no_slash byte both.0) (ap (λ rest. byte ∷ rest) (before_name bytes behind both.1))

whole_name : (name : List ℕ) → list_all is_name_byte name ≡ true → before_slash name ≡ name
whole_name [] are = refl
whole_name (byte ∷ bytes) are =
    let both = and_parts (is_name_byte byte) (list_all is_name_byte bytes) are in
    rw (no_slash byte both.0) (ap (λ rest. byte ∷ rest) (whole_name bytes both.1))

abbrev from_of : List ℕ → List ℕ
from_of name = before_slash (drop 15 name)

from_is : (others : List Zone) (from : Zone) (name : List ℕ) → list_all is_name_byte from.name ≡ true → IsIn name (from_names others from) → from_of name ≡ from.name
from_is others from name are (inl same) = ap from_of (sym same) ∙ whole_name from.name are
from_is others from name are (inr there) =
    let to = from_map (λ (zone : Zone). pair_start from.name ++ zone.name) name others there in
    ap from_of (sym to.2) ∙ ap before_slash (append_assoc from.name (codes "/") to.0.name) ∙ before_name from.name to.0.name are

distinct_from : (others : List Zone) (from : Zone) → IsWithoutRepeats (map (λ (zone : Zone). zone.name) others) → IsWithoutRepeats (from_names others from)
distinct_from others from distinct = (
  λ there.
      let to = from_map (λ (zone : Zone). pair_start from.name ++ zone.name) (forward_start ++ from.name) others there in
      let same : (from.name ++ codes "/") ++ to.0.name ≡ from.name = ap (drop 15) to.2 in
      absurd (omega (arith, length-append (from.name ++ codes "/") to.0.name, length-append from.name (codes "/"), ap length same)),
  distinct_zone_names (pair_start from.name) others distinct,
)

forward_letter : (at letter : ℕ) → ((name : List ℕ) → get_or (forward_start ++ name) at 0 ≡ letter)
    → (others zones : List Zone) (name : List ℕ) → IsIn name (forward_names others zones) → get_or name at 0 ≡ letter
forward_letter at letter shown others zones name there =
    let of = from_flat_map (from_names others) name zones there in
    by of.0 of.2
  where
    by : (from : Zone) → IsIn name (from_names others from) → get_or name at 0 ≡ letter
    by from (inl same) = ap (λ (text : List ℕ). get_or text at 0) (sym same) ∙ shown from.name
    by from (inr behind) =
        let to = from_map (λ (zone : Zone). pair_start from.name ++ zone.name) name others behind in
        ap (λ (text : List ℕ). get_or text at 0) (sym to.2) ∙ shown ((from.name ++ codes "/") ++ to.0.name)

abbrev all_forward_names : List Zone → List (List ℕ)
all_forward_names zones = codes "filter_FORWARD" ∷ forward_names zones zones

distinct_forward : (zones : List Zone) → ((zone : Zone) → IsIn zone zones → list_all is_name_byte zone.name ≡ true)
    → IsWithoutRepeats (map (λ (zone : Zone). zone.name) zones) → IsWithoutRepeats (all_forward_names zones)
distinct_forward zones are distinct =
    distinct_behind (codes "filter_FORWARD") 14 (forward_names zones zones) refl (forward_letter 14 95 (λ name. refl) zones zones)
    (distinct_each (λ (zone : Zone). zone.name) (from_names zones) zones
    (λ from there. distinct_from zones from distinct)
    (λ one other name there there_too has has_too. sym (from_is zones one name (are one there) has) ∙ from_is zones other name (are other there_too) has_too)
    distinct)

-- the eighth letter tells the hook

input_letter : (zones : List Zone) (name : List ℕ) → IsIn name (input_names zones) → get_or name 7 0 ≡ 73
input_letter zones name (inl same) = ap (λ (text : List ℕ). get_or text 7 0) (sym same)
input_letter zones name (inr there) = letter_of input_start 7 73 (λ behind. refl) zones name there

forward_is : (zones : List Zone) (name : List ℕ) → IsIn name (all_forward_names zones) → get_or name 7 0 ≡ 70
forward_is zones name (inl same) = ap (λ (text : List ℕ). get_or text 7 0) (sym same)
forward_is zones name (inr there) = forward_letter 7 70 (λ behind. refl) zones zones name there

output_letter : (zones : List Zone) (name : List ℕ) → IsIn name (output_names zones) → get_or name 7 0 ≡ 79
output_letter zones name (inl same) = ap (λ (text : List ℕ). get_or text 7 0) (sym same)
output_letter zones name (inr there) = letter_of output_start 7 79 (λ behind. refl) zones name there

abbrev hook_names : List Zone → List (List ℕ)
hook_names zones = (input_names zones ++ all_forward_names zones) ++ output_names zones

distinct_hooks : (zones : List Zone) → ((zone : Zone) → IsIn zone zones → list_all is_name_byte zone.name ≡ true)
    → IsWithoutRepeats (map (λ (zone : Zone). zone.name) zones) → IsWithoutRepeats (hook_names zones)
distinct_hooks zones are distinct =
    distinct_joined (input_names zones ++ all_forward_names zones) (output_names zones)
    (distinct_joined (input_names zones) (all_forward_names zones) (distinct_input zones distinct) (distinct_forward zones are distinct)
    (λ name one other. absurd (omega (arith, input_letter zones name one, forward_is zones name other))))
    (distinct_output zones distinct)
    (λ name one other. ⊎_elim
    (λ input. absurd (omega (arith, input_letter zones name input, output_letter zones name other)))
    (λ forward. absurd (omega (arith, forward_is zones name forward, output_letter zones name other)))
    (in_either name (input_names zones) (all_forward_names zones) one))

hooks_are : (zones : List Zone) (inputs forwards outputs : List Chain)
    → names_of inputs ≡ codes "filter_INPUT" ∷ zone_names input_start zones
    → names_of forwards ≡ codes "filter_FORWARD" ∷ forward_names zones zones
    → names_of outputs ≡ codes "filter_OUTPUT" ∷ zone_names output_start zones
    → names_of ((inputs ++ forwards) ++ outputs) ≡ hook_names zones
hooks_are zones inputs forwards outputs input forward output =
    map-append (λ (chain : Chain). chain.name) (inputs ++ forwards) outputs
    ∙ ap (λ names. names ++ names_of outputs) (map-append (λ (chain : Chain). chain.name) inputs forwards)
    ∙ rw (input, forward, output) refl

-- no two chains of the hooks have the same name
pub hooks_apart : (zones : List Zone) (inputs forwards outputs : List Chain)
    → names_of inputs ≡ codes "filter_INPUT" ∷ zone_names input_start zones
    → names_of forwards ≡ codes "filter_FORWARD" ∷ forward_names zones zones
    → names_of outputs ≡ codes "filter_OUTPUT" ∷ zone_names output_start zones
    → IsWithoutRepeats (map (λ (zone : Zone). zone.name) zones)
    → Each (λ (zone : Zone). IsTrue (is_name zone.name)) zones
    → AllPairs (λ one other. one.name ≢ other.name) ((inputs ++ forwards) ++ outputs)
hooks_apart zones inputs forwards outputs input forward output distinct well_formed =
    apart_from_names (λ (chain : Chain). chain.name) ((inputs ++ forwards) ++ outputs)
    (subst IsWithoutRepeats (sym (hooks_are zones inputs forwards outputs input forward output)) (distinct_hooks zones are distinct))
  where
    are : (zone : Zone) → IsIn zone zones → list_all is_name_byte zone.name ≡ true
    are zone there = name_bytes zone.name (each_of (λ (zone : Zone). IsTrue (is_name zone.name)) zones well_formed zone there)

-- A block begins with other letters: the third of what a name tells shows it.

abbrev third : List ℕ → ℕ
third name = get_or (block_of name) 2 0

third_of : (start : List ℕ) (letter : ℕ) → ((name : List ℕ) → third (start ++ name) ≡ letter)
    → (zones : List Zone) (name : List ℕ) → IsIn name (zone_names start zones) → third name ≡ letter
third_of start letter shown zones name there =
    let of = from_map (λ (zone : Zone). start ++ zone.name) name zones there in
    ap third (sym of.2) ∙ shown of.0.name

input_third : (zones : List Zone) (name : List ℕ) → IsIn name (input_names zones) → third name ≡ 80
input_third zones name (inl same) = ap third (sym same)
input_third zones name (inr there) = third_of input_start 80 (λ behind. refl) zones name there

output_third : (zones : List Zone) (name : List ℕ) → IsIn name (output_names zones) → third name ≡ 84
output_third zones name (inl same) = ap third (sym same)
output_third zones name (inr there) = third_of output_start 84 (λ behind. refl) zones name there

forward_third : (zones : List Zone) (name : List ℕ) → IsIn name (all_forward_names zones) → third name ≡ 82
forward_third zones name (inl same) = ap third (sym same)
forward_third zones name (inr there) =
    let of = from_flat_map (from_names zones) name zones there in
    by of.0 of.2
  where
    by : (from : Zone) → IsIn name (from_names zones from) → third name ≡ 82
    by from (inl same) = ap third (sym same)
    by from (inr behind) = third_of (pair_start from.name) 82 (λ text. refl) zones name behind

block_third : (block name : List ℕ) → IsBlock block → block_of name ≡ block_of block → (third name ≡ 95) ⊎ (third name ≡ 76)
block_third block name (of_zone called is) told = inl (ap (λ (text : List ℕ). get_or text 2 0) (told ∙ ap block_of is))
block_third block name (of_policy called is) told = inr (ap (λ (text : List ℕ). get_or text 2 0) (told ∙ ap block_of is))

hook_third : (zones : List Zone) (name : List ℕ) → IsIn name (hook_names zones) → (80 ≤ third name) × (third name ≤ 84)
hook_third zones name there = ⊎_elim
    (λ both. ⊎_elim
    (λ input. let is = input_third zones name input in (omega arith, omega arith))
    (λ forward. let is = forward_third zones name forward in (omega arith, omega arith))
    (in_either name (input_names zones) (all_forward_names zones) both))
    (λ output. let is = output_third zones name output in (omega arith, omega arith))
    (in_either name (input_names zones ++ all_forward_names zones) (output_names zones) there)

-- a chain of the hooks and one of a block don't have the same name
pub hooks_and_blocks_apart : (zones : List Zone) (inputs forwards outputs : List Chain)
    → names_of inputs ≡ codes "filter_INPUT" ∷ zone_names input_start zones
    → names_of forwards ≡ codes "filter_FORWARD" ∷ forward_names zones zones
    → names_of outputs ≡ codes "filter_OUTPUT" ∷ zone_names output_start zones
    → (block : List ℕ) → IsBlock block
    → (chain other : Chain) → IsIn chain ((inputs ++ forwards) ++ outputs) → block_of other.name ≡ block_of block
    → chain.name ≢ other.name
hooks_and_blocks_apart zones inputs forwards outputs input forward output block is chain other there told same =
    let name = in_map (λ (one : Chain). one.name) chain ((inputs ++ forwards) ++ outputs) there in
    let hooked = hook_third zones chain.name (subst (IsIn chain.name) (hooks_are zones inputs forwards outputs input forward output) name) in
    ⊎_elim
    (λ (zone : third other.name ≡ 95). absurd (omega (arith, hooked.0, hooked.1, ap third same, zone)))
    (λ (policy : third other.name ≡ 76). absurd (omega (arith, hooked.0, hooked.1, ap third same, policy)))
    (block_third block other.name is told)

-- all chains

told_is_block : (told : Told) → IsBlock (blocks.block_of told)
told_is_block (told_zone zone) = of_zone zone.name refl
told_is_block (told_policy policy) = of_policy policy.name refl

used_are_named : (config : Config) → AreNamed config → Each (λ (zone : Zone). IsTrue (is_name zone.name)) (used_zones config)
used_are_named config named =
    each_from (λ (zone : Zone). IsTrue (is_name zone.name)) (used_zones config)
    (λ zone there.
    each_of (λ name. IsTrue (is_name name)) (map (λ (one : Zone). one.name) config.zones) named.zones.well_formed zone.name
    (in_map (λ (one : Zone). one.name) zone config.zones (was_in (is_in_use config) zone config.zones there)))

-- The names of all chains in the filter begin with an f.

block_letter : (block name : List ℕ) → IsNameOf block name → get_or name 0 0 ≡ 102
block_letter block name (whole is) = ap (λ (text : List ℕ). get_or text 0 0) is
block_letter block name (of_part part.Pre is) = ap (λ (text : List ℕ). get_or text 0 0) is
block_letter block name (of_part part.Log is) = ap (λ (text : List ℕ). get_or text 0 0) is
block_letter block name (of_part part.Deny is) = ap (λ (text : List ℕ). get_or text 0 0) is
block_letter block name (of_part part.Allow is) = ap (λ (text : List ℕ). get_or text 0 0) is
block_letter block name (of_part part.Post is) = ap (λ (text : List ℕ). get_or text 0 0) is
block_letter block name (own number small is) = ap (λ (text : List ℕ). get_or text 0 0) is

begin_with_f : (zones : List Zone) (name : List ℕ) → IsIn name (hook_names zones) → get_or name 0 0 ≡ 102
begin_with_f zones name =
    in_both (λ (one : List ℕ). get_or one 0 0 ≡ 102) (input_names zones ++ all_forward_names zones) (output_names zones)
    (in_both (λ (one : List ℕ). get_or one 0 0 ≡ 102) (input_names zones) (all_forward_names zones) of_input of_forward) of_output name
  where
    of_input : (one : List ℕ) → IsIn one (input_names zones) → get_or one 0 0 ≡ 102
    of_input one (inl same) = ap (λ (text : List ℕ). get_or text 0 0) (sym same)
    of_input one (inr there) = letter_of input_start 0 102 (λ behind. refl) zones one there

    of_forward : (one : List ℕ) → IsIn one (all_forward_names zones) → get_or one 0 0 ≡ 102
    of_forward one (inl same) = ap (λ (text : List ℕ). get_or text 0 0) (sym same)
    of_forward one (inr there) = forward_letter 0 102 (λ behind. refl) zones zones one there

    of_output : (one : List ℕ) → IsIn one (output_names zones) → get_or one 0 0 ≡ 102
    of_output one (inl same) = ap (λ (text : List ℕ). get_or text 0 0) (sym same)
    of_output one (inr there) = letter_of output_start 0 102 (λ behind. refl) zones one there

filter_letter : (config : Config) (chains : List Chain) (joined : AreJoined config chains) (chain : Chain) → IsIn chain (filter_of joined) → get_or chain.name 0 0 ≡ 102
filter_letter config chains joined =
    in_both (λ (chain : Chain). get_or chain.name 0 0 ≡ 102) ((joined.inputs ++ joined.forwards) ++ joined.outputs) joined.settings
    (λ chain among.
    begin_with_f (used_zones config) chain.name
    (subst (IsIn chain.name) (hooks_are (used_zones config) joined.inputs joined.forwards joined.outputs joined.input_names joined.forward_names joined.output_names)
    (in_map (λ (one : Chain). one.name) chain ((joined.inputs ++ joined.forwards) ++ joined.outputs) among)))
    (λ chain among.
    let block = of_some_block config (all_told config (used_zones config)) joined.settings joined.blocks chain among in
    block_letter (blocks.block_of block.one) chain.name (block.is.names.each chain block.chain_in))

-- no two of them have the same name
filter_apart : (config : Config) (chains : List Chain) (joined : AreJoined config chains) → AreNamed config → AreApart (λ (chain : Chain). chain.name) (filter_of joined)
filter_apart config chains joined named =
    let zones = used_zones config in
    let hooks = (joined.inputs ++ joined.forwards) ++ joined.outputs in
    apart_joined (λ (chain : Chain). chain.name) hooks joined.settings
    (hooks_apart zones joined.inputs joined.forwards joined.outputs joined.input_names joined.forward_names joined.output_names
    (distinct_filtered (λ (zone : Zone). zone.name) (is_in_use config) config.zones named.zones.unique)
    (used_are_named config named))
    (settings_apart config (all_told config zones) joined.settings blocks_apart joined.blocks (told_apart config zones named))
    (λ chain other in_hooks in_blocks.
    let block = of_some_block config (all_told config zones) joined.settings joined.blocks other in_blocks in
    hooks_and_blocks_apart zones joined.inputs joined.forwards joined.outputs joined.input_names joined.forward_names joined.output_names
    (blocks.block_of block.one) (told_is_block block.one) chain other in_hooks (block.is.names.told other block.chain_in))

module _ (laws : NameLaws) (config : Config) (named : AreNamed config) where
  -- nor have two of those outside it
  outside_apart : (chains : List Chain) → AreOutside config (used_zones config) chains → AreApart (λ (chain : Chain). chain.name) chains
  outside_apart chains sides =
      subst (AreApart (λ (chain : Chain). chain.name)) (sym sides.are)
      (apart_joined (λ (chain : Chain). chain.name) (sides.marks ++ sides.targets) sides.masks
      (apart_joined (λ (chain : Chain). chain.name) sides.marks sides.targets
      (one_side side.Marked) (one_side side.Translated) (two_sides side.Marked side.Translated (λ same. cc)))
      (one_side side.Leaving)
      (λ chain other among there.
      ⊎_elim
      (λ marked. two_sides side.Marked side.Leaving (λ same. cc) chain other marked there)
      (λ translated. two_sides side.Translated side.Leaving (λ same. cc) chain other translated there)
      (in_either chain sides.marks sides.targets among)))
    where
      is : (of : Side) → IsSide config of (used_zones config) (side_of sides of)
      is = are_side config (used_zones config) chains sides

      one_side : (of : Side) → AreApart (λ (chain : Chain). chain.name) (side_of sides of)
      one_side of =
          laws.apart config of (used_zones config) (side_of sides of) (is of)
          (distinct_filtered (λ (zone : Zone). zone.name) (is_in_use config) config.zones named.zones.unique)
          named.policies.unique

      two_sides : (of on : Side) → of ≢ on → (chain another : Chain) → IsIn chain (side_of sides of) → IsIn another (side_of sides on) → chain.name ≢ another.name
      two_sides of on = laws.across config of on (used_zones config) (side_of sides of) (side_of sides on) (is of) (is on)

  outside_letter : (chains : List Chain) → AreOutside config (used_zones config) chains → (chain : Chain) → IsIn chain chains → get_or chain.name 0 0 ≢ 102
  outside_letter chains sides =
      each_outside config (used_zones config) chains sides (λ (chain : Chain). get_or chain.name 0 0 ≢ 102)
      (λ of. laws.outside config of (used_zones config) (side_of sides of) (are_side config (used_zones config) chains sides of))

  -- no two chains of a configuration have the same name
  pub names_apart : (chains : List Chain) → AreJoined config chains → AllPairs (λ one other. one.name ≢ other.name) chains
  names_apart chains joined =
      apart_again (λ (chain : Chain). chain.name) (all_of joined) chains joined.all
      (apart_joined (λ (chain : Chain). chain.name) (filter_of joined) joined.outside
      (filter_apart config chains joined named)
      (outside_apart joined.outside joined.sides)
      (λ chain other among there same.
      outside_letter joined.outside joined.sides other there
      (sym (ap (λ (name : List ℕ). get_or name 0 0) same) ∙ filter_letter config chains joined chain among)))
