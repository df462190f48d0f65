-- The names of a block's chains: no two of them are the same, and each tells its block.
use Rattle.std.proofs.Common.{◌≡◌, ◌≢◌, ◌∙◌, ◌<◌, ◌≤◌, ◌^◌, ◌&&◌, ◌⊎◌, ◌==◌, ◌+◌, inl, inr, ℕ, zero, suc, Bool, true, false, List, [], ◌∷◌, ◌++◌, length, get_or, drop, refl, sym, ap, subst, arith, ⊎_elim}
use Rattle.std.specs.Prelude.{if◌then◌else◌, codes, decimal, nat_le}
use Rattle.std.specs.Char.{is_ascii_digit, is_ascii_uppercase}
use Rattle.std.specs.Str.{all_ascii_digits}
use Rattle.std.specs.Str.Parse.{digits_value}
use Rattle.std.proofs.lemmas.Bool.{and_parts, leb-true, lt-leb}
use Rattle.std.proofs.lemmas.Fmt.{decimal_injective, digits_decimal}
use Rattle.std.proofs.lemmas.List.{append_assoc, append_cancel_left, append_cancel_right, length-append}
use Rattle.std.proofs.lemmas.List.Quantifiers.{all_pairs_push}
use Rattle.std.proofs.lemmas.Str.Parse.{IsNumeralModel, numerals_by_value, tells_all_ascii_digits}
use Rattle.fw_verdict.specs.declared.rich.Part.{Part}
use Rattle.fw_verdict.specs.declared.rich.Part.TheVariants as part
use Rattle.fw_zone.specs.Lists.{IsIn}
use Rattle.lower_zone.specs.Forms.{chain_named}
use Rattle.lower_zone.specs.Laws.{AreBlocksApart, IsBlock}
use Rattle.lower_zone.specs.Laws.IsBlock.{of_policy, of_zone}
use Rattle.lower_zone.specs.Names.{IsNameOf, NamesDiffer, block_name, block_of, own_name, part_name, part_word, place}
use Rattle.lower_zone.specs.Names.IsNameOf.{whole as whole_name, of_part as part_of_block, own as own_of_block}
use Rattle.lower_zone.specs.Work.{AreNamed, HasOwn, IsTaken}
use Rattle.lower_zone.specs.Work.IsTaken.{of_part, own}
use Rattle.nf_rules.specs.declared.chain.Chain.{Chain}
use Rattle.nf_rules.specs.declared.rule.Rule.{Rule}

-- the part that the tenth letter of a name tells
abbrev told_by : ℕ → ℕ
told_by byte = if byte == 101 then 0 else if byte == 103 then 1 else if byte == 110 then 2 else if byte == 108 then 3 else 4

tells_place : (part : Part) (block : List ℕ) → told_by (get_or (part_name part block) 9 0) ≡ place part
tells_place part.Pre block = refl
tells_place part.Log block = refl
tells_place part.Deny block = refl
tells_place part.Allow block = refl
tells_place part.Post block = refl

part_other : (one other : Part) (block : List ℕ) → place one < place other → part_name one block ≢ part_name other block
part_other one other block before same =
    absurd (omega (arith, before, sym (tells_place one block) ∙ ap (λ (name : List ℕ). told_by (get_or name 9 0)) same ∙ tells_place other block))

part_own : (part : Part) (number : ℕ) (block : List ℕ) → part_name part block ≢ own_name number block
part_own part.Pre number block same = let e : 114 ≡ 119 = ap (λ (name : List ℕ). get_or name 8 0) same in absurd (omega (arith, e))
part_own part.Log number block same = let e : 111 ≡ 119 = ap (λ (name : List ℕ). get_or name 8 0) same in absurd (omega (arith, e))
part_own part.Deny number block same = let e : 101 ≡ 119 = ap (λ (name : List ℕ). get_or name 8 0) same in absurd (omega (arith, e))
part_own part.Allow number block same = let e : 108 ≡ 119 = ap (λ (name : List ℕ). get_or name 8 0) same in absurd (omega (arith, e))
part_own part.Post number block same = let e : 111 ≡ 119 = ap (λ (name : List ℕ). get_or name 8 0) same in absurd (omega (arith, e))

own_other : (one other : ℕ) (block : List ℕ) → one < 2 ^ 64 → other < 2 ^ 64 → own_name one block ≡ own_name other block → one ≡ other
own_other one other block small fits same =
    decimal_injective one other small fits
    (append_cancel_left (codes "filter_own") (decimal one) (decimal other)
    (append_cancel_right (codes "filter_own" ++ decimal one) (codes "filter_own" ++ decimal other) (codes "_")
    (append_cancel_right (codes "filter_own" ++ decimal one ++ codes "_") (codes "filter_own" ++ decimal other ++ codes "_") block same)))

part_whole : (part : Part) (block : List ℕ) → part_name part block ≢ block_name block
part_whole part.Pre block same = let e : 11 ≡ 7 = ap length (append_cancel_right (part_word part.Pre) (codes "filter_") block same) in absurd (omega (arith, e))
part_whole part.Log block same = let e : 11 ≡ 7 = ap length (append_cancel_right (part_word part.Log) (codes "filter_") block same) in absurd (omega (arith, e))
part_whole part.Deny block same = let e : 12 ≡ 7 = ap length (append_cancel_right (part_word part.Deny) (codes "filter_") block same) in absurd (omega (arith, e))
part_whole part.Allow block same = let e : 13 ≡ 7 = ap length (append_cancel_right (part_word part.Allow) (codes "filter_") block same) in absurd (omega (arith, e))
part_whole part.Post block same = let e : 12 ≡ 7 = ap length (append_cancel_right (part_word part.Post) (codes "filter_") block same) in absurd (omega (arith, e))

own_whole : (number : ℕ) (block : List ℕ) → own_name number block ≢ block_name block
own_whole number block same =
    let one : length (codes "filter_own" ++ decimal number ++ codes "_") ≡ length (codes "filter_own" ++ decimal number) + length (codes "_") = length-append (codes "filter_own" ++ decimal number) (codes "_") in
    let two : length (codes "filter_own" ++ decimal number) ≡ length (codes "filter_own") + length (decimal number) = length-append (codes "filter_own") (decimal number) in
    let ten : length (codes "filter_own") ≡ 10 = refl in
    let all : length (codes "filter_own" ++ decimal number ++ codes "_") ≡ 7 = ap length (append_cancel_right (codes "filter_own" ++ decimal number ++ codes "_") (codes "filter_") block same) in
    absurd (omega (arith, one, two, ten, all))

-- a name that a chain has isn't that of a later part, of the next number, or of the block
not_part : (block : List ℕ) (part : Part) (count : ℕ) (name : List ℕ) → IsTaken block (place part) count name → name ≢ part_name part block
not_part block part count name (of_part other before is) same = part_other other part block before (sym is ∙ same)
not_part block part count name (own number below small is) same = part_own part number block (sym same ∙ is)

not_own : (block : List ℕ) (parts count : ℕ) (name : List ℕ) → count < 2 ^ 64 → IsTaken block parts count name → name ≢ own_name count block
not_own block parts count name fits (of_part part before is) same = part_own part count block (sym is ∙ same)
not_own block parts count name fits (own number below small is) same =
    absurd (omega (arith, below, own_other number count block small fits (sym is ∙ same)))

not_whole : (block : List ℕ) (parts count : ℕ) (name : List ℕ) → IsTaken block parts count name → name ≢ block_name block
not_whole block parts count name (of_part part before is) same = part_whole part block (sym is ∙ same)
not_whole block parts count name (own number below small is) same = own_whole number block (sym is ∙ same)

taken_later : (block : List ℕ) (parts later count more : ℕ) (name : List ℕ) → parts ≤ later → count ≤ more → IsTaken block parts count name → IsTaken block later more name
taken_later block parts later count more name further longer (of_part part before is) = of_part part (omega (arith, before, further)) is
taken_later block parts later count more name further longer (own number below small is) = own number (omega (arith, below, longer)) small is

pub in_pushed : {A : Type 0} (item last : A) (items : List A) → IsIn item (items ++ last ∷ []) → IsIn item items ⊎ (last ≡ item)
in_pushed item last [] (inl same) = inr same
in_pushed item last [] (inr there) = absurd there
in_pushed item last (first ∷ others) (inl same) = inl (inl same)
in_pushed item last (first ∷ others) (inr there) = ⊎_elim (λ old. inl (inr old)) (λ same. inr same) (in_pushed item last others there)

pub in_place : {A : Type 0} (items : List A) (at : ℕ) (default : A) → at < length items → IsIn (get_or items at default) items
in_place [] at default within = absurd (omega (arith, within))
in_place (first ∷ others) zero default within = inl refl
in_place (first ∷ others) (suc at) default within = inr (in_place others at default (omega (arith, within)))

-- one more chain
named_more : (block : List ℕ) (parts later : ℕ) (chains : List Chain) (chain : Chain)
    → parts ≤ later
    → AreNamed block parts chains
    → IsTaken block later (suc (length chains)) chain.name
    → ((name : List ℕ) → IsTaken block parts (length chains) name → name ≢ chain.name)
    → AreNamed block later (chains ++ chain ∷ [])
named_more block parts later chains chain further named taken new = record {
  each = λ one there.
      ⊎_elim
      (λ old. taken_later block parts later (length chains) (length (chains ++ chain ∷ [])) one.name further (omega (arith, length-append chains (chain ∷ []))) (named.each one old))
      (λ same. subst (λ (it : Chain). IsTaken block later (length (chains ++ chain ∷ [])) it.name) same
      (taken_later block later later (suc (length chains)) (length (chains ++ chain ∷ [])) chain.name (omega arith) (omega (arith, length-append chains (chain ∷ []))) taken))
      (in_pushed one chain chains there);
  differ = all_pairs_push (λ one other. one.name ≢ other.name) chains chain named.differ
      (λ at default within. new (get_or chains at default).name (named.each (get_or chains at default) (in_place chains at default within)));
}

pub named_none : (block : List ℕ) (chains : List Chain) → chains ≡ [] → AreNamed block 0 chains
named_none block chains empty = subst (λ (list : List Chain). AreNamed block 0 list) (sym empty) (record {
  each = λ chain there. absurd there;
  differ = λ one other default before within. absurd (omega (arith, within));
})

-- a chain of its own
pub named_own : (block : List ℕ) (own_rules old_rules new_rules : List Rule) (old_chains new_chains : List Chain) (parts : ℕ)
    → HasOwn block own_rules old_rules new_rules old_chains new_chains
    → AreNamed block parts old_chains → AreNamed block parts new_chains
named_own block own_rules old_rules new_rules old_chains new_chains parts has named =
    subst (λ (list : List Chain). AreNamed block parts list) (sym has.chains)
    (named_more block parts parts old_chains (chain_named (own_name (length old_chains) block) own_rules) (omega arith) named
    (own (length old_chains) (omega arith) has.fits refl)
    (λ name taken. not_own block parts (length old_chains) name has.fits taken))

-- the chain of a part
pub named_part : (block : List ℕ) (part : Part) (name : List ℕ) (made : List Rule) (old_chains new_chains : List Chain)
    → name ≡ part_name part block
    → new_chains ≡ old_chains ++ chain_named name made ∷ []
    → AreNamed block (place part) old_chains → AreNamed block (suc (place part)) new_chains
named_part block part name made old_chains new_chains is are named =
    subst (λ (list : List Chain). AreNamed block (suc (place part)) list) (sym are)
    (named_more block (place part) (suc (place part)) old_chains (chain_named name made) (omega arith) named
    (of_part part (omega arith) is)
    (λ other taken same. not_part block part (length old_chains) other taken (same ∙ is)))

pub named_no_part : (block : List ℕ) (parts : ℕ) (chains : List Chain) → AreNamed block parts chains → AreNamed block (suc parts) chains
named_no_part block parts chains named = record {
  each = λ chain there. taken_later block parts (suc parts) (length chains) (length chains) chain.name (omega arith) (omega arith) (named.each chain there);
  differ = named.differ;
}

-- the block that a name tells

not_capital : (byte : ℕ) → is_ascii_digit byte ≡ true → is_ascii_uppercase byte ≡ false
not_capital byte is =
    let bounds = and_parts (nat_le 48 byte) (nat_le byte 57) is in
    ap (λ (b : Bool). b && nat_le byte 90) (lt-leb 65 byte (omega (arith, leb-true byte 57 bounds.1)))

pub past_digits : (digits behind : List ℕ) → all_ascii_digits digits ≡ true → block_of (digits ++ behind) ≡ block_of behind
past_digits [] behind are = refl
past_digits (byte ∷ bytes) behind are =
    let both = and_parts (is_ascii_digit byte) (all_ascii_digits bytes) are in
    ap (λ (b : Bool). if b then byte ∷ (bytes ++ behind) else block_of (bytes ++ behind)) (not_capital byte both.0) ∙ past_digits bytes behind both.1

pub digits : IsNumeralModel (λ text. all_ascii_digits text ≡ true) (digits_value 10)
digits = numerals_by_value (λ text. all_ascii_digits text ≡ true) tells_all_ascii_digits

part_tells : (part : Part) (block : List ℕ) → block_of (part_name part block) ≡ block_of block
part_tells part.Pre block = refl
part_tells part.Log block = refl
part_tells part.Deny block = refl
part_tells part.Allow block = refl
part_tells part.Post block = refl

name_tells : (block name : List ℕ) → IsNameOf block name → block_of name ≡ block_of block
name_tells block name (whole_name is) = ap block_of is
name_tells block name (part_of_block part is) = ap block_of is ∙ part_tells part block
name_tells block name (own_of_block number small is) = ap block_of is ∙ ap block_of (append_assoc (decimal number) (codes "_") block) ∙ past_digits (decimal number) (codes "_" ++ block) (digits_decimal digits number small)

is_name : (block : List ℕ) (parts count : ℕ) (name : List ℕ) → IsTaken block parts count name → IsNameOf block name
is_name block parts count name (of_part part before is) = part_of_block part is
is_name block parts count name (own number below small is) = own_of_block number small is

-- the whole block
pub names_differ : (block : List ℕ) (parts : ℕ) (called : List ℕ) (rules : List Rule) (chains all : List Chain)
    → AreNamed block parts chains
    → called ≡ block_name block
    → all ≡ chains ++ chain_named called rules ∷ []
    → NamesDiffer block all
names_differ block parts called rules chains all named is are =
    subst (λ (list : List Chain). NamesDiffer block list) (sym are) (record {
      each = each;
      told = λ one there. name_tells block one.name (each one there);
      differ = all_pairs_push (λ one other. one.name ≢ other.name) chains (chain_named called rules) named.differ
          (λ at default within same. not_whole block parts (length chains) (get_or chains at default).name (named.each (get_or chains at default) (in_place chains at default within)) (same ∙ is));
    })
  where
    each : (one : Chain) → IsIn one (chains ++ chain_named called rules ∷ []) → IsNameOf block one.name
    each one there =
        ⊎_elim (λ old. is_name block parts (length chains) one.name (named.each one old))
        (λ same. whole_name (ap (λ (it : Chain). it.name) (sym same) ∙ is))
        (in_pushed one (chain_named called rules) chains there)

-- chains of different blocks

tells_itself : (block : List ℕ) → IsBlock block → block_of block ≡ block
tells_itself block (of_zone name is) = subst (λ (it : List ℕ). block_of it ≡ it) (sym is) refl
tells_itself block (of_policy name is) = subst (λ (it : List ℕ). block_of it ≡ it) (sym is) refl

pub blocks_apart : AreBlocksApart
blocks_apart one other chains others is are apart named named_others chain another there there_too same =
    apart (sym (tells_itself one is) ∙ sym (named.told chain there) ∙ ap block_of same ∙ named_others.told another there_too ∙ tells_itself other are)
