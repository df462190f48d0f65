-- The names of a block's chains: no two of them are the same, and each tells its block.
use Rattle.std.proofs.Common.{◌≡◌, ◌≢◌, ◌∙◌, ◌<◌, ◌≤◌, ◌^◌, ◌+◌, ℕ, List, [], ◌∷◌, ◌++◌, length, get_or, refl, sym, ap, subst, arith, ⊎_elim}
use Rattle.std.specs.Prelude.{codes, decimal}
use Rattle.std.proofs.lemmas.Fmt.{decimal_injective, digits_decimal}
use Rattle.std.proofs.lemmas.List.{append_assoc, append_cancel_left, append_cancel_right, length-append}
use Rattle.std.proofs.lemmas.List.Quantifiers.{all_pairs_push}
use Rattle.fw_verdict.specs.declared.sides.Side.{Side}
use Rattle.fw_verdict.specs.declared.sides.Side.TheVariants as side
use Rattle.fw_zone.specs.Lists.{IsIn}
use Rattle.lower_outside.specs.Laws.{AreBlocksApart, IsBlock}
use Rattle.lower_outside.specs.Laws.IsBlock.{of_policy, of_zone}
use Rattle.lower_outside.specs.Names.{IsNameOf, NamesDiffer, block_name, front, own_name}
use Rattle.lower_outside.specs.Names.IsNameOf.{own as own_of_block, whole as whole_name}
use Rattle.lower_outside.specs.Work.{AreNamed, HasOwn, HasStep, IsTaken}
use Rattle.lower_outside.specs.Work.HasStep.{alone, own}
use Rattle.lower_outside.specs.declared.steps.Step.{Step}
use Rattle.lower_zone.specs.Forms.{chain_named}
use Rattle.lower_zone.specs.Names.{block_of}
use Rattle.lower_zone.proofs.Apart.{digits, in_place, in_pushed, past_digits}
use Rattle.nf_rules.specs.declared.chain.Chain.{Chain}
use Rattle.nf_rules.specs.declared.rule.Rule.{Rule}

own_other : (of : Side) (one other : ℕ) (block : List ℕ) → one < 2 ^ 64 → other < 2 ^ 64 → own_name of one block ≡ own_name of other block → one ≡ other
own_other of one other block small fits same =
    decimal_injective one other small fits
    (append_cancel_left (front of ++ codes "own") (decimal one) (decimal other)
    (append_cancel_right (front of ++ codes "own" ++ decimal one) (front of ++ codes "own" ++ decimal other) (codes "_")
    (append_cancel_right (front of ++ codes "own" ++ decimal one ++ codes "_") (front of ++ codes "own" ++ decimal other ++ codes "_") block same)))

own_whole : (of : Side) (number : ℕ) (block : List ℕ) → own_name of number block ≢ block_name of block
own_whole of number block same =
    let all : length (front of ++ codes "own" ++ decimal number ++ codes "_") ≡ length (front of) = ap length (append_cancel_right (front of ++ codes "own" ++ decimal number ++ codes "_") (front of) block same) in
    let one : length (front of ++ codes "own" ++ decimal number ++ codes "_") ≡ length (front of ++ codes "own" ++ decimal number) + length (codes "_") = length-append (front of ++ codes "own" ++ decimal number) (codes "_") in
    let two : length (front of ++ codes "own" ++ decimal number) ≡ length (front of ++ codes "own") + length (decimal number) = length-append (front of ++ codes "own") (decimal number) in
    let three : length (front of ++ codes "own") ≡ length (front of) + length (codes "own") = length-append (front of) (codes "own") in
    let four : length (codes "own") ≡ 3 = refl in
    absurd (omega (arith, all, one, two, three, four))

taken_later : (of : Side) (block : List ℕ) (count more : ℕ) (name : List ℕ) → count ≤ more → IsTaken of block count name → IsTaken of block more name
taken_later of block count more name longer taken = record {
  number = taken.number;
  below = omega (arith, taken.below, longer);
  fits = taken.fits;
  is = taken.is;
}

pub named_none : (of : Side) (block : List ℕ) → AreNamed of block []
named_none of block = record {
  each = λ chain there. absurd there;
  differ = λ one other default before within. absurd (omega (arith, within));
}

-- a chain of its own
named_own : (of : Side) (block : List ℕ) (own_rules old_rules new_rules : List Rule) (old_chains new_chains : List Chain)
    → HasOwn of block own_rules old_rules new_rules old_chains new_chains
    → AreNamed of block old_chains → AreNamed of block new_chains
named_own of block own_rules old_rules new_rules old_chains new_chains has named =
    subst (λ (list : List Chain). AreNamed of block list) (sym has.chains) (record {
      each = λ one there.
          ⊎_elim
          (λ old. taken_later of block (length old_chains) (length (old_chains ++ chain ∷ [])) one.name (omega (arith, more)) (named.each one old))
          (λ same. subst (λ (it : Chain). IsTaken of block (length (old_chains ++ chain ∷ [])) it.name) same
          (record { number = length old_chains; below = omega (arith, more); fits = has.fits; is = refl }))
          (in_pushed one chain old_chains there);
      differ = all_pairs_push (λ one other. one.name ≢ other.name) old_chains chain named.differ
          (λ at default within same.
          let taken = named.each (get_or old_chains at default) (in_place old_chains at default within) in
          absurd (omega (arith, taken.below, own_other of taken.number (length old_chains) block taken.fits has.fits (sym taken.is ∙ same))));
    })
  where
    chain : Chain
    chain = chain_named (own_name of (length old_chains) block) own_rules

    more : length (old_chains ++ chain ∷ []) ≡ length old_chains + 1
    more = length-append old_chains (chain ∷ [])

pub named_step : (of : Side) (block : List ℕ) (step : Step) (old_rules new_rules : List Rule) (old_chains new_chains : List Chain)
    → HasStep of block step old_rules new_rules old_chains new_chains
    → AreNamed of block old_chains → AreNamed of block new_chains
named_step of block step old_rules new_rules old_chains new_chains (alone either are same) named =
    subst (λ (list : List Chain). AreNamed of block list) (sym same) named
named_step of block step old_rules new_rules old_chains new_chains (own goes has) named =
    named_own of block _ old_rules new_rules old_chains new_chains has named

-- the block that a name tells
whole_tells : (of : Side) (block : List ℕ) → block_of (block_name of block) ≡ block_of block
whole_tells side.Marked block = refl
whole_tells side.Translated block = refl
whole_tells side.Leaving block = refl

own_tells : (of : Side) (number : ℕ) (block : List ℕ) → number < 2 ^ 64 → block_of (own_name of number block) ≡ block_of block
own_tells side.Marked number block small = ap block_of (append_assoc (decimal number) (codes "_") block) ∙ past_digits (decimal number) (codes "_" ++ block) (digits_decimal digits number small)
own_tells side.Translated number block small = ap block_of (append_assoc (decimal number) (codes "_") block) ∙ past_digits (decimal number) (codes "_" ++ block) (digits_decimal digits number small)
own_tells side.Leaving number block small = ap block_of (append_assoc (decimal number) (codes "_") block) ∙ past_digits (decimal number) (codes "_" ++ block) (digits_decimal digits number small)

name_tells : (of : Side) (block name : List ℕ) → IsNameOf of block name → block_of name ≡ block_of block
name_tells of block name (whole_name is) = ap block_of is ∙ whole_tells of block
name_tells of block name (own_of_block number small is) = ap block_of is ∙ own_tells of number block small

-- the whole block
pub names_differ : (of : Side) (block called : List ℕ) (rules : List Rule) (chains all : List Chain)
    → AreNamed of block chains
    → called ≡ block_name of block
    → all ≡ chains ++ chain_named called rules ∷ []
    → NamesDiffer of block all
names_differ of block called rules chains all named is are =
    subst (λ (list : List Chain). NamesDiffer of block list) (sym are) (record {
      each = each;
      told = λ one there. name_tells of block one.name (each one there);
      differ = all_pairs_push (λ one other. one.name ≢ other.name) chains (chain_named called rules) named.differ
          (λ at default within same.
          let taken = named.each (get_or chains at default) (in_place chains at default within) in
          own_whole of taken.number block (sym taken.is ∙ same ∙ is));
    })
  where
    each : (one : Chain) → IsIn one (chains ++ chain_named called rules ∷ []) → IsNameOf of block one.name
    each one there =
        ⊎_elim
        (λ old. (let taken = named.each one old in own_of_block taken.number taken.fits taken.is))
        (λ same. whole_name (ap (λ (it : Chain). it.name) (sym same) ∙ is))
        (in_pushed one (chain_named called rules) chains there)

-- chains of different blocks
tells_itself : (of : Side) (block : List ℕ) → IsBlock of block → block_of block ≡ block
tells_itself side.Marked block (of_zone name is) = subst (λ (it : List ℕ). block_of it ≡ it) (sym is) refl
tells_itself side.Translated block (of_zone name is) = subst (λ (it : List ℕ). block_of it ≡ it) (sym is) refl
tells_itself side.Leaving block (of_zone name is) = subst (λ (it : List ℕ). block_of it ≡ it) (sym is) refl
tells_itself side.Marked block (of_policy name is) = subst (λ (it : List ℕ). block_of it ≡ it) (sym is) refl
tells_itself side.Translated block (of_policy name is) = subst (λ (it : List ℕ). block_of it ≡ it) (sym is) refl
tells_itself side.Leaving block (of_policy name is) = subst (λ (it : List ℕ). block_of it ≡ it) (sym is) refl

pub blocks_apart : AreBlocksApart
blocks_apart of on one other chains others is are apart named named_others chain another there there_too same =
    apart (sym (tells_itself of one is) ∙ sym (named.told chain there) ∙ ap block_of same ∙ named_others.told another there_too ∙ tells_itself on other are)
