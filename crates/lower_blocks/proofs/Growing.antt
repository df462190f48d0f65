-- Blocks that come behind others, one for each item of a list that passes a test.
use Rattle.std.proofs.Common.{◌≡◌, ◌∙◌, ℕ, ◌+◌, ◌<◌, List, [], ◌∷◌, ◌++◌, length, map, take, get_or, Bool, true, false, Result, Ok, Err, IfOk, refl, sym, ap, subst}
use Rattle.std.specs.Prelude.{if◌then◌else◌}
use Rattle.std.specs.List.{filter}
use Rattle.std.proofs.lemmas.List.{append_assoc, append-nil, map-append, take_more}
use Rattle.std.proofs.lemmas.List.Elements.{filter-append}
use Rattle.fw_model.specs.declared.config.Config.{Config}
use Rattle.lower_blocks.specs.Blocks.{AreBlock, AreBlocks, Behind, Told}
use Rattle.lower_blocks.specs.Blocks.AreBlocks.{one_more}
use Rattle.nf_rules.specs.declared.chain.Chain.{Chain}

pub all_three : {A E : Type 0} (P Q R S : A → Type 0) (result : Result A E)
    → ((value : A) → P value → Q value → R value → S value)
    → IfOk result P → IfOk result Q → IfOk result R → IfOk result S
all_three P Q R S (Ok value) gives p q r = gives value p q r
all_three P Q R S (Err error) gives p q r = _

-- what passes among the items so far and one more
kept_more : {A B : Type 0} (f : A → B) (passes : A → Bool) (xs : List A) (at : ℕ) (x : A) → at < length xs → x ≡ get_or xs at x
    → map f (filter passes (take (at + 1) xs)) ≡ map f (filter passes (take at xs)) ++ (if passes x then f x ∷ [] else [])
kept_more {A = A} f passes xs at x below is =
    ap (λ (list : List A). map f (filter passes list)) (take_more xs at x below)
    ∙ ap (map f) (filter-append passes (take at xs) (get_or xs at x ∷ []))
    ∙ map-append f (filter passes (take at xs)) (filter passes (get_or xs at x ∷ []))
    ∙ ap (λ (one : A). map f (filter passes (take at xs)) ++ map f (filter passes (one ∷ []))) (sym is)
    ∙ ap (λ list. map f (filter passes (take at xs)) ++ list) (alone (passes x))
  where
    alone : (b : Bool) → map f (if b then x ∷ [] else []) ≡ (if b then f x ∷ [] else [])
    alone true = refl
    alone false = refl

module _ {A : Type 0} (config : Config) (of : A → Told) (passes : A → Bool) (xs : List A) (at : ℕ) (x : A) (below : at < length xs) (is : x ≡ get_or xs at x)
    (first old new : List Chain) where
  -- its block was added
  pub told_more : (block : List Chain) → passes x ≡ true → AreBlock config (of x) block → new ≡ old ++ block
      → Behind config (map of (filter passes (take at xs))) first old
      → Behind config (map of (filter passes (take (at + 1) xs))) first new
  told_more block kept does added so_far told blocks =
      let more = map of (filter passes (take at xs)) in
      subst (λ (list : List Told). AreBlocks config (told ++ list) new) (sym (kept_more of passes xs at x below is ∙ ap (λ (b : Bool). more ++ (if b then of x ∷ [] else [])) kept))
      (subst (λ (list : List Told). AreBlocks config list new) (append_assoc told more (of x ∷ []))
      (subst (λ (chains : List Chain). AreBlocks config ((told ++ more) ++ of x ∷ []) chains) (sym added)
      (one_more (told ++ more) (of x) old block (so_far told blocks) does)))

  -- it doesn't pass
  pub told_not : passes x ≡ false → new ≡ old
      → Behind config (map of (filter passes (take at xs))) first old
      → Behind config (map of (filter passes (take (at + 1) xs))) first new
  told_not left_out same so_far told blocks =
      let more = map of (filter passes (take at xs)) in
      subst (λ (list : List Told). AreBlocks config (told ++ list) new)
      (sym (kept_more of passes xs at x below is ∙ ap (λ (b : Bool). more ++ (if b then of x ∷ [] else [])) left_out ∙ append-nil more))
      (subst (λ (chains : List Chain). AreBlocks config (told ++ more) chains) (sym same) (so_far told blocks))
