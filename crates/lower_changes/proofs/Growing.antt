-- Lists that grow by what the next item gives.
use Rattle.std.proofs.Common.{◌≡◌, ◌∙◌, ◌<◌, ◌+◌, ℕ, List, [], ◌∷◌, ◌++◌, length, get_or, map, take, Bor, sym, ap, subst}
use Rattle.std.specs.List.{flat_map}
use Rattle.std.proofs.lemmas.List.{append_assoc, append-nil, map-append, take_more}
use Rattle.std.proofs.lemmas.List.Concat.{flat_map-append}
use Rattle.fw_model.specs.declared.config.Config.{Config}
use Rattle.fw_order.specs.Borrowed.{lent}
use Rattle.fw_verdict.specs.declared.sides.Side.{Side}
use Rattle.lower_blocks.specs.Blocks.{Told}
use Rattle.lower_changes.specs.Blocks.{AreBlocks, Behind, IsBlock}
use Rattle.lower_changes.specs.Blocks.AreBlocks.{one_more}
use Rattle.lower_zone.proofs.Items.{flat_more, map_more}
use Rattle.nf_rules.specs.declared.chain.Chain.{Chain}

pub behind_nothing : (config : Config) (of : Side) (chains : List Chain) → Behind config of [] chains chains
behind_nothing config of chains told blocks = subst (λ (list : List Told). AreBlocks config of list chains) (sym (append-nil told)) blocks

pub behind_both : (config : Config) (of : Side) (one other : List Told) (old between new : List Chain)
    → Behind config of one old between → Behind config of other between new → Behind config of (one ++ other) old new
behind_both config of one other old between new first second told blocks =
    subst (λ (list : List Told). AreBlocks config of list new) (append_assoc told one other) (second (told ++ one) (first told blocks))

pub behind_block : (config : Config) (of : Side) (one : Told) (block old new : List Chain)
    → IsBlock config of one block → new ≡ old ++ block → Behind config of (one ∷ []) old new
behind_block config of one block old new is are told blocks =
    subst (λ (chains : List Chain). AreBlocks config of (told ++ one ∷ []) chains) (sym are) (one_more told one old block blocks is)

-- what a list of references gives, and one more
pub added_more : {A B : Type 0} (f : A → List B) (xs : List (Bor A)) (at : ℕ) (x : Bor A) (first old new : List B) → at < length xs → x ≡ get_or xs at x
    → old ≡ first ++ flat_map f (lent (take at xs)) → new ≡ old ++ f x.now → new ≡ first ++ flat_map f (lent (take (at + 1) xs))
added_more f xs at x first old new below is so_far added =
    added
    ∙ ap (λ list. list ++ f x.now) so_far
    ∙ append_assoc first (flat_map f (lent (take at xs))) (f x.now)
    ∙ ap (λ list. first ++ list) (sym (flat_more f xs at x below is))

pub mapped_more : {A B : Type 0} (f : A → B) (xs : List (Bor A)) (at : ℕ) (x : Bor A) (first old new : List B) → at < length xs → x ≡ get_or xs at x
    → old ≡ first ++ map f (lent (take at xs)) → new ≡ old ++ f x.now ∷ [] → new ≡ first ++ map f (lent (take (at + 1) xs))
mapped_more {A = A} f xs at x first old new below is so_far added =
    added
    ∙ ap (λ list. list ++ f x.now ∷ []) so_far
    ∙ append_assoc first (map f (lent (take at xs))) (f x.now ∷ [])
    ∙ ap (λ list. first ++ list) (sym (ap (map f) (map_more (λ (one : Bor A). one.now) xs at x below is) ∙ map-append f (lent (take at xs)) (x.now ∷ [])))

pub flat_one_more : {A B : Type 0} (f : A → List B) (xs : List A) (at : ℕ) (x : A) → at < length xs → x ≡ get_or xs at x
    → flat_map f (take (at + 1) xs) ≡ flat_map f (take at xs) ++ f x
flat_one_more f xs at x below is =
    ap (flat_map f) (take_more xs at x below)
    ∙ flat_map-append f (take at xs) (get_or xs at x ∷ [])
    ∙ ap (λ one. flat_map f (take at xs) ++ (f one ++ [])) (sym is)
    ∙ ap (λ rest. flat_map f (take at xs) ++ rest) (append-nil (f x))
