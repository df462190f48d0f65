-- The names of chains that were added.
use Rattle.std.proofs.Common.{◌≡◌, ◌∙◌, ℕ, ◌+◌, ◌<◌, List, [], ◌∷◌, ◌++◌, length, map, take, get_or, sym, ap, append_assoc, Bor}
use Rattle.std.proofs.lemmas.List.{map-append}
use Rattle.fw_order.specs.Borrowed.{lent}
use Rattle.lower_hooks.specs.Names.{names_of}
use Rattle.lower_hooks.proofs.Lists.{lent_more}
use Rattle.lower_zone.specs.Forms.{chain_named}
use Rattle.nf_rules.specs.declared.chain.Chain.{Chain}
use Rattle.nf_rules.specs.declared.rule.Rule.{Rule}

-- one chain more
pub named_one : (wanted name : List ℕ) (made : List Rule) (old new : List Chain)
    → new ≡ old ++ chain_named name made ∷ []
    → name ≡ wanted
    → names_of new ≡ names_of old ++ wanted ∷ []
named_one wanted name made old new are is =
    ap names_of are
    ∙ map-append (λ (chain : Chain). chain.name) old (chain_named name made ∷ [])
    ∙ ap (λ (one : List ℕ). names_of old ++ one ∷ []) is

-- one zone more
pub named_more : {A B : Type 0} (f : A → B) (all : List (Bor A)) (at : ℕ) (item : Bor A) (first before behind : List B)
    → at < length all → item ≡ get_or all at item
    → before ≡ first ++ map f (lent (take at all))
    → behind ≡ before ++ f item.now ∷ []
    → behind ≡ first ++ map f (lent (take (at + 1) all))
named_more f all at item first before behind below is so_far this =
    this
    ∙ ap (λ list. list ++ f item.now ∷ []) so_far
    ∙ append_assoc first (map f (lent (take at all))) (f item.now ∷ [])
    ∙ ap (λ list. first ++ list) (sym (map-append f (lent (take at all)) (item.now ∷ [])) ∙ ap (map f) (sym (lent_more all at item below is)))
