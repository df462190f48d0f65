-- The name at a place isn't among those behind it.
use Rattle.std.proofs.Common.{◌≡◌, ◌∙◌, ◌+◌, ◌-◌, ℕ, List, drop, length, map, refl, subst, sym, take}
use Rattle.std.proofs.lemmas.Bool.{false≢true}
use Rattle.std.proofs.lemmas.List.{take_rest}
use Rattle.std.proofs.lemmas.Option.{slice_get_read}
use Rattle.fw_broken.proofs.Lists.{map_drop, map_get, not_behind, once_more}
use Rattle.fw_zone.specs.Lists.{IsIn}
use Rattle.fw_broken.proofs.names.differ.Goals as goal

module _ {A : Type 0} (name_of : A → List ℕ) (items : List A) (place : ℕ) (item : A) where
  abbrev Behind : Type 0
  Behind = IsIn (name_of item) (drop (place + 1) (map name_of items))

  abbrev Found : List ℕ → Type 0
  Found name = IsIn name (map name_of (take (length items - (place + 1)) (drop (place + 1) items)))

  to_behind : (name : List ℕ) → name ≡ name_of item → Found name → Behind
  to_behind name is found =
      subst (IsIn (name_of item)) (map_drop name_of (place + 1) items)
      (subst (λ (rest : List A). IsIn (name_of item) (map name_of rest)) (take_rest items (place + 1)) (subst Found is found))

  from_behind : (name : List ℕ) → name ≡ name_of item → Behind → Found name
  from_behind name is found =
      subst Found (sym is) (subst (λ (rest : List A). IsIn (name_of item) (map name_of rest)) (sym (take_rest items (place + 1)))
      (subst (IsIn (name_of item)) (sym (map_drop name_of (place + 1) items)) found))

pub returns-then-has_name : goal.returns-then-has_name
returns-then-has_name g c =
    let name_of = g.T.Named.name_of in
    let items = c.args.items.now in
    let item = slice_get_read items (length items) c.loop-place.place c.index-items-place.result refl c.loop-place-test.true c.index-items-place.is in (
      (λ is. absurd (false≢true is)),
      (λ once. absurd (not_behind (map name_of items) c.loop-place.place _ once (map_get name_of items _ _ item)
          (to_behind name_of items c.loop-place.place c.index-items-place.result _ c.name.ensures (c.has_name.ensures.0 c.if-has_name.true)))),
    )

pub loop-place-preserved : goal.loop-place-preserved
loop-place-preserved g c =
    let name_of = g.T.Named.name_of in
    let items = c.args.items.now in
    let item = slice_get_read items (length items) c.loop-place.place c.index-items-place.result refl c.loop-place-test.true c.index-items-place.is in
    once_more (map name_of items) c.loop-place.place _ (map_get name_of items _ _ item) c.loop-place.invariant
    (λ found. absurd (false≢true (sym c.if-has_name.false ∙ c.has_name.ensures.1 (from_behind name_of items c.loop-place.place c.index-items-place.result _ c.name.ensures found))))
