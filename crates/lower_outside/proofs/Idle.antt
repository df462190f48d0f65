-- Settings that have nothing on a side do nothing there.
use Rattle.std.proofs.Common.{◌≡◌, ◌==◌, ◌||◌, not, Bool, true, false, List, [], ◌∷◌, ◌++◌, length, map, refl, ap, arith}
use Rattle.std.specs.List.{flat_map, list_any}
use Rattle.std.proofs.lemmas.Bool.{eqb-true, or_parts}
use Rattle.fw_model.specs.declared.config.Config.{Config}
use Rattle.fw_model.specs.declared.rich.Rich.{Rich}
use Rattle.fw_order.specs.Order.{by_priority}
use Rattle.fw_verdict.specs.Changes.{ChangeItem}
use Rattle.fw_verdict.specs.Outside.{outside_items, placed_items, plain_items, port_item, stands_at}
use Rattle.fw_verdict.specs.declared.outside.Place.{Place}
use Rattle.fw_verdict.specs.declared.outside.Place.TheVariants as place
use Rattle.fw_verdict.specs.declared.sides.Side.TheVariants as side
use Rattle.lower_outside.specs.Needed.{OthersDoNothing}
use Rattle.lower_outside.proofs.Lists.{none_kept}

nothing_placed : (config : Config) (place : Place) (rules : List Rich) → list_any (stands_at place) rules ≡ false → placed_items config place rules ≡ []
nothing_placed config place rules is =
    ap (λ (list : List Rich). flat_map (outside_items config place) (by_priority list)) (none_kept (stands_at place) rules is)

holds : (b : Bool) → not b ≡ false → b ≡ true
holds true is = refl
holds false is = cc

empty : {A : Type 0} (xs : List A) → not (length xs == 0) ≡ false → xs ≡ []
empty [] is = refl
empty (x ∷ xs) is = absurd (omega (arith, eqb-true (length (x ∷ xs)) 0 (holds (length (x ∷ xs) == 0) is)))

three_empty : (one two three : List ChangeItem) → one ≡ [] → two ≡ [] → three ≡ [] → one ++ (two ++ three) ≡ []
three_empty one two three is is' is'' = rw (is, is', is'') refl

two_empty : (one two : List ChangeItem) → one ≡ [] → two ≡ [] → one ++ two ≡ []
two_empty one two is is' = rw (is, is') refl

pub do_nothing : OthersDoNothing
do_nothing config side.Marked rules is = nothing_placed config place.Marks rules.rich is
do_nothing config side.Translated rules is =
    let first = or_parts (not (length rules.forwards == 0)) (list_any (stands_at place.ForwardsBefore) rules.rich || list_any (stands_at place.ForwardsBehind) rules.rich) is in
    let second = or_parts (list_any (stands_at place.ForwardsBefore) rules.rich) (list_any (stands_at place.ForwardsBehind) rules.rich) first.1 in
    three_empty (placed_items config place.ForwardsBefore rules.rich) (map (port_item config) rules.forwards) (placed_items config place.ForwardsBehind rules.rich)
    (nothing_placed config place.ForwardsBefore rules.rich second.0)
    (ap (map (port_item config)) (empty rules.forwards first.0))
    (nothing_placed config place.ForwardsBehind rules.rich second.1)
do_nothing config side.Leaving rules is =
    let parts = or_parts rules.masquerade (list_any (stands_at place.Masquerades) rules.rich) is in
    two_empty (placed_items config place.Masquerades rules.rich) (plain_items config rules.masquerade)
    (nothing_placed config place.Masquerades rules.rich parts.1)
    (ap (plain_items config) parts.0)
