-- The walk from its start over each service that waits to its end.
use Rattle.std.proofs.Common.{◌≡◌, ◌∙◌, Bool, length, arith, ◌++◌, ◌∷◌, [], List, ℕ, ap, refl, subst, option_to_list}
use Rattle.std.proofs.lemmas.Grind.{common_steps}
use Rattle.std.proofs.lemmas.Result.{IfOk-weaker}
use Rattle.fw_closure.proofs.Members.{empty}
use Rattle.fw_closure.proofs.Walked.{Walked, waiting_within, walked_all, walked_start, walked_step}
use Rattle.fw_closure.specs.Marks.{ArePlaces}
use Rattle.fw_closure.proofs.reached.closure.Goals as goal

pub loop-place-init : goal.loop-place-init
loop-place-init c =
    walked_start c.args.services.now c.args.name.now _ _ _ _ _ c.in_ok-mark.ensures.marked (ap (λ (text : List ℕ). text ∷ []) c.in_ok-of.ensures) c.new-waiting.ensures.items c.in_ok-reached.ensures c.in_ok-mark.ensures.length

pub includes_of-includes-requires : goal.includes_of-includes-requires
includes_of-includes-requires c =
    waiting_within c.args.services.now c.args.name.now _ _ _ c.in-Some.place c.loop-place.invariant
    (c.pop.ensures.items ∙ ap (λ found. c.pop.new.self.items ++ option_to_list found) c.in-Some.is)

pub loop-place-preserved : goal.loop-place-preserved
loop-place-preserved c =
    walked_step c.args.services.now c.args.name.now _ _ _ _ _ _ c.in-Some.place c.loop-place.invariant
    (c.pop.ensures.items ∙ ap (λ found. c.pop.new.self.items ++ option_to_list found) c.in-Some.is)
    c.includes_of-includes.ensures c.in_ok-mark-2.ensures.marked c.in_ok-mark-2.ensures.length

pub returns : goal.returns
returns c =
    let none : length c.loop-place.waiting.items ≡ 0 = grind (arith, common_steps) in
    let walked = subst (λ (waiting : List ℕ). Walked c.args.services.now c.args.name.now c.loop-place.reached.items waiting) (empty c.loop-place.waiting.items none) c.loop-place.invariant in
    IfOk-weaker c.places_of.result _ _
    (λ places are. walked_all c.args.services.now c.args.name.now c.loop-place.reached.items places.items walked
    (subst (λ (marks : List Bool). ArePlaces marks places.items) c.deref.ensures.value are))
    c.places_of.ensures
