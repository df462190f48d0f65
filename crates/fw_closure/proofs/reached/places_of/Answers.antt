-- A place more, where it is marked.
use Rattle.std.proofs.Common.{◌≡◌, ◌∙◌, ℕ, ◌+◌, ◌<◌, ◌∷◌, ◌++◌, Bool, List, [], true, false, refl, sym, ap, subst, Some, slice_get, Vec, Global, length}
use Rattle.std.proofs.lemmas.Option.{slice_get-get_or}
use Rattle.fw_closure.proofs.Places.{AreBelow, below_all, below_marked, below_none, below_passed}
use Rattle.fw_closure.specs.Marks.{IsMarked}
use Rattle.fw_closure.proofs.reached.places_of.Goals as goal
use Rattle.fw_closure.proofs.reached.places_of.Goals.{then-marks-place+in_ok-push, else-marks-place}

pub loop-place-init : goal.loop-place-init
loop-place-init c = subst (λ (places : List ℕ). AreBelow c.args.marks.now 0 places) (sym c.new-places.ensures.items) (below_none c.args.marks.now)

pub loop-place-preserved : goal.loop-place-preserved
loop-place-preserved c =
    let here = slice_get-get_or c.args.marks.now c.loop-place.place false c.loop-place-test.true in
    elim c.if-marks-place.branch [
      | then-marks-place+in_ok-push w ↦
          subst (λ (places : List ℕ). AreBelow c.args.marks.now (c.loop-place.place + 1) places)
          (sym (ap (λ (list : Vec ℕ Global). list.items) w.places-is ∙ w.in_ok-push.ensures.items))
          (below_marked c.args.marks.now c.loop-place.place c.loop-place.places.items c.loop-place.invariant (here ∙ ap Some w.if-marks-place.true))
      | else-marks-place w ↦
          subst (λ (places : List ℕ). AreBelow c.args.marks.now (c.loop-place.place + 1) places)
          (sym (ap (λ (list : Vec ℕ Global). list.items) w.places-is))
          (below_passed c.args.marks.now c.loop-place.place c.loop-place.places.items c.loop-place.invariant (λ is. let free = here ∙ ap Some w.if-marks-place.false in cc))
    ]

pub returns : goal.returns
returns c = below_all c.args.marks.now c.loop-place.place c.loop-place.places.items c.loop-place.invariant c.loop-place-test.false
