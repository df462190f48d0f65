-- A service that is named and wasn't marked is marked, and waits; any other needn't be.
use Rattle.std.proofs.Common.{◌≡◌, ◌∙◌, ℕ, ◌+◌, ◌<◌, ◌∷◌, ◌++◌, Bool, List, [], true, false, refl, sym, ap, subst, Some, slice_get, slice_set, Vec, Global, length, arith}
use Rattle.std.proofs.lemmas.List.{length-set}
use Rattle.std.proofs.lemmas.Option.{slice_get_read}
use Rattle.fw_closure.proofs.Marking.{none_yet, one_marked, one_passed}
use Rattle.fw_closure.specs.Marks.{HasMarked, IsMarked, IsNamed}
use Rattle.fw_model.specs.declared.service.Service.{Service}
use Rattle.fw_zone.specs.Lists.{IsIn}
use Rattle.fw_closure.proofs.walk.mark.Goals as goal
use Rattle.fw_closure.proofs.walk.mark.Goals.{then-not-index+then-contains+in_ok-push, else-not-index, else-not-index-via-then-not-index+else-contains, else-not-index-via-else-not-index}

pub loop-place-init : goal.loop-place-init
loop-place-init c = record { length = c.requires; marked = none_yet c.args.services.now c.args.names.now c.args.reached.now.items c.args.waiting.now.items }

pub loop-place-preserved : goal.loop-place-preserved
loop-place-preserved c =
    let inside : c.loop-place.place < length c.loop-place.reached.items = omega arith in
    let mark = slice_get_read c.loop-place.reached.items (length c.loop-place.reached.items) c.loop-place.place c.index.result.now refl inside c.index.ensures in
    let passed : (IsNamed c.args.services.now c.args.names.now c.loop-place.place → IsMarked c.loop-place.reached.items c.loop-place.place)
    → HasMarked c.args.services.now c.args.names.now (c.loop-place.place + 1) c.args.reached.now.items c.loop-place.reached.items c.args.waiting.now.items c.loop-place.waiting.items
    = one_passed c.args.services.now c.args.names.now c.loop-place.place _ _ _ _ c.loop-place.invariant.marked in
    elim c.if-not-index.branch [
      | then-not-index+then-contains+in_ok-push w ↦
          let service = slice_get_read c.args.services.now (length c.args.services.now) c.loop-place.place w.index-services-place.result refl c.loop-place-test.true w.index-services-place.is in
          let marks = ap (λ (list : Vec Bool Global). list.items) w.reached-is in
          let waits = ap (λ (list : Vec ℕ Global). list.items) w.waiting-is ∙ w.in_ok-push.ensures.items in
          record {
            length = ap length marks ∙ length-set c.loop-place.reached.items c.loop-place.place true ∙ c.loop-place.invariant.length;
            marked =
                subst (λ (new : List Bool). HasMarked c.args.services.now c.args.names.now (c.loop-place.place + 1) c.args.reached.now.items new c.args.waiting.now.items c.if-not-index.waiting.items) (sym marks)
                (subst (λ (now : List ℕ). HasMarked c.args.services.now c.args.names.now (c.loop-place.place + 1) c.args.reached.now.items (slice_set c.loop-place.reached.items c.loop-place.place true) c.args.waiting.now.items now) (sym waits)
                (one_marked c.args.services.now c.args.names.now c.loop-place.place _ _ _ _ c.loop-place.invariant.marked
                (record { service = w.index-services-place.result; at = service; named = subst (λ (service : Service). IsIn service.name c.args.names.now) (sym w.index-services-place.is) (w.contains.ensures.0 w.if-contains.true) })
                (mark ∙ ap Some w.if-not-index.true)));
          }
      | else-not-index w ↦
          let marks = ap (λ (list : Vec Bool Global). list.items) w.reached-is in
          let waits = ap (λ (list : Vec ℕ Global). list.items) w.waiting-is in
          record {
            length = ap length marks ∙ c.loop-place.invariant.length;
            marked =
                subst (λ (new : List Bool). HasMarked c.args.services.now c.args.names.now (c.loop-place.place + 1) c.args.reached.now.items new c.args.waiting.now.items c.if-not-index.waiting.items) (sym marks)
                (subst (λ (now : List ℕ). HasMarked c.args.services.now c.args.names.now (c.loop-place.place + 1) c.args.reached.now.items c.loop-place.reached.items c.args.waiting.now.items now) (sym waits)
                (passed (elim w.else-not-index.branch [
                  | else-not-index-via-then-not-index+else-contains v ↦ λ named.
                      let service = slice_get_read c.args.services.now (length c.args.services.now) c.loop-place.place v.index-services-place.result refl c.loop-place-test.true v.index-services-place.is in
                      let same : named.service ≡ v.index-services-place.result = (let at = named.at in cc) in
                      let is = v.contains.ensures.1 (subst (λ (service : Service). IsIn service.name c.args.names.now) (same ∙ v.index-services-place.is) named.named) in
                      let is_not = v.if-contains.false in
                      absurd (cc)
                  | else-not-index-via-else-not-index v ↦ λ named. mark ∙ ap Some v.if-not-index.false
                ])));
          }
    ]
