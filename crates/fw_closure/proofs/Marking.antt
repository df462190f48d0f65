-- One service more is looked at: it is marked, or needn't be.
use Rattle.std.proofs.Common.{◌≡◌, ℕ, zero, suc, ◌+◌, ◌≤◌, ◌<◌, ◌⊎◌, inl, inr, Bool, true, false, List, [], ◌∷◌, ◌++◌, length, Some, slice_get, slice_set, refl, sym, ap, subst, ◌∙◌, arith}
use Rattle.std.proofs.lemmas.Bool.{cases_eq}
use Rattle.std.proofs.lemmas.List.{length-append}
use Rattle.std.proofs.lemmas.Option.{slice_get_within}
use Rattle.fw_closure.proofs.Members.{at_end, in_front, in_pushed, set_counts, set_keeps, set_marks, set_only}
use Rattle.fw_closure.specs.Marks.{HasMarked, IsMarked, IsNamed, unmarked}
use Rattle.fw_model.specs.declared.service.Service.{Service}
use Rattle.fw_zone.specs.Lists.{IsIn}

pub none_yet : (services : List Service) (names : List (List ℕ)) (marks : List Bool) (waiting : List ℕ) → HasMarked services names 0 marks marks waiting waiting
none_yet services names marks waiting = record {
  keeps = λ place is. is;
  marks = λ place bound named. absurd (omega arith);
  only = λ place is. inl is;
  waits = λ place found. inl found;
  stays = λ place found. found;
  work = omega arith;
}

pub one_passed : (services : List Service) (names : List (List ℕ)) (upto : ℕ) (old new : List Bool) (was now : List ℕ)
    → HasMarked services names upto old new was now → (IsNamed services names upto → IsMarked new upto) → HasMarked services names (upto + 1) old new was now
one_passed services names upto old new was now marked here = record {
  keeps = marked.keeps;
  marks = λ place bound named. elim (cases_eq place upto) [
    | inl same ↦ subst (λ (spot : ℕ). IsMarked new spot) (sym same) (here (subst (λ (spot : ℕ). IsNamed services names spot) same named))
    | inr differs ↦ marked.marks place (omega arith) named
  ];
  only = marked.only;
  waits = marked.waits;
  stays = marked.stays;
  work = marked.work;
}

pub one_marked : (services : List Service) (names : List (List ℕ)) (upto : ℕ) (old new : List Bool) (was now : List ℕ)
    → HasMarked services names upto old new was now → IsNamed services names upto → slice_get new upto ≡ Some false
    → HasMarked services names (upto + 1) old (slice_set new upto true) was (now ++ upto ∷ [])
one_marked services names upto old new was now marked named free =
    let bound : upto < length new = slice_get_within new upto false free in
    let is_marked : IsMarked (slice_set new upto true) upto = set_marks new upto bound in
    record {
      keeps = λ place is. set_keeps new upto place (marked.keeps place is);
      marks = λ place below called. elim (cases_eq place upto) [
        | inl same ↦ subst (λ (spot : ℕ). IsMarked (slice_set new upto true) spot) (sym same) is_marked
        | inr differs ↦ set_keeps new upto place (marked.marks place (omega arith) called)
      ];
      only = λ place is. elim (set_only new upto place is) [
        | inl before ↦ elim (marked.only place before) [ inl first ↦ inl first | inr found ↦ inr (found.0, in_front now (upto ∷ []) place found.1) ]
        | inr same ↦ inr (subst (λ (spot : ℕ). IsNamed services names spot) (sym same) named, subst (λ (spot : ℕ). IsIn spot (now ++ upto ∷ [])) (sym same) (at_end now upto))
      ];
      waits = λ place found. elim (in_pushed now upto place found) [
        | inl before ↦ elim (marked.waits place before) [ inl first ↦ inl first | inr is ↦ inr (set_keeps new upto place is) ]
        | inr same ↦ inr (subst (λ (spot : ℕ). IsMarked (slice_set new upto true) spot) same is_marked)
      ];
      stays = λ place found. in_front now (upto ∷ []) place (marked.stays place found);
      work = let counted = set_counts new upto free in let longer = length-append now (upto ∷ []) in let before = marked.work in omega arith;
    }
