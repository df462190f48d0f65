-- The places of marks, one after another.
use Rattle.std.proofs.Common.{◌≡◌, ℕ, zero, suc, ◌+◌, ◌≤◌, ◌<◌, ◌⊎◌, ◌↔◌, inl, inr, Bool, true, false, List, [], ◌∷◌, ◌++◌, length, get_or, Some, slice_get, refl, sym, ap, subst, ◌∙◌, arith}
use Rattle.std.proofs.lemmas.Bool.{cases_eq, cases_lt}
use Rattle.std.proofs.lemmas.List.{length-append}
use Rattle.std.specs.List.Sorted.{IsStrictlyIncreasing}
use Rattle.fw_closure.proofs.Members.{at_end, in_front, in_pushed}
use Rattle.std.proofs.lemmas.Option.{slice_get_within}
use Rattle.fw_closure.specs.Marks.{ArePlaces, IsMarked}
use Rattle.fw_zone.specs.Lists.{IsIn}

-- the places below one are those of the marks below it
pub record AreBelow (marks : List Bool) (upto : ℕ) (places : List ℕ) : Type 0 where
  pub exactly : (place : ℕ) → IsIn place places ↔ ((place < upto) × IsMarked marks place)
  pub ascending : IsStrictlyIncreasing places

read_front : (xs : List ℕ) (last place : ℕ) → place < length xs → get_or (xs ++ last ∷ []) place 0 ≡ get_or xs place 0
read_front [] last place bound = absurd (omega arith)
read_front (x ∷ xs) last zero bound = refl
read_front (x ∷ xs) last (suc place) bound = read_front xs last place (omega arith)

read_last : (xs : List ℕ) (last : ℕ) → get_or (xs ++ last ∷ []) (length xs) 0 ≡ last
read_last [] last = refl
read_last (x ∷ xs) last = read_last xs last

in_read : (xs : List ℕ) (place : ℕ) → place < length xs → IsIn (get_or xs place 0) xs
in_read [] place bound = absurd (omega arith)
in_read (x ∷ xs) zero bound = inl refl
in_read (x ∷ xs) (suc place) bound = inr (in_read xs place (omega arith))

ascending_pushed : (places : List ℕ) (last : ℕ) → IsStrictlyIncreasing places → ((place : ℕ) → IsIn place places → place < last) → IsStrictlyIncreasing (places ++ last ∷ [])
ascending_pushed places last rises below k bound =
    let longer = length-append places (last ∷ []) in
    let front : k < length places = omega arith in
    elim (cases_lt (k + 1) (length places)) [
      | inl inside ↦
          let this = read_front places last k front in
          let next = read_front places last (k + 1) inside in
          let order = rises k inside in
          omega arith
      | inr at_end ↦
          let this = read_front places last k front in
          let same : k + 1 ≡ length places = omega arith in
          let next = ap (λ spot. get_or (places ++ last ∷ []) spot 0) same ∙ read_last places last in
          let order = below (get_or places k 0) (in_read places k front) in
          omega arith
    ]

pub below_none : (marks : List Bool) → AreBelow marks 0 []
below_none marks = record {
  exactly = λ place. ((λ never. absurd never), (λ both. absurd (let bound = both.0 in omega arith)));
  ascending = λ k bound. absurd (omega arith);
}

pub below_marked : (marks : List Bool) (upto : ℕ) (places : List ℕ) → AreBelow marks upto places → IsMarked marks upto → AreBelow marks (upto + 1) (places ++ upto ∷ [])
below_marked marks upto places are here = record {
  exactly = λ place. (
    λ found. elim (in_pushed places upto place found) [
      | inl before ↦ let both = (are.exactly place).0 before in let bound = both.0 in (omega arith, both.1)
      | inr same ↦ (let equal : upto ≡ place = same in omega arith, subst (λ (spot : ℕ). IsMarked marks spot) same here)
    ],
    λ both. elim (cases_eq place upto) [
      | inl same ↦ subst (λ (spot : ℕ). IsIn spot (places ++ upto ∷ [])) (sym same) (at_end places upto)
      | inr differs ↦ in_front places (upto ∷ []) place ((are.exactly place).1 (let bound = both.0 in omega arith, both.1))
    ],
  );
  ascending = ascending_pushed places upto are.ascending (λ place found. ((are.exactly place).0 found).0);
}

pub below_passed : (marks : List Bool) (upto : ℕ) (places : List ℕ) → AreBelow marks upto places → ¬ (IsMarked marks upto) → AreBelow marks (upto + 1) places
below_passed marks upto places are free = record {
  exactly = λ place. (
    λ found. let both = (are.exactly place).0 found in let bound = both.0 in (omega arith, both.1),
    λ both. (are.exactly place).1 (elim (cases_eq place upto) [
      | inl same ↦ absurd (free (subst (λ (spot : ℕ). IsMarked marks spot) same both.1))
      | inr differs ↦ (let bound = both.0 in omega arith, both.1)
    ]),
  );
  ascending = are.ascending;
}

pub below_all : (marks : List Bool) (upto : ℕ) (places : List ℕ) → AreBelow marks upto places → length marks ≤ upto → ArePlaces marks places
below_all marks upto places are past = record {
  exactly = λ place. (
    λ found. ((are.exactly place).0 found).1,
    λ is. (are.exactly place).1 (let bound = slice_get_within marks place true is in omega arith, is),
  );
  ascending = are.ascending;
}
