-- The numbers of new objects, by those of old ones.
use Rattle.std.proofs.Common.{◌≡◌, ◌∙◌, ◌⊎◌, inl, inr, ℕ, ◌+◌, ◌<◌, ◌≤◌, List, [], ◌∷◌, ◌++◌, length, map, fold, Option, None, Some, position, slice_get, get_or, refl, sym, ap, subst, arith}
use Rattle.std.proofs.lemmas.List.Quantifiers.{position-Some}
use Rattle.std.proofs.lemmas.List.{append-nil, append_assoc, length-append}
use Rattle.std.proofs.lemmas.Slice.Eq.{bytes_eq-Decides}
use Rattle.std.specs.Str.{bytes_eq}
use Rattle.fw_config_valid.proofs.Numbers.{numbers_pushed}
use Rattle.fw_rich_valid.proofs.Saying.{some_then}
use Rattle.fw_root_members.specs.Numbering.{behind, number_of, numbered, with_number}
use Rattle.fw_root_members.specs.declared.numbering.Numbers.{Numbers}
use Rattle.fw_roots_valid.proofs.Lists.{behind_apart, last_at, still_at}
use Rattle.fw_settings.specs.Valid.{AreNumbers, last_number}
use Rattle.fw_times_valid.proofs.Kept.{in_list}
use Rattle.fw_valid.specs.Each.{IsWithoutRepeats}
use Rattle.fw_valid_edits.proofs.Edited.{each_in, each_pushed}
use Rattle.fw_valid_edits.proofs.Entries.{pushed_at, stands}
use Rattle.fw_zone.specs.Lists.{IsIn}

-- a number that is below the next one, or stays the last
abbrev IsBelow : (next number : ℕ) → Type 0
IsBelow next number = (number < next) ⊎ ((number ≡ last_number) × (next ≡ last_number))

pub behind_within : (next : ℕ) → behind next ≤ last_number
behind_within next = grind arith

behind_grows : (next : ℕ) → next ≤ last_number → next ≤ behind next
behind_grows next most = grind arith

raised : (next more number : ℕ) → next ≤ more → more ≤ last_number → IsBelow next number → IsBelow more number
raised next more number grown most (inl less) = inl (omega arith)
raised next more number grown most (inr (same, last)) = inr (same, omega (arith, last))

-- a number from the next one on is none of those below it, but for the last
not_below : (next number : ℕ) → next ≤ number → number < last_number → IsBelow next number → ⊥
not_below next number from low (inl less) = omega arith
not_below next number from low (inr (same, last)) = omega (arith, same)

module _ {T : Type 0} (name_of : T → List ℕ) (objects : List T) (numbers : List ℕ) where
  -- the place of the object of a name, and its number
  number_there : (name : List ℕ) (number : ℕ) → number_of name_of objects numbers name ≡ Some number
      → (place : ℕ) × (position (λ (object : T). bytes_eq (name_of object) name) objects ≡ Some place) × (slice_get numbers place ≡ Some number)
  number_there name number is = some_then _ (position (λ (object : T). bytes_eq (name_of object) name) objects) number is

  -- objects at one place have one name
  one_name : (name other : List ℕ) (place : ℕ) (object : T) → position (λ (object : T). bytes_eq (name_of object) name) objects ≡ Some place
      → position (λ (object : T). bytes_eq (name_of object) other) objects ≡ Some place → name ≡ other
  one_name name other place object is also =
      let first = position-Some (λ (object : T). bytes_eq (name_of object) name) objects place object is in
      let second = position-Some (λ (object : T). bytes_eq (name_of object) other) objects place object also in
      sym ((bytes_eq-Decides (name_of (get_or objects place object)) name).0 first.1) ∙ (bytes_eq-Decides (name_of (get_or objects place object)) other).0 second.1

  -- a new object has the number of the object of its name
  record IsOf (done : List T) (place number : ℕ) : Type 0 where
    object : T
    at : slice_get done place ≡ Some object
    named : number_of name_of objects numbers (name_of object) ≡ Some number

  -- the numbers of the new objects so far
  record AreSoFar (next : ℕ) (done : List T) (so_far : Numbers) : Type 0 where
    are : AreNumbers (length done) so_far.numbers so_far.next
    most : so_far.next ≤ last_number
    grown : next ≤ so_far.next
    known : (place number : ℕ) → slice_get so_far.numbers place ≡ Some number → (next ≤ number) ⊎ IsOf done place number

  module _ (next : ℕ) (old : AreNumbers (length objects) numbers next) where
    was_below : (name : List ℕ) (number : ℕ) → number_of name_of objects numbers name ≡ Some number → IsBelow next number
    was_below name number is = let there = number_there name number is in each_in (IsBelow next) numbers number old.below (stands numbers there.0 number there.2)

    known_still : (done : List T) (object : T) (place number : ℕ) → ((next ≤ number) ⊎ IsOf done place number) → (next ≤ number) ⊎ IsOf (done ++ object ∷ []) place number
    known_still done object place number (inl from) = inl from
    known_still done object place number (inr of) = inr (record { object = of.object; at = still_at done (object ∷ []) place of.object of.at; named = of.named })

    -- no new object has the number of another yet
    clash : (done : List T) (so_far : Numbers) (object : T) (number place : ℕ) → AreSoFar next done so_far → ¬ (IsIn (name_of object) (map name_of done))
        → number_of name_of objects numbers (name_of object) ≡ Some number → slice_get so_far.numbers place ≡ Some number → number < last_number → ⊥
    clash done so_far object number place is fresh named at low = by (is.known place number at)
      where
        by : ((next ≤ number) ⊎ IsOf done place number) → ⊥
        by (inl from) = not_below next number from low (was_below (name_of object) number named)
        by (inr of) =
            let here = number_there (name_of object) number named in
            let there = number_there (name_of of.object) number of.named in
            let same = old.differ there.0 here.0 number there.2 here.2 low in
            let one = one_name (name_of of.object) (name_of object) here.0 object
            (subst (λ (place : ℕ). position (λ (other : T). bytes_eq (name_of other) (name_of of.object)) objects ≡ Some place) same there.1) here.1 in
            fresh (subst (λ (name : List ℕ). IsIn name (map name_of done)) one (in_list name_of done of.object (stands done place of.object of.at)))

    one_longer : {A : Type 0} (items : List A) (item : A) → length (items ++ item ∷ []) ≡ length items + 1
    one_longer items item = length-append items (item ∷ [])

    step : (done : List T) (so_far : Numbers) (object : T) (found : Option ℕ) → AreSoFar next done so_far → ¬ (IsIn (name_of object) (map name_of done))
        → number_of name_of objects numbers (name_of object) ≡ found → AreSoFar next (done ++ object ∷ []) (with_number so_far found)
    step done so_far object None is fresh named = record {
      are = numbers_pushed done object so_far.numbers so_far.next is.most is.are;
      most = behind_within so_far.next;
      grown = let more = behind_grows so_far.next is.most in let from = is.grown in omega (arith, more, from);
      known = λ place number at. by place number (pushed_at so_far.numbers so_far.next place number at);
    }
      where
        by : (place number : ℕ) → ((slice_get so_far.numbers place ≡ Some number) ⊎ ((place ≡ length so_far.numbers) × (so_far.next ≡ number))) → (next ≤ number) ⊎ IsOf (done ++ object ∷ []) place number
        by place number (inl before) = known_still done object place number (is.known place number before)
        by place number (inr (last, same)) = inl (subst (λ (number : ℕ). next ≤ number) same is.grown)
    step done so_far object (Some number) is fresh named = record {
      are = record {
        each = one_longer so_far.numbers number ∙ (ap (λ count. count + 1) is.are.each ∙ sym (one_longer done object));
        below = each_pushed (IsBelow so_far.next) so_far.numbers number is.are.below (raised next so_far.next number is.grown is.most (was_below (name_of object) number named));
        differ = λ one other n at_one at_other low. apart one other n low (pushed_at so_far.numbers number one n at_one) (pushed_at so_far.numbers number other n at_other);
      };
      most = is.most;
      grown = is.grown;
      known = λ place n at. by place n (pushed_at so_far.numbers number place n at);
    }
      where
        meets : (place n : ℕ) → slice_get so_far.numbers place ≡ Some n → number ≡ n → n < last_number → ⊥
        meets place n at same low =
            clash done so_far object n place is fresh (subst (λ (n : ℕ). number_of name_of objects numbers (name_of object) ≡ Some n) same named) at low

        apart : (one other n : ℕ) → n < last_number → ((slice_get so_far.numbers one ≡ Some n) ⊎ ((one ≡ length so_far.numbers) × (number ≡ n)))
            → ((slice_get so_far.numbers other ≡ Some n) ⊎ ((other ≡ length so_far.numbers) × (number ≡ n))) → one ≡ other
        apart one other n low (inl here) (inl there) = is.are.differ one other n here there low
        apart one other n low (inl here) (inr there) = absurd (meets one n here there.1 low)
        apart one other n low (inr here) (inl there) = absurd (meets other n there here.1 low)
        apart one other n low (inr here) (inr there) = here.0 ∙ sym there.0

        by : (place n : ℕ) → ((slice_get so_far.numbers place ≡ Some n) ⊎ ((place ≡ length so_far.numbers) × (number ≡ n))) → (next ≤ n) ⊎ IsOf (done ++ object ∷ []) place n
        by place n (inl before) = known_still done object place n (is.known place n before)
        by place n (inr (last, same)) = inr (record {
          object = object;
          at = subst (λ (place : ℕ). slice_get (done ++ object ∷ []) place ≡ Some object) (sym (last ∙ is.are.each)) (last_at done object);
          named = subst (λ (n : ℕ). number_of name_of objects numbers (name_of object) ≡ Some n) same named;
        })

    all_steps : (rest done : List T) (so_far : Numbers) → AreSoFar next done so_far → IsWithoutRepeats (map name_of (done ++ rest))
        → AreSoFar next (done ++ rest) (fold (λ so_far object. with_number so_far (number_of name_of objects numbers (name_of object))) so_far rest)
    all_steps [] done so_far is once = subst (λ (all : List T). AreSoFar next all so_far) (sym (append-nil done)) is
    all_steps (object ∷ rest) done so_far is once =
        let number = number_of name_of objects numbers (name_of object) in
        let again = append_assoc done (object ∷ []) rest in
        let all = fold (λ so_far object. with_number so_far (number_of name_of objects numbers (name_of object))) (with_number so_far number) rest in
        subst (λ (items : List T). AreSoFar next items all) again
        (all_steps rest (done ++ object ∷ []) (with_number so_far number) (step done so_far object number is (behind_apart name_of done object rest once) refl)
        (subst (λ (items : List T). IsWithoutRepeats (map name_of items)) (sym again) once))

    -- new objects of different names are numbered, each below the next number
    pub numbered_are : (new : List T) → next ≤ last_number → IsWithoutRepeats (map name_of new)
        → AreNumbers (length new) (numbered name_of objects numbers next new).numbers (numbered name_of objects numbers next new).next
        × ((numbered name_of objects numbers next new).next ≤ last_number)
    numbered_are new most once =
        let all = all_steps new [] (record { numbers = []; next = next }) (record {
          are = record { each = refl; below = tt; differ = λ one other number at. cc };
          most = most;
          grown = omega arith;
          known = λ place number at. cc;
        }) once in
        (all.are, all.most)
