-- A part is put and taken at the place that a search by halves finds, and the order of names stays.
use Rattle.std.proofs.Common.{◌≡◌, ℕ, zero, suc, ◌+◌, ◌<◌, ◌≤◌, ◌⊎◌, inl, inr, true, false, cond, List, [], ◌∷◌, length, get_or, Option, None, Some, Result, Ok, Err, MatchResult, Ordering, refl, sym, ap, subst, ◌∙◌, arith, set, insert, remove}
use Rattle.std.specs.Cmp.Lexicographic.{slice_cmp}
use Rattle.std.specs.List.{All}
use Rattle.std.specs.List.Sorted.{IsBinarySearchResult, IsSearchInRange}
use Rattle.std.specs.Option.{option_map}
use Rattle.std.specs.Ordering.{is_eq, is_lt, nat_cmp, ordering_reverse}
use Rattle.std.specs.Str.{bytes_eq}
use Rattle.std.specs.declared.cmp.Ordering.TheVariants.{Less, Equal, Greater}
use Rattle.std.proofs.lemmas.Bool.{cases_lt}
use Rattle.std.proofs.lemmas.Cmp.{nat_list_cmp_total}
use Rattle.std.proofs.lemmas.List.Elements.{All-cons, All-head, All-tail}
use Rattle.std.proofs.lemmas.List.Kept.{AllPairs-cons}
use Rattle.std.proofs.lemmas.List.Quantifiers.{all_pairs_remove}
use Rattle.std.proofs.lemmas.List.Sorted.{searchable_from_sorted}
use Rattle.std.proofs.lemmas.Map.Text.{is_eq-slice_cmp}
use Rattle.std.proofs.lemmas.Slice.Eq.{bytes_eq-Decides}
use Rattle.nf_kernel.specs.Parts.{Lies, beside, delete, put}
use Rattle.nf_sound.specs.Names.{IsBefore, IsByName}

-- all names of a list are behind this one
abbrev AreBehind : {T : Type 0} → (T → List ℕ) → List ℕ → List T → Type 0
AreBehind name_of name items = All (λ item. IsBefore name (name_of item)) items

tail : {T : Type 0} (name_of : T → List ℕ) (item : T) (items : List T) → IsByName name_of (item ∷ items) → IsByName name_of items
tail name_of item items all = λ i j d before within. all (suc i) (suc j) d (omega arith) (omega arith)

head : {T : Type 0} (name_of : T → List ℕ) (item : T) (items : List T) → IsByName name_of (item ∷ items) → AreBehind name_of (name_of item) items
head name_of item items all = λ k d within. all 0 (suc k) d (omega arith) (omega arith)

same_name : (one name : List ℕ) → slice_cmp nat_cmp one name ≡ Equal → one ≡ name
same_name one name is = (bytes_eq-Decides one name).0 (sym (is_eq-slice_cmp one name) ∙ ap is_eq is)

other_name : (one name : List ℕ) (order : Ordering) → slice_cmp nat_cmp one name ≡ order → is_eq order ≡ false → bytes_eq one name ≡ false
other_name one name order is differs = sym (is_eq-slice_cmp one name) ∙ ap is_eq is ∙ differs

turned : (one other : List ℕ) → slice_cmp nat_cmp one other ≡ Greater → IsBefore other one
turned one other is = nat_list_cmp_total.antisymm other one ∙ ap ordering_reverse is

further : {T : Type 0} (name_of : T → List ℕ) (one other : List ℕ) (items : List T) → IsBefore one other → AreBehind name_of other items → AreBehind name_of one items
further name_of one other items before behind = λ k d within. nat_list_cmp_total.trans one other (name_of (get_or items k d)) before (behind k d within)

all_beside : {T : Type 0} (P : T → Type 0) (order : Ordering) (part first : T) (others rest : List T) → P part → All P (first ∷ others) → All P rest → All P (beside order part first others rest)
all_beside P Less part first others rest is all put_all = All-cons P first rest (All-head P first others all) put_all
all_beside P Equal part first others rest is all put_all = All-cons P part others is (All-tail P first others all)
all_beside P Greater part first others rest is all put_all = All-cons P part (first ∷ others) is all

-- what holds of a part and of all others holds of all with the part
all_put : {T : Type 0} (P : T → Type 0) (name_of : T → List ℕ) (part : T) (items : List T) → P part → All P items → All P (put name_of part items)
all_put P name_of part [] is all = All-cons P part [] is all
all_put P name_of part (first ∷ items) is all =
    all_beside P (slice_cmp nat_cmp (name_of first) (name_of part)) part first items (put name_of part items) is all (all_put P name_of part items is (All-tail P first items all))

by_name_beside : {T : Type 0} (name_of : T → List ℕ) (order : Ordering) (part first : T) (others : List T) → slice_cmp nat_cmp (name_of first) (name_of part) ≡ order → IsByName name_of (first ∷ others) → IsByName name_of (put name_of part others) → IsByName name_of (beside order part first others (put name_of part others))
by_name_beside name_of Less part first others is all put_by_name =
    AllPairs-cons (λ one other. IsBefore (name_of one) (name_of other)) first (put name_of part others) (all_put (λ item. IsBefore (name_of first) (name_of item)) name_of part others is (head name_of first others all)) put_by_name
by_name_beside name_of Equal part first others is all put_by_name =
    let same : name_of first ≡ name_of part = same_name (name_of first) (name_of part) is in
    AllPairs-cons (λ one other. IsBefore (name_of one) (name_of other)) part others (subst (λ name. AreBehind name_of name others) same (head name_of first others all)) (tail name_of first others all)
by_name_beside name_of Greater part first others is all put_by_name =
    let before : IsBefore (name_of part) (name_of first) = turned (name_of first) (name_of part) is in
    AllPairs-cons (λ one other. IsBefore (name_of one) (name_of other)) part (first ∷ others) (All-cons (λ item. IsBefore (name_of part) (name_of item)) first others before (further name_of (name_of part) (name_of first) others before (head name_of first others all))) all

-- the order of names stays where a part is put
pub by_name_put : {T : Type 0} (name_of : T → List ℕ) (part : T) (items : List T) → IsByName name_of items → IsByName name_of (put name_of part items)
by_name_put name_of part [] all = λ i j d before within. absurd (omega arith)
by_name_put name_of part (first ∷ others) all =
    by_name_beside name_of (slice_cmp nat_cmp (name_of first) (name_of part)) part first others refl all (by_name_put name_of part others (tail name_of first others all))

-- in the place of the one of its name
put_at : {T : Type 0} (name_of : T → List ℕ) (part : T) (items : List T) (place : ℕ) → IsByName name_of items → place < length items → ((d : T) → slice_cmp nat_cmp (name_of (get_or items place d)) (name_of part) ≡ Equal) → put name_of part items ≡ set items place part
put_at name_of part [] place all within is = absurd (omega (arith, within))
put_at name_of part (first ∷ others) zero all within is = rw (is part) refl
put_at name_of part (first ∷ others) (suc place) all within is =
    let same : name_of (get_or others place first) ≡ name_of part = same_name (name_of (get_or others place first)) (name_of part) (is first) in
    let before : IsBefore (name_of first) (name_of part) = subst (λ name. IsBefore (name_of first) name) same (all 0 (suc place) first (omega arith) within) in
    rw (before, put_at name_of part others place (tail name_of first others all) (omega (arith, within)) is) refl

-- before the first whose name is behind its own
put_into : {T : Type 0} (name_of : T → List ℕ) (part : T) (items : List T) (place : ℕ) → place ≤ length items
    → ((k : ℕ) (d : T) → k < place → slice_cmp nat_cmp (name_of (get_or items k d)) (name_of part) ≡ Less)
    → ((k : ℕ) (d : T) → place ≤ k → k < length items → slice_cmp nat_cmp (name_of (get_or items k d)) (name_of part) ≡ Greater)
    → put name_of part items ≡ insert items place part
put_into name_of part [] place within before behind = let none : place ≡ 0 = omega (arith, within) in rw none refl
put_into name_of part (first ∷ others) zero within before behind = rw (behind 0 first (omega arith) (omega arith)) refl
put_into name_of part (first ∷ others) (suc place) within before behind =
    rw (before 0 first (omega arith), put_into name_of part others place (omega (arith, within)) (λ k d low. before (suc k) d (omega (arith, low))) (λ k d low high. behind (suc k) d (omega (arith, low)) (omega (arith, high)))) refl

-- the part of a name goes from its place
delete_at : {T : Type 0} (name_of : T → List ℕ) (name : List ℕ) (items : List T) (place : ℕ) → IsByName name_of items → place < length items → ((d : T) → slice_cmp nat_cmp (name_of (get_or items place d)) name ≡ Equal) → delete name_of name items ≡ Some (remove items place)
delete_at name_of name [] place all within is = absurd (omega (arith, within))
delete_at name_of name (first ∷ others) zero all within is =
    let found : bytes_eq (name_of first) name ≡ true = sym (is_eq-slice_cmp (name_of first) name) ∙ ap is_eq (is first) in
    rw found refl
delete_at name_of name (first ∷ others) (suc place) all within is =
    let same : name_of (get_or others place first) ≡ name = same_name (name_of (get_or others place first)) name (is first) in
    let before : IsBefore (name_of first) name = subst (λ other. IsBefore (name_of first) other) same (all 0 (suc place) first (omega arith) within) in
    rw (other_name (name_of first) name Less before refl, delete_at name_of name others place (tail name_of first others all) (omega (arith, within)) is) refl

-- no part goes where none has that name
delete_none : {T : Type 0} (name_of : T → List ℕ) (name : List ℕ) (items : List T) → ((k : ℕ) (d : T) → k < length items → bytes_eq (name_of (get_or items k d)) name ≡ false) → delete name_of name items ≡ None
delete_none name_of name [] none = refl
delete_none name_of name (first ∷ others) none =
    rw (none 0 first (omega arith), delete_none name_of name others (λ k d within. none (suc k) d (omega (arith, within)))) refl

not_after : (one other : List ℕ) → IsBefore one other → is_lt (slice_cmp nat_cmp other one) ≡ false
not_after one other is =
    let after : slice_cmp nat_cmp other one ≡ Greater = nat_list_cmp_total.antisymm other one ∙ ap ordering_reverse is in
    ap is_lt after

-- what a search by halves finds
pub lies_from : {T : Type 0} (name_of : T → List ℕ) (name : List ℕ) (items : List T) (answer : Result ℕ ℕ) → IsByName name_of items → IsSearchInRange answer (length items) → IsBinarySearchResult (λ item. slice_cmp nat_cmp (name_of item) name) items answer → Lies name_of name items answer
lies_from name_of name items (Ok place) all within found = (within, found)
lies_from name_of name items (Err place) all within found =
    let parts = found (searchable_from_sorted nat_list_cmp_total name_of items name (λ k d low high. not_after (name_of (get_or items k d)) (name_of (get_or items (k + 1) d)) (all k (k + 1) d (omega arith) high))) in
    (within, λ k d low. parts.0 k d (omega arith) low, λ k d low high. parts.1 k d low high)

pub put_found : {T : Type 0} (name_of : T → List ℕ) (part : T) (items : List T) (place : ℕ) → IsByName name_of items → Lies name_of (name_of part) items (Ok place) → put name_of part items ≡ set items place part
put_found name_of part items place all lies = put_at name_of part items place all lies.0 lies.1

pub put_between : {T : Type 0} (name_of : T → List ℕ) (part : T) (items : List T) (place : ℕ) → Lies name_of (name_of part) items (Err place) → put name_of part items ≡ insert items place part
put_between name_of part items place lies = put_into name_of part items place lies.0 lies.1 lies.2

pub taken : {T : Type 0} (name_of : T → List ℕ) (name : List ℕ) (items : List T) (place : ℕ) → IsByName name_of items → Lies name_of name items (Ok place) → delete name_of name items ≡ Some (remove items place)
taken name_of name items place all lies = delete_at name_of name items place all lies.0 lies.1

differs : (one name : List ℕ) → ((slice_cmp nat_cmp one name ≡ Less) ⊎ (slice_cmp nat_cmp one name ≡ Greater)) → bytes_eq one name ≡ false
differs one name (inl before) = other_name one name Less before refl
differs one name (inr behind) = other_name one name Greater behind refl

pub absent : {T : Type 0} (name_of : T → List ℕ) (name : List ℕ) (items : List T) (place : ℕ) → Lies name_of name items (Err place) → delete name_of name items ≡ None
absent name_of name items place lies = delete_none name_of name items (λ k d within. differs (name_of (get_or items k d)) name (elim (cases_lt k place) [
  | inl before ↦ inl (lies.1 k d before)
  | inr behind ↦ inr (lies.2 k d behind within)
]))

pub by_name_without : {T : Type 0} (name_of : T → List ℕ) (items : List T) (place : ℕ) → place < length items → IsByName name_of items → IsByName name_of (remove items place)
by_name_without name_of items place within all = all_pairs_remove (λ one other. IsBefore (name_of one) (name_of other)) items place within all
