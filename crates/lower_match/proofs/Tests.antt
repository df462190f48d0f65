-- Tests of lists that are mapped, put together and asked under a condition.
use Rattle.std.proofs.Common.{◌≡◌, ◌∙◌, Bool, true, false, ◌&&◌, ◌||◌, List, [], ◌∷◌, map, refl, ap}
use Rattle.std.proofs.lemmas.List.Folds.{list_any-append}
use Rattle.std.specs.List.{flat_map, list_any}

pub or_false : (b : Bool) → (b || false) ≡ b
or_false true = refl
or_false false = refl

pub and_true : (b : Bool) → (b && true) ≡ b
and_true true = refl
and_true false = refl

-- one of two under one condition
pub distributed : (one other condition : Bool) → ((one && condition) || (other && condition)) ≡ ((one || other) && condition)
distributed true other true = refl
distributed true true false = refl
distributed true false false = refl
distributed false other condition = refl

pub any_map : {A B : Type 0} (test : B → Bool) (of : A → B) (xs : List A) → list_any test (map of xs) ≡ list_any (λ x. test (of x)) xs
any_map test of [] = refl
any_map test of (x ∷ xs) = ap (λ (rest : Bool). test (of x) || rest) (any_map test of xs)

pub any_flat_map : {A B : Type 0} (test : B → Bool) (of : A → List B) (xs : List A) → list_any test (flat_map of xs) ≡ list_any (λ x. list_any test (of x)) xs
any_flat_map test of [] = refl
any_flat_map test of (x ∷ xs) =
    list_any-append test (of x) (flat_map of xs) ∙ ap (λ (rest : Bool). list_any test (of x) || rest) (any_flat_map test of xs)

pub any_same : {A : Type 0} (one other : A → Bool) → ((x : A) → one x ≡ other x) → (xs : List A) → list_any one xs ≡ list_any other xs
any_same one other same [] = refl
any_same one other same (x ∷ xs) =
    ap (λ (first : Bool). first || list_any one xs) (same x)
    ∙ ap (λ (rest : Bool). other x || rest) (any_same one other same xs)

none_holds : {A : Type 0} (xs : List A) → list_any (λ (x : A). false) xs ≡ false
none_holds [] = refl
none_holds (x ∷ xs) = none_holds xs

-- a condition before each test
pub any_under : {A : Type 0} (condition : Bool) (test : A → Bool) (xs : List A) → list_any (λ x. condition && test x) xs ≡ (condition && list_any test xs)
any_under true test xs = refl
any_under false test xs = none_holds xs

-- a condition behind each test
pub any_with : {A : Type 0} (condition : Bool) (test : A → Bool) (xs : List A) → list_any (λ x. test x && condition) xs ≡ (list_any test xs && condition)
any_with condition test [] = refl
any_with condition test (x ∷ xs) =
    ap (λ (rest : Bool). (test x && condition) || rest) (any_with condition test xs)
    ∙ distributed (test x) (list_any test xs) condition
