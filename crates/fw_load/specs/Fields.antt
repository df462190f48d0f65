-- Objects with exactly the keys of a table, and lists. What is refused is told by the way to the first fault: from a value on, `.` (46)
-- and a key for each object, and the place of an element, from 0, in brackets (91 and 93) for each array, as in `.zones[2].ports[0]`.
use Rattle.std.specs.Prelude.{ℕ, suc, List, [], ◌∷◌, ◌++◌, Option, None, Some, Result, Ok, Err, decimal}
use Rattle.std.specs.Option.{ok_or}
use Rattle.std.specs.Ordering.{nat_cmp, match_ordering}
use Rattle.std.specs.Cmp.Lexicographic.{slice_cmp}
use Rattle.serde_json.specs.Data.{Data, Items, Members, item, member, no_items, no_members}
use Rattle.serde_json.specs.Find.{as_array, as_object, get}

infixl 10 ◌>>=◌
-- the second step, where the first one doesn't refuse
abbrev pub ◌>>=◌ : {X Y : Type 0} → Result X (List ℕ) → (X → Result Y (List ℕ)) → Result Y (List ℕ)
Ok x >>= step = step x
Err way >>= step = Err way

-- what is read behind a step of a way
abbrev pub behind : {T : Type 0} → List ℕ → Result T (List ℕ) → Result T (List ℕ)
behind step (Ok x) = Ok x
behind step (Err way) = Err (step ++ way)

-- a value that may be missing
abbrev pub found_by : {T : Type 0} → (Data → Result T (List ℕ)) → Option Data → Result T (List ℕ)
found_by reading None = Err []
found_by reading (Some value) = reading value

-- what stands under a key
unfoldable pub field : {T : Type 0} → (Data → Result T (List ℕ)) → List ℕ → Data → Result T (List ℕ)
field reading key value = behind (46 ∷ key) (found_by reading (get key value))

-- the keys of an object, in byte order
abbrev pub keys_in : Members → List (List ℕ)
keys_in no_members = []
keys_in (member key value members) = key ∷ keys_in members

-- the least key that only one of two lists in byte order has
abbrev pub stray : List (List ℕ) → List (List ℕ) → Option (List ℕ)
stray [] [] = None
stray [] (other ∷ others) = Some other
stray (key ∷ keys) [] = Some key
stray (key ∷ keys) (other ∷ others) = match_ordering (slice_cmp nat_cmp key other) (Some key) (stray keys others) (Some other)

abbrev pub none_stray : Option (List ℕ) → Result (Unit {0}) (List ℕ)
none_stray None = Ok tt
none_stray (Some key) = Err (46 ∷ key)

-- an object that has exactly these keys
unfoldable pub known : List (List ℕ) → Data → Result (Unit {0}) (List ℕ)
known keys value = ok_or (as_object value) [] >>= (λ members. none_stray (stray keys (keys_in members)))

-- elements in their order, from a place on
abbrev pub elements : {T : Type 0} → (Data → Result T (List ℕ)) → ℕ → Items → Result (List T) (List ℕ)
elements reading place no_items = Ok []
elements reading place (item value others) = do
  first ← behind (91 ∷ decimal place ++ 93 ∷ []) (reading value)
  rest ← elements reading (suc place) others
  Ok (first ∷ rest)

-- an array
unfoldable pub list_in : {T : Type 0} → (Data → Result T (List ℕ)) → Data → Result (List T) (List ℕ)
list_in reading value = ok_or (as_array value) [] >>= elements reading 0
