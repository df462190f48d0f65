-- Steps that didn't refuse.
use Rattle.std.proofs.Common.{◌≡◌, ℕ, Bool, true, false, if◌then◌else◌, List, [], ◌∷◌, map, Option, None, Some, Result, Ok, Err, inl, inr, refl}
use Rattle.std.proofs.lemmas.Bool.{false≢true, or_cases}
use Rattle.std.proofs.lemmas.Slice.Eq.{bytes_eq-Decides}
use Rattle.std.specs.List.{list_any}
use Rattle.std.specs.Str.{bytes_eq}
use Rattle.fw_act.specs.Acts.{found_or, refused, required, result_and_then}
use Rattle.fw_calls.specs.declared.reply.Refusal.{Refusal}
use Rattle.fw_model.specs.declared.code.Code.{Code}
use Rattle.fw_zone.specs.Lists.{IsIn}

abbrev pub ok : {X : Type 0} → X → Result X Refusal
ok x = Ok x

pub inner : {X : Type 0} (x y : X) → ok x ≡ ok y → x ≡ y
inner x y is = cc

-- the first step gave something, of which the second made what there is
pub then_ok : {X Y : Type 0} (next : X → Result Y Refusal) (step : Result X Refusal) (y : Y) → result_and_then next step ≡ Ok y → (x : X) × (step ≡ Ok x) × (next x ≡ Ok y)
then_ok next (Ok x) y is = (x, refl, is)
then_ok next (Err refusal) y is = cc

pub holds : (test : Bool) (code : Code) (subject : List ℕ) (done : Unit {0}) → required test code subject ≡ Ok done → test ≡ true
holds true code subject done is = refl
holds false code subject done is = cc

pub was_found : {X : Type 0} (code : Code) (subject : List ℕ) (found : Option X) (x : X) → found_or code subject found ≡ Ok x → found ≡ Some x
was_found code subject None x is = cc
was_found code subject (Some one) x is = cc

-- what passed a test
pub passed : {X : Type 0} (test : Bool) (code : Code) (subject : List ℕ) (one x : X) → (if test then ok one else refused code subject) ≡ Ok x → (test ≡ true) × (one ≡ x)
passed true code subject one x is = (refl, inner one x is)
passed false code subject one x is = cc

-- a name among those of some items
pub named_in : {A : Type 0} (name_of : A → List ℕ) (items : List A) (name : List ℕ) → list_any (λ item. bytes_eq (name_of item) name) items ≡ true → IsIn name (map name_of items)
named_in name_of [] name is = absurd (false≢true is)
named_in name_of (item ∷ items) name is = elim (or_cases (bytes_eq (name_of item) name) (list_any (λ item. bytes_eq (name_of item) name) items) is) [
  | inl here ↦ inl ((bytes_eq-Decides (name_of item) name).0 here)
  | inr there ↦ inr (named_in name_of items name there)
]
