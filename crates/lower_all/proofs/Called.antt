-- What is found by a name has it, and stands in the list.
use Rattle.std.proofs.Common.{◌≡◌, ◌∙◌, ℕ, Bool, true, false, List, [], ◌∷◌, Some, inl, inr, refl, sym, ap}
use Rattle.std.proofs.lemmas.Slice.Eq.{bytes_eq-Decides}
use Rattle.std.specs.Prelude.{if◌then◌else◌}
use Rattle.std.specs.Str.{bytes_eq}
use Rattle.fw_zone.specs.Lists.{IsIn}
use Rattle.nf_sound.specs.Names.{called}

pub record IsCalled {T : Type 0} (name_of : T → List ℕ) (name : List ℕ) (items : List T) (item : T) : Type 0 where
  pub among : IsIn item items
  pub named : name_of item ≡ name

pub called_is : {T : Type 0} (name_of : T → List ℕ) (name : List ℕ) (items : List T) (item : T)
    → called name_of name items ≡ Some item → IsCalled name_of name items item
called_is name_of name [] item is = cc
called_is {T = T} name_of name (first ∷ others) item is = either (bytes_eq (name_of first) name) refl is (called_is name_of name others item)
  where
    either : (hit : Bool) → bytes_eq (name_of first) name ≡ hit → (if hit then Some first else called name_of name others) ≡ Some item
        → (called name_of name others ≡ Some item → IsCalled name_of name others item)
        → IsCalled name_of name (first ∷ others) item
    either true same found rest =
        let this : first ≡ item = cc in
        record { among = inl this; named = ap name_of (sym this) ∙ (bytes_eq-Decides (name_of first) name).0 same }
    either false other found rest =
        let later = rest found in
        record { among = inr later.among; named = later.named }
