-- Steps of which each may refuse, where none of them did.
use Rattle.std.proofs.Common.{◌≡◌, ◌∙◌, ℕ, Bool, true, false, List, Result, Ok, Err, refl, sym, ap}
use Rattle.fw_act.specs.Acts.{required, result_and_then}
use Rattle.fw_calls.specs.declared.reply.Refusal.{Refusal}
use Rattle.fw_model.specs.declared.code.Code.{Code}

-- both steps of two gave something
pub both : {X Y : Type 0} (found : Result X Refusal) (step : X → Result Y Refusal) (y : Y) → result_and_then step found ≡ Ok y → (x : X) × (found ≡ Ok x) × (step x ≡ Ok y)
both (Ok x) step y is = (x, refl, is)
both (Err refusal) step y is = cc

abbrev value_or : {X : Type 0} → X → Result X Refusal → X
value_or x (Ok made) = made
value_or x (Err refusal) = x

-- what was made is one
pub same_made : {X : Type 0} (one other : X) → (made : Result X Refusal) → made ≡ Ok one → made ≡ Ok other → one ≡ other
same_made one other made is_one is_other = sym (ap (value_or one) is_one) ∙ ap (value_or one) is_other

-- what has to hold, holds
pub holds : (test : Bool) (code : Code) (subject : List ℕ) (done : Unit {0}) → required test code subject ≡ Ok done → test ≡ true
holds true code subject done is = refl
holds false code subject done is = cc
