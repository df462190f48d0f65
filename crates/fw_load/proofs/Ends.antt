-- What a reader of several parts, one after another, answers at each of them.
use Rattle.std.proofs.Common.{◌≡◌, ℕ, List, Result, Ok, Err, ap, sym, subst, ◌∙◌}
use Rattle.std.specs.Result.{IsErr, IsErrAnd}
use Rattle.fw_load.specs.Answers.{Says, Stops}
use Rattle.fw_load.specs.Fields.{◌>>=◌}
use Rattle.fw_load.specs.declared.stop.Stop.{Stop}
use Rattle.fw_load.specs.declared.stop.Stop.TheVariants as stop

-- the part stops
pub stops : {X Y : Type 0} (why : Stop) (part : Result X (List ℕ)) (step : X → Result Y (List ℕ)) → Stops why part → Stops why (part >>= step)
stops (stop.Fault way) part step is = ap (λ read. read >>= step) is
stops stop.Memory part step is = tt

-- what comes behind a part stops
pub goes_on : {X Y : Type 0} (why : Stop) (x : X) (part : Result X (List ℕ)) (step : X → Result Y (List ℕ)) → part ≡ Ok x → Stops why (step x) → Stops why (part >>= step)
goes_on (stop.Fault way) x part step is later = ap (λ read. read >>= step) is ∙ later
goes_on stop.Memory x part step is later = tt

-- all is read
pub reads : {X Y : Type 0} (x : X) (y : Y) (part : Result X (List ℕ)) (step : X → Result Y (List ℕ)) → part ≡ Ok x → step x ≡ Ok y → (part >>= step) ≡ Ok y
reads x y part step is later = ap (λ read. read >>= step) is ∙ later

-- so does a function that hands on why
pub hands_on : {X : Type 0} (result : Result X Stop) (why : Stop) (wanted : Result X (List ℕ)) → IsErr result × IsErrAnd result (λ other. other ≡ why) → Stops why wanted → Says result wanted
hands_on (Err other) why wanted is stopped = subst (λ some. Stops some wanted) (sym is.1) stopped
hands_on (Ok x) why wanted is stopped = cc
