-- What a reader that refuses has found.
use Rattle.std.proofs.Common.{◌≡◌, Option, None, Some, Result, ap, ◌∙◌}
use Rattle.std.specs.Option.{ok_or}
use Rattle.std.specs.Result.{result_ok}

pub read_found : {A E : Type 0} (found : Option A) (refusal : E) (read : Result A E) (answer : Option A) → read ≡ ok_or found refusal → answer ≡ result_ok read → answer ≡ found
read_found None refusal read answer is given = given ∙ ap result_ok is
read_found (Some x) refusal read answer is given = given ∙ ap result_ok is
