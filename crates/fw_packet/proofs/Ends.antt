-- What a reading that was answered found, and that one which was refused found nothing.
use Rattle.std.proofs.Common.{◌≡◌, Option, None, Some, Ok, Err, refl}
use Rattle.std.specs.Option.{ok_or}

pub found_by : {A E : Type 0} (found : Option A) (refusal : E) (x : A) → Ok x ≡ ok_or found refusal → found ≡ Some x
found_by None refusal x answered = cc
found_by (Some y) refusal x answered = cc

pub none_by : {A E : Type 0} (found : Option A) (refusal e : E) → Err e ≡ ok_or found refusal → found ≡ None
none_by None refusal e answered = refl
none_by (Some y) refusal e answered = cc
