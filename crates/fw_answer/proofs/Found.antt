-- What a reader found, by what it answered.
use Rattle.std.proofs.Common.{◌≡◌, Option, None, Some, Result, Ok, Err, refl}
use Rattle.std.specs.Option.{ok_or}

pub some_from : {X E : Type 0} (found : Option X) (x : X) (error : E) → Ok x ≡ ok_or found error → found ≡ Some x
some_from None x error is = cc
some_from (Some y) x error is = cc

pub none_from : {X E : Type 0} (found : Option X) (answered error : E) → Err answered ≡ ok_or found error → found ≡ None
none_from None answered error is = refl
none_from (Some y) answered error is = cc
