-- A reader's answer, with another reason for what isn't read.
use Rattle.std.proofs.Common.{◌≡◌, ◌∙◌, Option, Some, None, Result, Ok, Err, ap, sym, refl}
use Rattle.std.specs.Option.{ok_or}

taken : {X E : Type 0} → Result X E → Option X
taken (Ok x) = Some x
taken (Err e) = None

taken_back : {X E : Type 0} (found : Option X) (e : E) → taken (ok_or found e) ≡ found
unfolding taken
taken_back None e = refl
taken_back (Some x) e = refl

pub said_so : {X E F : Type 0} (found : Option X) (x : X) (e : E) (f : F) → Ok x ≡ ok_or found e → Ok x ≡ ok_or found f
unfolding taken
said_so found x e f is = ap (λ o. ok_or o f) (ap taken is ∙ taken_back found e)

pub said_not : {X E F : Type 0} (found : Option X) (d e : E) (f : F) → Err d ≡ ok_or found e → Err f ≡ ok_or found f
unfolding taken
said_not found d e f is = ap (λ o. ok_or o f) (ap taken is ∙ taken_back found e)

pub found_by : {X E : Type 0} (found : Option X) (x : X) (e : E) → Ok x ≡ ok_or found e → Some x ≡ found
unfolding taken
found_by found x e is = ap taken is ∙ taken_back found e

pub none_by : {X E : Type 0} (found : Option X) (d e : E) → Err d ≡ ok_or found e → None ≡ found
unfolding taken
none_by found d e is = ap taken is ∙ taken_back found e
