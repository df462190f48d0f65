-- Pieces written one behind the other are written as one.
use Rattle.std.proofs.Common.{◌≡◌, ℕ, ◌+◌, List, ◌++◌, length, take, Option, None, Some, Result, Ok, Err, sym, ap, ◌∙◌, append_assoc, arith, length-append}
use Rattle.std.proofs.Math.Seq.{take-append-add}
use Rattle.std.specs.Option.{option_map}
use Rattle.fw_base.specs.Streams.{Writes}
use Rattle.fw_base.specs.declared.source.Failed.{Failed}

held-more : (a b : List ℕ) (before now after : Option (List ℕ)) → now ≡ option_map (λ held. held ++ a) before → after ≡ option_map (λ held. held ++ b) now → after ≡ option_map (λ held. held ++ (a ++ b)) before
held-more a b None now after first second = second ∙ ap (option_map (λ held. held ++ b)) first
held-more a b (Some held) now after first second = second ∙ ap (option_map (λ held. held ++ b)) first ∙ ap Some (append_assoc held a b)

pub writes-behind : (result : Result (Unit {0}) Failed) (a b : List ℕ) (before now after : Option (List ℕ)) (done : Unit {0}) → Writes {E = Failed} before now (Ok done) a → Writes now after result b → Writes before after result (a ++ b)
writes-behind (Ok ok) a b before now after done first second = record { whole = held-more a b before now after first.whole second.whole; front = tt }
writes-behind (Err fault) a b before now after done first second = record {
  whole = tt;
  front = (
    length a + second.front.0,
    omega (arith, length-append a b, second.front.1),
    held-more a (take second.front.0 b) before now after first.whole second.front.2 ∙ ap (λ (front : List ℕ). option_map (λ held. held ++ front) before) (sym (take-append-add a b second.front.0)),
  );
}
