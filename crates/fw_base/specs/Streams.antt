-- What a read and a write do to the bytes that a source has left and a sink holds. `None` stands for an
-- object that doesn't tell them; whether it tells never changes.
use Rattle.std.specs.Prelude.{◌≡◌, ℕ, ◌≤◌, ◌↔◌, List, [], ◌++◌, length, take, Option, Result, IfSome, IfOk, OnOk, OnErr}
use Rattle.std.specs.Option.{option_map}

-- A read into a buffer, which holds `buffer` afterwards.
pub record Reads {E : Type 0} (before now : Option (List ℕ)) (result : Result ℕ E) (buffer : List ℕ) : Type 0 where
  -- it gives at most as many bytes as the buffer has
  pub fits : IfOk result (λ count. count ≤ length buffer)
  -- what was left is what was read, and then what is left now
  pub bytes : IfOk result (λ count. before ≡ option_map (λ left. take count buffer ++ left) now)
  -- 0 is answered exactly where nothing is left
  pub end : IfOk result (λ count. IfSome before (λ left. (count ≡ 0) ↔ (left ≡ [])))
  -- a failed read leaves all as it was
  pub failed : OnErr result (now ≡ before)

-- A write of a piece: all of it, or where it failed, a front of it.
pub record Writes {E : Type 0} (before now : Option (List ℕ)) (result : Result (Unit {0}) E) (piece : List ℕ) : Type 0 where
  pub whole : OnOk result (now ≡ option_map (λ held. held ++ piece) before)
  pub front : OnErr result ((count : ℕ) × (count ≤ length piece) × (now ≡ option_map (λ held. held ++ take count piece) before))
