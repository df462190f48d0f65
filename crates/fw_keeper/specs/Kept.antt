-- What is seen of a keeper of one text, and what its calls change of it.
use Rattle.std.specs.Prelude.{◌≡◌, ◌↔◌, ◌≤◌, ℕ, ◌+◌, List, Option, None, Some, Result, IfSome, OnOk, OnErr}
use Rattle.std.specs.List.{Contains}
use Rattle.std.specs.Option.{option_map}
use Rattle.fw_base.specs.Causes.{Rose}

pub record Kept : Type 0 where
  -- the text that is held, or none, where the keeper tells it
  pub held : Option (Option (List ℕ))
  -- the faults so far, of which there are counted 2^64 - 1
  pub faults : ℕ
  -- the loads and saves so far
  pub calls : ℕ
  -- the numbers, from 1, of the calls that fail, where they are told
  pub failing : Option (List ℕ)

-- A keeper as it begins.
abbrev pub fresh : Option (Option (List ℕ)) → Option (List ℕ) → Kept
fresh held failing = record { held = held; faults = 0; calls = 0; failing = failing }

-- A call: it is counted, and what is told stays told. `blamed` says that its answer blames the outside.
pub record IsCalled (blamed : Type 0) (before now : Kept) : Type 0 where
  pub calls : now.calls ≡ before.calls + 1
  pub failing : now.failing ≡ before.failing
  -- the count of faults never falls
  pub kept : before.faults ≤ now.faults
  -- the outside is blamed only where its count rose
  pub cause : blamed → Rose before.faults now.faults
  -- and where the calls that fail are told, exactly at these
  pub told : IfSome before.failing (λ numbers. blamed ↔ Contains numbers now.calls)

-- A save of a text: it is what is held then; a failed one leaves what was held. Whether it is told doesn't change.
pub record IsSaved {T E : Type 0} (text : List ℕ) (before now : Kept) (result : Result T E) : Type 0 where
  pub saved : OnOk result (now.held ≡ option_map (λ held. Some text) before.held)
  pub refused : OnErr result (now.held ≡ before.held)
