-- When the outside may be blamed: an object counts its own faults, and an answer that blames it
-- comes only where that count rose.
use Rattle.std.specs.Prelude.{◌≡◌, ℕ, ◌+◌, ◌-◌, ◌^◌, ◌≤◌, min, Result, OnOk, OnErr}

-- A count of faults rose. A count at the end of its 64 bits stays there.
abbrev pub Rose : ℕ → ℕ → Type 0
Rose before now = min (before + 1) (2 ^ 64 - 1) ≤ now

-- The count never falls: a success leaves it, and a refusal comes only where it rose.
pub record HasCause {T E : Type 0} (before now : ℕ) (result : Result T E) : Type 0 where
  pub kept : before ≤ now
  pub succeeded : OnOk result (now ≡ before)
  pub failed : OnErr result (Rose before now)
