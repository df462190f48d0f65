-- A reader or a writer of std as an end of the outside.
use Rattle.std.specs.Prelude.{ℕ, ◌≤◌, List, length, take, Option, Result, MatchResult, refl}
use Rattle.std.specs.Coded.{Coded, code_by, coded×, coded_ℕ}
use Rattle.std.specs.Io.KnownBytes.{Appends}

-- The reader or writer, and how many of its calls failed.
pub record Adapted (X : Type 0) : Type 0 where
  pub inner : X
  pub faults : ℕ

-- it is stored as the pair of its parts
abbrev pub adapted_code : {X : Type 0} → Coded X → Coded (Adapted X)
adapted_code {X} code =
    code_by (X × ℕ) (coded× code coded_ℕ) (λ a. (a.inner, a.faults)) (λ p. record { inner = p.0; faults = p.1 }) (λ _. refl)

-- What a writer that held `before` holds after the writes of a piece: all of it, or where one failed, a front of it.
abbrev pub WritesPiece : {E : Type 0} → (before after : Option (List ℕ)) → Result (Unit {0}) E → (piece : List ℕ) → Type 0
WritesPiece before after result piece =
    MatchResult result (λ _. Appends before after piece) (λ _. (count : ℕ) × (count ≤ length piece) × Appends before after (take count piece))
