-- Where a text is at fault that is no signature (D-Bus Specification, "Valid Signatures").
use Rattle.std.specs.Prelude.{◌≡◌, ℕ, ◌+◌, ◌<◌, ◌≤◌, ◌⊎◌, true, List, ◌++◌, length, take}
use Rattle.std.specs.List.{list_all}
use Rattle.dbus_signature.specs.declared.kind.Kind.{Kind}
use Rattle.dbus_signature.specs.Types.{codes, all_codes, nests}
use Rattle.dbus_signature.specs.Signatures.{max_length, max_nesting}

-- Types in a row, nested as deep as they may.
abbrev pub AreTypes : List ℕ → Type 0
AreTypes text = (kinds : List Kind) × (text ≡ all_codes kinds) × (list_all (λ kind. nests kind max_nesting max_nesting) kinds ≡ true)

-- One type, nested as deep as it may.
abbrev pub IsType : List ℕ → Type 0
IsType text = (kind : Kind) × (text ≡ codes kind) × (nests kind max_nesting max_nesting ≡ true)

-- The text begins a word.
abbrev pub BeginsWord : (List ℕ → Type 0) → List ℕ → Type 0
BeginsWord IsWord text = (more : List ℕ) × IsWord (text ++ more)

-- The text is no word, and this many of its bytes begin one: with one byte more they begin none, or there is none more.
pub record FirstFault (IsWord : List ℕ → Type 0) (text : List ℕ) (place : ℕ) : Type 0 where
  pub within : place ≤ length text
  pub begins : BeginsWord IsWord (take place text)
  pub stuck : place < length text → BeginsWord IsWord (take (place + 1) text) → ⊥
  pub ended : place ≡ length text → IsWord text → ⊥

-- The place of the fault of a text that is no signature: the first byte that no signature has there, the number of bytes
-- where a type is not complete, and 255 where the text is longer than that and no earlier byte is at fault.
abbrev pub SignatureFault : List ℕ → ℕ → Type 0
SignatureFault text place =
    ((length text ≤ max_length) × FirstFault AreTypes text place)
    ⊎ ((max_length < length text) × (((place < max_length) × FirstFault AreTypes text place) ⊎ ((place ≡ max_length) × BeginsWord AreTypes (take max_length text))))
