-- Reading from left to right, with the place of the first fault.
use Rattle.std.specs.Prelude.{◌≡◌, ℕ, List, Result, Ok, Err}
use Rattle.dbus_signature.specs.declared.error.WireError.{WireError}
use Rattle.dbus_signature.specs.declared.error.WireError.TheVariants as errors

-- What is read at an offset: a value, the offset after it and the bytes after it; or the place of the fault.
abbrev pub Read : Type 0 → Type 0
Read A = Result (A × ℕ × List ℕ) ℕ

-- A reader takes an offset and the bytes from there on.
abbrev pub Reader : Type 0 → Type 0
Reader A = ℕ → List ℕ → Read A

infixl 10 ◌>>=◌
abbrev pub ◌>>=◌ : {A B : Type 0} → Result A ℕ → (A → Result B ℕ) → Result B ℕ
(Ok x) >>= f = f x
(Err place) >>= f = Err place

-- What a function returned, seen by `view`, is what reading gives, unless memory ran out.
abbrev pub Fails : {Y : Type 0} → WireError → Result Y ℕ → Type 0
Fails errors.Memory read = Unit {0}
Fails (errors.Bad place) read = read ≡ Err place

abbrev pub Gives : {X Y : Type 0} → (X → Y) → Result X WireError → Result Y ℕ → Type 0
Gives view (Ok x) read = read ≡ Ok (view x)
Gives view (Err error) read = Fails error read
