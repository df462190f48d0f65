-- The fields of a value: padding, numbers, texts and signatures, read from left to right with the place of the
-- first fault (D-Bus Specification, "Marshaling (Wire Format)").
use Rattle.std.specs.Prelude.{ℕ, zero, suc, ◌+◌, ◌-◌, ◌%◌, ◌==◌, nat_lt, Bool, true, false, List, [], ◌∷◌, length, take, drop, Ok, Err, if◌then◌else◌}
use Rattle.std.specs.Int.{Width, w32, byte_len, from_le_bytes, from_be_bytes}
use Rattle.dbus_signature.specs.declared.kind.Kind.{Kind}
use Rattle.dbus_signature.specs.Reading.{Read, Reader, ◌>>=◌}
use Rattle.dbus_signature.specs.Signatures.{kind_at, kinds_at}
use Rattle.dbus_wire.specs.declared.value.Endian.{Endian}
use Rattle.dbus_wire.specs.declared.value.Endian.TheVariants.{Little, Big}

-- how many bytes lie before the next multiple of an alignment
abbrev pub gap : (align at : ℕ) → ℕ
gap align at = (align - at % align) % align

-- so many bytes that are zero
unfoldable pub zeros_at : ℕ → Reader (Unit {0})
zeros_at zero at text = Ok (tt, at, text)
zeros_at (suc n) at [] = Err at
zeros_at (suc n) at (c ∷ rest) = if c == 0 then zeros_at n (at + 1) rest else Err at

-- the padding before what is aligned so
unfoldable pub padding_at : ℕ → Reader (Unit {0})
padding_at align at text = zeros_at (gap align at) at text

abbrev pub from_bytes : Endian → Width → List ℕ → ℕ
from_bytes Little width bytes = from_le_bytes width bytes
from_bytes Big width bytes = from_be_bytes width bytes

-- a number's own bytes
abbrev pub number_at : Endian → Width → Reader ℕ
number_at endian width at text =
    if nat_lt (length text) (byte_len width) then Err at
    else Ok (from_bytes endian width (take (byte_len width) text), at + byte_len width, drop (byte_len width) text)

-- a number behind its padding
unfoldable pub aligned_at : Endian → Width → Reader ℕ
aligned_at endian width at text = do
  start ← padding_at (byte_len width) at text
  number_at endian width start.1 start.2

unfoldable pub byte_at : Reader ℕ
byte_at at [] = Err at
byte_at at (c ∷ rest) = Ok (c, at + 1, rest)

-- A boolean is 0 or 1.
abbrev pub bool_of : ℕ → ℕ × ℕ × List ℕ → Read Bool
bool_of place n = if n.0 == 0 then Ok (false, n.1, n.2) else (if n.0 == 1 then Ok (true, n.1, n.2) else Err place)

unfoldable pub bool_at : Endian → Reader Bool
bool_at endian at text = do
  start ← padding_at 4 at text
  number ← number_at endian w32 start.1 start.2
  bool_of start.1 number

-- A text of so many bytes, which is valid, and its closing NUL. A text that runs over or is not valid is at fault at
-- its first byte.
unfoldable pub ended_at : (List ℕ → Bool) → ℕ → Reader (List ℕ)
ended_at is_valid n at text =
    if nat_lt (length text) n then Err at
    else (if is_valid (take n text) then (zeros_at 1 (at + n) (drop n text) >>= λ nul. Ok (take n text, nul.1, nul.2)) else Err at)

-- a text behind its length
unfoldable pub text_at : (List ℕ → Bool) → Endian → Reader (List ℕ)
text_at is_valid endian at text = do
  n ← aligned_at endian w32 at text
  ended_at is_valid n.0 n.1 n.2

-- The codes of a signature behind their length, as many as are there: their offset and they, and what stands behind.
unfoldable pub codes_at : Reader (ℕ × List ℕ)
codes_at at text = do
  n ← byte_at at text
  Ok ((n.1, take n.0 n.2), n.1 + length (take n.0 n.2), drop n.0 n.2)

-- behind the NUL that closes it
abbrev pub closed_at : {A : Type 0} → A → Reader A
closed_at x at text = zeros_at 1 at text >>= λ nul. Ok (x, nul.1, nul.2)

-- A signature is its length, its codes and its closing NUL. Where it is cut short, the byte that is missing is at fault.
unfoldable pub signature_at : Reader (List ℕ)
signature_at at text = do
  codes ← codes_at at text
  kinds ← kinds_at (length codes.0.1) codes.0.0 codes.0.1
  closed_at codes.0.1 codes.1 codes.2

-- A signature of one complete type, which is given with it. The first code of a second type is at fault.
abbrev pub one_type_of : List ℕ → ℕ → List ℕ → Kind × ℕ × List ℕ → Read (Kind × List ℕ)
one_type_of codes end after kind = if length kind.2 == 0 then closed_at (kind.0, codes) end after else Err kind.1

unfoldable pub type_at : Reader (Kind × List ℕ)
type_at at text = do
  codes ← codes_at at text
  kind ← kind_at 32 32 codes.0.0 codes.0.1
  one_type_of codes.0.1 codes.1 codes.2 kind
