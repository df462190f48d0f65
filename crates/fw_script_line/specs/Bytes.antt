-- Bytes in hexadecimal digits of either case, two digits each (RFC 4648, section 8).
use Rattle.std.specs.Prelude.{ℕ, List, Option, None, Some, Result, Ok, Err}
use Rattle.hex.specs.Hex.{decode_of}
use Rattle.hex.specs.declared.error.FromHexError.{FromHexError}

-- what was decoded, if it was
abbrev pub if_decoded : Result (List ℕ) FromHexError → Option (List ℕ)
if_decoded (Ok bytes) = Some bytes
if_decoded (Err error) = None

-- the bytes that digits spell; there are none for an odd number of digits, or another character
unfoldable pub bytes_of : (digits : List ℕ) → Option (List ℕ)
bytes_of digits = if_decoded (decode_of digits)
