-- The canonical texts of addresses: RFC 5952, section 4, and for IPv4 the dotted decimal form of RFC 4291.
use Rattle.std.specs.Prelude.{◌≡◌, ℕ, ◌+◌, ◌/◌, ◌%◌, ◌^◌, ◌≤◌, List, [], ◌∷◌, length, take, drop, replicate, decimal}
use Rattle.std.specs.List.{join_with_byte}
use Rattle.std.specs.Net.Text.{compressed_text, hex_groups_text}
use Rattle.fw_addr.specs.declared.addr.Addr.{Addr}
use Rattle.fw_addr.specs.declared.addr.Addr.TheVariants.{V4, V6}

-- four decimal numbers joined by `.` (46)
abbrev pub ipv4_text : ℕ → List ℕ
ipv4_text n =
    join_with_byte 46 (decimal (n / 2 ^ 24) ∷ decimal (n / 2 ^ 16 % 256) ∷ decimal (n / 2 ^ 8 % 256) ∷ decimal (n % 256) ∷ [])

-- the eight groups of an address, the most significant first
abbrev pub groups_of : ℕ → List ℕ
groups_of n =
    n / 2 ^ 112 ∷ n / 2 ^ 96 % 65536 ∷ n / 2 ^ 80 % 65536 ∷ n / 2 ^ 64 % 65536
    ∷ n / 2 ^ 48 % 65536 ∷ n / 2 ^ 32 % 65536 ∷ n / 2 ^ 16 % 65536 ∷ n % 65536 ∷ []

-- its groups in hexadecimal joined by `:`, with `::` in place of the longest run of zero groups: std's text of an
-- address without an IPv4 part
abbrev pub ipv6_text : ℕ → List ℕ
ipv6_text n = hex_groups_text (groups_of n)

abbrev pub address_text : Addr → List ℕ
address_text (V4 n) = ipv4_text n
address_text (V6 n) = ipv6_text n

-- so many zeros stand from one place on
abbrev pub ZerosAt : (groups : List ℕ) (start count : ℕ) → Type 0
ZerosAt groups start count = (start + count ≤ length groups) × (take count (drop start groups) ≡ replicate count 0)

-- A text of groups leaves out a run of zeros, if it has two or more: no run is longer, and none as long begins before
-- it (RFC 5952, section 4.2).
pub record LeavesLongestOut (groups text : List ℕ) : Type 0 where
  pub start : ℕ
  pub count : ℕ
  pub text_is : text ≡ compressed_text groups (start, count)
  pub zeros : ZerosAt groups start count
  pub longest : (from many : ℕ) → ZerosAt groups from many → many ≤ count
  pub first : (from many : ℕ) → ZerosAt groups from many → many ≡ count → start ≤ from
