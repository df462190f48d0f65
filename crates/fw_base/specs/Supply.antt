-- A source and a sink that hold their bytes in memory.
use Rattle.std.specs.Prelude.{ℕ, ◌+◌, ◌-◌, ◌^◌, Bool, not, ◌||◌, ◌==◌, nat_le, if◌then◌else◌, min, List, ◌++◌, length, drop}
use Rattle.std.specs.List.{list_any}

-- A count that ends at the last 64-bit number.
abbrev pub counted : ℕ → ℕ
counted n = min (n + 1) (2 ^ 64 - 1)

-- A source in memory: what it has left, how many bytes it gives at most in one read, the numbers of the
-- reads that fail, counted from 1, and how many reads and faults there were.
pub record Supply : Type 0 where
  pub left : List ℕ
  pub cut : ℕ
  pub failing : List ℕ
  pub reads : ℕ
  pub faults : ℕ

-- whether the next read fails
abbrev pub fails_next_read : Supply → Bool
fails_next_read s = list_any (λ n. n == counted s.reads) s.failing

-- how many bytes the next read gives into a buffer of this length, unless it fails
abbrev pub next_count : Supply → ℕ → ℕ
next_count s room = min (min s.cut room) (length s.left)

-- the source after a read into a buffer of this length
abbrev pub after_read : Supply → ℕ → Supply
after_read s room = if fails_next_read s
    then record s { reads = counted s.reads; faults = counted s.faults }
    else record s { reads = counted s.reads; left = drop (next_count s room) s.left }

-- A sink in memory: what was written, how many bytes it can hold, the numbers of the writes that fail,
-- counted from 1, and how many writes and faults there were.
pub record Store : Type 0 where
  pub written : List ℕ
  pub room : ℕ
  pub failing : List ℕ
  pub writes : ℕ
  pub faults : ℕ

-- whether the next write, of this piece, fails: it is listed, or it doesn't fit
abbrev pub fails_next_write : Store → List ℕ → Bool
fails_next_write s piece = list_any (λ n. n == counted s.writes) s.failing || not (nat_le (length s.written + length piece) s.room)

-- the sink after a write of this piece
abbrev pub after_write : Store → List ℕ → Store
after_write s piece = if fails_next_write s piece
    then record s { writes = counted s.writes; faults = counted s.faults }
    else record s { writes = counted s.writes; written = s.written ++ piece }
