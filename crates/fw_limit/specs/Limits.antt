-- The texts of limits (firewalld.richlanguage(5), "limit value"): how many times, `/`, and in which unit of time.
use Rattle.std.specs.Prelude.{ℕ, ◌==◌, Bool, if◌then◌else◌, codes, List, [], ◌∷◌, Option, None, Some}
use Rattle.std.specs.List.{before_first, after_first}
use Rattle.fw_text.specs.Names.{named}
use Rattle.fw_text.specs.Number.{number_to}
use Rattle.fw_text.specs.Steps.{◌>>=◌}
use Rattle.fw_addr.specs.declared.limit.Limit.{Limit}
use Rattle.fw_addr.specs.declared.limit.Unit.{Unit}
use Rattle.fw_addr.specs.declared.limit.Unit.TheVariants.{Second, Minute, Hour, Day}

-- the units by their first letters and by their names
abbrev pub units : List (List ℕ × Unit)
units =
    (codes "s", Second) ∷ (codes "second", Second) ∷ (codes "m", Minute) ∷ (codes "minute", Minute)
    ∷ (codes "h", Hour) ∷ (codes "hour", Hour) ∷ (codes "d", Day) ∷ (codes "day", Day) ∷ []

-- at least once
abbrev pub above_zero : ℕ → Option ℕ
above_zero n = if n == 0 then None else Some n

-- 1 to 10000, without leading zeros
abbrev pub count : List ℕ → Option ℕ
count text = number_to 10000 text >>= above_zero

-- `/`
abbrev pub is_slash : ℕ → Bool
is_slash byte = byte == 47

-- the count before the first `/`, and the unit behind it; without a `/` nothing is behind it, which is no unit
abbrev pub limit : List ℕ → Option Limit
limit text = do
  times ← count (before_first is_slash text)
  unit ← named units (after_first is_slash text)
  Some (record { count = times; unit = unit })
