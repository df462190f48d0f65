-- What values begin at a multiple of (D-Bus Specification, "Marshaling (Wire Format)", the alignments of its table, by
-- the letters of "Summary of types").
use Rattle.std.specs.Prelude.{ℕ, ◌==◌, ◌||◌, List, [], ◌∷◌, Option, Some, None, unwrap_or, if◌then◌else◌}
use Rattle.dbus_signature.specs.declared.kind.Kind.{Kind}
use Rattle.dbus_signature.specs.Types.{codes}

-- By the first letter of the type: `y`, `g` and `v` stand anywhere, `n` and `q` at 2, `b`, `i`, `u`, `s`, `o`, `a` and
-- `h` at 4, `x`, `t`, `d`, a struct and an entry at 8. A letter that begins no type has none.
abbrev pub letter_alignment : ℕ → Option ℕ
letter_alignment letter =
    if letter == 121 || letter == 103 || letter == 118 then Some 1
    else (if letter == 110 || letter == 113 then Some 2
    else (if letter == 98 || letter == 105 || letter == 117 || letter == 115 || letter == 111 || letter == 97 || letter == 104 then Some 4
    else (if letter == 120 || letter == 116 || letter == 100 || letter == 40 || letter == 123 then Some 8 else None)))

-- The alignment of what is spelt by these codes. Every type has one.
abbrev pub codes_alignment : List ℕ → ℕ
codes_alignment [] = 1
codes_alignment (letter ∷ others) = unwrap_or (letter_alignment letter) 1

abbrev pub alignment : Kind → ℕ
alignment kind = codes_alignment (codes kind)

-- The alignment of the elements of an array, by its type: their codes stand behind its `a`.
abbrev pub element_alignment : List ℕ → ℕ
element_alignment [] = 1
element_alignment (a ∷ others) = codes_alignment others
