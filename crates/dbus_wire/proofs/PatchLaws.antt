-- Four bytes in the middle are written over.
use Rattle.std.proofs.Common.{◌≡◌, ℕ, ◌+◌, ◌-◌, ◌≤◌, List, ◌∷◌, ◌++◌, length, get_or, refl, ap, ◌∙◌, arith}
use Rattle.std.proofs.Math.ListN.{set}
use Rattle.std.proofs.Math.Seq.{set-append_seam}
use Rattle.std.proofs.lemmas.List.{set-append_right}
use Rattle.std.specs.Int.{w32}
use Rattle.dbus_wire.specs.declared.value.Endian.{Endian}
use Rattle.dbus_wire.specs.declared.value.Endian.TheVariants.{Little, Big}
use Rattle.dbus_wire.specs.Spelling.{to_bytes}

set_behind : (xs ys : List ℕ) (k y : ℕ) → set (xs ++ ys) (length xs + k) y ≡ xs ++ set ys k y
set_behind xs ys k y =
    let same : length xs + k - length xs ≡ k = omega arith in
    let le : length xs ≤ length xs + k = omega arith in
    set-append_right xs ys (length xs) (length xs + k) y refl le ∙ ap (λ (i : ℕ). xs ++ set ys i y) same

four : (e : Endian) (n : ℕ) (front back : List ℕ) → front ++ (get_or (to_bytes e w32 n) 0 0 ∷ get_or (to_bytes e w32 n) 1 0 ∷ get_or (to_bytes e w32 n) 2 0 ∷ get_or (to_bytes e w32 n) 3 0 ∷ back) ≡ front ++ (to_bytes e w32 n ++ back)
four Little n front back = refl
four Big n front back = refl

placed : (front back : List ℕ) (a b c d p q r s : ℕ) → set (set (set (set (front ++ (a ∷ b ∷ c ∷ d ∷ back)) (length front) p) (length front + 1) q) (length front + 2) r) (length front + 3) s ≡ front ++ (p ∷ q ∷ r ∷ s ∷ back)
placed front back a b c d p q r s =
    rw (set-append_seam front a (b ∷ c ∷ d ∷ back) p, set_behind front (p ∷ b ∷ c ∷ d ∷ back) 1 q, set_behind front (p ∷ q ∷ c ∷ d ∷ back) 2 r, set_behind front (p ∷ q ∷ r ∷ d ∷ back) 3 s) refl

pub patched : (e : Endian) (n : ℕ) (bytes text : List ℕ) (place : ℕ) → bytes ≡ to_bytes e w32 n → (front back : List ℕ) (a b c d : ℕ) → text ≡ front ++ (a ∷ b ∷ c ∷ d ∷ back) → place ≡ length front
    → set (set (set (set text place (get_or bytes 0 0)) (place + 1) (get_or bytes 1 0)) (place + 2) (get_or bytes 2 0)) (place + 3) (get_or bytes 3 0) ≡ front ++ (to_bytes e w32 n ++ back)
patched e n bytes text place is front back a b c d split at =
    rw (is, split, at) (placed front back a b c d _ _ _ _ ∙ four e n front back)
