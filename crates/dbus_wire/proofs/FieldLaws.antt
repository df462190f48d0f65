-- One step of a loop over padding or a path.
use Rattle.std.proofs.Common.{◌≡◌, ℕ, suc, ◌+◌, ◌-◌, ◌<◌, ◌≤◌, Bool, true, false, List, [], ◌∷◌, length, get_or, drop, Ok, Err, refl, arith, add-one, drop-cons}
use Rattle.std.specs.Prelude.{not, ◌&&◌}
use Rattle.std.specs.Str.{IsUtf8, is_utf8}
use Rattle.std.proofs.lemmas.Bool.{ne_eqb}
use Rattle.std.proofs.lemmas.Str.{IsUtf8-from_is_utf8}
use Rattle.dbus_wire.specs.Texts.{is_path_letter, path_goes_on}
use Rattle.dbus_wire.specs.Fields.{zeros_at}

pub zeros_more : (n i at : ℕ) (text : List ℕ) (c next : ℕ) (rest : List ℕ) → i < n → text ≡ c ∷ rest → next ≡ at + 1 → c ≡ 0 → zeros_at (n - i) at text ≡ zeros_at (n - (i + 1)) next rest
unfolding zeros_at
zeros_more n i at text c next rest lt is moved none =
    let k : n - i ≡ suc (n - (i + 1)) = omega arith in
    rw (k, is, moved, none) refl

pub zeros_fault : (n i at : ℕ) (text : List ℕ) (c : ℕ) (rest : List ℕ) → i < n → text ≡ c ∷ rest → (c ≡ 0 → ⊥) → zeros_at (n - i) at text ≡ Err at
unfolding zeros_at
zeros_fault n i at text c rest lt is some =
    let k : n - i ≡ suc (n - (i + 1)) = omega arith in
    rw (k, is, ne_eqb c 0 some) refl

pub zeros_end : (n i at : ℕ) (text : List ℕ) → i < n → text ≡ [] → zeros_at (n - i) at text ≡ Err at
unfolding zeros_at
zeros_end n i at text lt is =
    let k : n - i ≡ suc (n - (i + 1)) = omega arith in
    rw (k, is) refl

pub zeros_done : (n i at : ℕ) (text : List ℕ) → n ≤ i → zeros_at (n - i) at text ≡ Ok (tt, at, text)
unfolding zeros_at
zeros_done n i at text le =
    let k : n - i ≡ 0 = omega arith in
    rw k refl

pub path_slash : (due : Bool) (bytes : List ℕ) (i : ℕ) → i < length bytes → get_or bytes i 0 ≡ 47 → path_goes_on due (drop i bytes) ≡ (not due && path_goes_on true (drop (i + 1) bytes))
path_slash due bytes i lt is = rw (add-one, drop-cons bytes i 0 lt, is) refl

pub path_letter : (due : Bool) (bytes : List ℕ) (i : ℕ) → i < length bytes → (get_or bytes i 0 ≡ 47 → ⊥) → path_goes_on due (drop i bytes) ≡ (is_path_letter (get_or bytes i 0) && path_goes_on false (drop (i + 1) bytes))
path_letter due bytes i lt other = rw (add-one, drop-cons bytes i 0 lt, ne_eqb (get_or bytes i 0) 47 other) refl

pub not_utf8 : (bytes : List ℕ) → (IsUtf8 bytes → ⊥) → is_utf8 bytes ≡ false
not_utf8 bytes none = by_test (is_utf8 bytes) (λ e. none (IsUtf8-from_is_utf8 bytes e)) where
  by_test : (b : Bool) → (b ≡ true → ⊥) → b ≡ false
  by_test true no_more = absurd (no_more refl)
  by_test false no_more = refl
