-- The writes of a piece: a front of it was written, and the rest is left.
use Rattle.std.proofs.Common.{◌≡◌, ℕ, ◌≤◌, List, [], ◌++◌, length, take, drop, Option, None, Some, ap, sym, ◌∙◌, refl, subst, arith, append_assoc, append-nil, length-append}
use Rattle.std.proofs.lemmas.List.{take-append-drop, take_at}
use Rattle.std.specs.Io.KnownBytes.{Appends, Keeps}

abbrev pub Written : (piece rest : List ℕ) → (before now : Option (List ℕ)) → Type 0
Written piece rest before now = (front : List ℕ) × (piece ≡ front ++ rest) × Appends before now front

pub appends_more : (a b c : Option (List ℕ)) (f g : List ℕ) → Appends a b f → Appends b c g → Appends a c (f ++ g)
appends_more None b c f g p q = tt
appends_more (Some xs) None c f g p q = absurd p
appends_more (Some xs) (Some ys) None f g p q = absurd q
appends_more (Some xs) (Some ys) (Some zs) f g p q = q ∙ ap (λ l. l ++ g) p ∙ append_assoc xs f g

pub keeps_appends : (a b c : Option (List ℕ)) (f : List ℕ) → Appends a b f → Keeps b c → Appends a c f
keeps_appends None b c f p q = tt
keeps_appends (Some xs) None c f p q = absurd p
keeps_appends (Some xs) (Some ys) None f p q = absurd q
keeps_appends (Some xs) (Some ys) (Some zs) f p q = q ∙ p

-- nothing is written yet
pub none_written : (piece : List ℕ) (before : Option (List ℕ)) → Written piece piece before before
none_written piece None = ([], refl, tt)
none_written piece (Some xs) = ([], refl, sym (append-nil xs))

-- a write took the first bytes of the rest
pub more_written : (piece rest : List ℕ) (count : ℕ) (before now then_ : Option (List ℕ)) → Written piece rest before now → Appends now then_ (take count rest) → Written piece (drop count rest) before then_
more_written piece rest count before now then_ w a =
    let is : piece ≡ (w.0 ++ take count rest) ++ drop count rest = w.1 ∙ ap (λ l. w.0 ++ l) (sym (take-append-drop count rest)) ∙ sym (append_assoc w.0 (take count rest) (drop count rest)) in
    (w.0 ++ take count rest, is, appends_more before now then_ w.0 (take count rest) w.2 a)

-- a failed write or flush left what was written
pub still_written : (piece rest : List ℕ) (before now then_ : Option (List ℕ)) → Written piece rest before now → Keeps now then_ → Written piece rest before then_
still_written piece rest before now then_ w k = (w.0, w.1, keeps_appends before now then_ w.0 w.2 k)

-- where no rest is left, all is written
pub all_written : (piece rest : List ℕ) (before now : Option (List ℕ)) → rest ≡ [] → Written piece rest before now → Appends before now piece
all_written piece rest before now none w =
    let is : w.0 ≡ piece = sym (w.1 ∙ ap (λ l. w.0 ++ l) none ∙ append-nil w.0) in
    let P : List ℕ → Type 0 = λ l. Appends before now l in
    subst P is w.2

-- what is written is a front of the piece
pub front_written : (piece rest : List ℕ) (before now : Option (List ℕ)) → Written piece rest before now → (count : ℕ) × (count ≤ length piece) × Appends before now (take count piece)
front_written piece rest before now w =
    let is : w.0 ≡ take (length w.0) piece = sym (ap (take (length w.0)) w.1 ∙ take_at w.0 rest (length w.0) refl) in
    let P : List ℕ → Type 0 = λ l. Appends before now l in
    (length w.0, omega (arith, ap length w.1, length-append w.0 rest), subst P is w.2)
