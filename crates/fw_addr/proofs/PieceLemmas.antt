-- What the pieces of a text look like.
use Rattle.std.proofs.Common.{◌≡◌, ℕ, Bool, true, false, cond, eqb, List, [], ◌∷◌, Option, Some, None, Bor, refl, ap}
use Rattle.std.specs.List.{onto_first}
use Rattle.std.specs.Option.{option_copied, is_some}
use Rattle.fw_text.specs.Pieces.{pieces, later_pieces}

-- a text has a first piece
pub some_piece : (separator : ℕ) (text : List ℕ) → (first : List ℕ) × (rest : List (List ℕ)) × (pieces separator text ≡ first ∷ rest)
some_piece separator [] = ([], [], refl)
some_piece separator (byte ∷ text) = starts (eqb byte separator) (pieces separator text)
  where
    grown : (texts : List (List ℕ)) → (first : List ℕ) × (rest : List (List ℕ)) × (onto_first byte texts ≡ first ∷ rest)
    grown [] = (byte ∷ [], [], refl)
    grown (next ∷ later) = (byte ∷ next, later, refl)

    starts : (b : Bool) (texts : List (List ℕ)) → (first : List ℕ) × (rest : List (List ℕ)) × (cond b ([] ∷ texts) (onto_first byte texts) ≡ first ∷ rest)
    starts true texts = ([], texts, refl)
    starts false texts = grown texts

-- and what is left of one has one too
pub some_later_piece : (separator : ℕ) (left : Option (Bor (List ℕ))) → is_some left ≡ true → (first : List ℕ) × (rest : List (List ℕ)) × (later_pieces separator (option_copied left) ≡ first ∷ rest)
some_later_piece separator None is = absurd (cc)
some_later_piece separator (Some text) is = some_piece separator text.now

-- the pieces from one piece on, where the pieces of what is left are known
pub then : (separator : ℕ) (first : List ℕ) (left : Option (Bor (List ℕ))) (text : Bor (List ℕ)) (others : List (List ℕ)) → left ≡ Some text → pieces separator text.now ≡ others → first ∷ later_pieces separator (option_copied left) ≡ first ∷ others
then separator first left text others is pieces_are = rw is (ap (λ (rest : List (List ℕ)). first ∷ rest) pieces_are)
