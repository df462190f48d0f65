-- Words and pairs, the texts that they are printed as, and the tokens that they are read as.
use Rattle.std.proofs.Common.{◌≡◌, ◌∙◌, ℕ, Bool, true, false, if◌then◌else◌, inl, inr, not, List, [], ◌∷◌, ◌++◌, Option, None, Some, refl, sym, ap, append_assoc, bytes_eq, is_none}
use Rattle.std.specs.List.{list_all, list_any}
use Rattle.std.proofs.lemmas.Bool.{and_parts, false≢true, not-true, or_cases}
use Rattle.std.proofs.lemmas.Slice.Eq.{bytes_eq-Decides}
use Rattle.fw_rich.specs.Canonical.{pair_text}
use Rattle.fw_rich.specs.Reading.{take_pair, take_word, word_in}
use Rattle.fw_rich.specs.Tokens.{Token, Written}
use Rattle.fw_text.specs.Names.{named}

-- a word, or a key and its value
pub data Piece : Type 0 where
  Word : List ℕ → Piece
  Pair : (key value : List ℕ) → Piece

-- as they are printed, behind others
abbrev pub piece_text : Piece → List ℕ
piece_text (Word word) = 32 ∷ word
piece_text (Pair key value) = pair_text key value

abbrev pub texts : List Piece → List ℕ
texts [] = []
texts (piece ∷ pieces) = piece_text piece ++ texts pieces

pub texts_join : (front back : List Piece) → texts (front ++ back) ≡ texts front ++ texts back
texts_join [] back = refl
texts_join (piece ∷ front) back = ap (λ text. piece_text piece ++ text) (texts_join front back) ∙ sym (append_assoc (piece_text piece) (texts front) (texts back))

-- whether pieces are none, or begin with one of these words
abbrev pub starts : List (List ℕ) → List Piece → Bool
starts words [] = true
starts words (Word word ∷ pieces) = list_any (bytes_eq word) words
starts words (Pair key value ∷ pieces) = false

-- what holds of each of some words, of one among them
pub holds_of : (P : List ℕ → Bool) (words : List (List ℕ)) → list_all P words ≡ true → (word : List ℕ) → list_any (bytes_eq word) words ≡ true → P word ≡ true
holds_of P [] all word is = absurd (false≢true is)
holds_of P (first ∷ words) all word is =
    let each = and_parts (P first) (list_all P words) all in
    elim (or_cases (bytes_eq word first) (list_any (bytes_eq word) words) is) [
      | inl here ↦ ap P ((bytes_eq-Decides word first).0 here) ∙ each.0
      | inr there ↦ holds_of P words each.1 word there
    ]

-- The tokens of pieces, by where each begins and where its value does.
module _ (at place : List Piece → ℕ) where
  abbrev pub written : (pieces : List Piece) → List ℕ → Written
  written pieces text = record { place = place pieces; text = text }

  abbrev pub placed : List Piece → List Token
  placed [] = []
  placed (Word word ∷ pieces) = record { offset = at (Word word ∷ pieces); key = word; value = None } ∷ placed pieces
  placed (Pair key value ∷ pieces) = record { offset = at (Pair key value ∷ pieces); key = key; value = Some (written (Pair key value ∷ pieces) value) } ∷ placed pieces

  -- another word comes next
  pub no_word : (word : List ℕ) (words : List (List ℕ)) → list_all (λ other. not (bytes_eq other word)) words ≡ true → (pieces : List Piece) → starts words pieces ≡ true
      → take_word word (placed pieces) ≡ (false, placed pieces)
  no_word word words apart [] is = refl
  no_word word words apart (Word other ∷ pieces) is =
      rw (not-true (bytes_eq other word) (holds_of (λ other. not (bytes_eq other word)) words apart other is)) refl
  no_word word words apart (Pair key value ∷ pieces) is = absurd (false≢true is)

  no_value : (b : Bool) (found : Option Written) → found ≡ None → (if b then found else None) ≡ None
  no_value true found is = is
  no_value false found is = refl

  -- a word comes next, and no pair
  pub no_pair : (key : List ℕ) (words : List (List ℕ)) (pieces : List Piece) → starts words pieces ≡ true → take_pair key (placed pieces) ≡ (None, placed pieces)
  no_pair key words [] is = refl
  no_pair key words (Word word ∷ pieces) is = rw (no_value (bytes_eq word key) None refl) refl
  no_pair key words (Pair other value ∷ pieces) is = absurd (false≢true is)

  is_none_at : {X : Type 0} (found : Option X) → is_none found ≡ true → found ≡ None
  is_none_at None is = refl
  is_none_at (Some x) is = absurd (false≢true is)

  -- no word of a table comes next
  pub none_in : {X : Type 0} (table : List (List ℕ × X)) (words : List (List ℕ)) → list_all (λ word. is_none (named table word)) words ≡ true → (pieces : List Piece) → starts words pieces ≡ true
      → word_in table (placed pieces) ≡ (None, placed pieces)
  none_in table words apart [] is = refl
  none_in table words apart (Word word ∷ pieces) is =
      rw (is_none_at (named table word) (holds_of (λ word. is_none (named table word)) words apart word is)) refl
  none_in table words apart (Pair key value ∷ pieces) is = absurd (false≢true is)
