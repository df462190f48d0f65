-- The words of a script's line. The script language is this project's own.
--
-- Words are separated by one blank, with none at either end of the line. A word is bare, or it stands in quotes.
use Rattle.std.specs.Prelude.{ℕ, zero, suc, ◌==◌, nat_lt, Bool, not, ◌&&◌, ◌||◌, if◌then◌else◌, List, [], ◌∷◌, length, Option, None, Some}
use Rattle.std.specs.List.{list_all, position_or_len, before_first, after_first}
use Rattle.std.specs.Option.{option_map}
use Rattle.fw_text.specs.Steps.{◌>>=◌}

-- `"` and `'`
abbrev pub is_quote : ℕ → Bool
is_quote byte = byte == 34 || byte == 39

-- a byte of a bare word: no blank, no control byte and no quote
abbrev pub is_bare_byte : ℕ → Bool
is_bare_byte byte = nat_lt 32 byte && not (is_quote byte) && not (byte == 127)

-- a bare word: at least one byte, all of them bare
abbrev pub is_bare : List ℕ → Bool
is_bare word = not (length word == 0) && list_all is_bare_byte word

-- the front of a text, and the text behind the blank that ends it, where one does
abbrev pub Front : Type 0
Front = List ℕ × Option (List ℕ)

-- a text cut at the first such byte, where it has one
abbrev pub cut_at : ℕ → List ℕ → Option (List ℕ × List ℕ)
cut_at byte text =
    if nat_lt (position_or_len (λ b. b == byte) text) (length text)
    then Some (before_first (λ b. b == byte) text, after_first (λ b. b == byte) text)
    else None

abbrev pub front_of : List ℕ → Option (List ℕ × List ℕ) → Front
front_of text None = (text, None)
front_of text (Some cut) = (cut.0, Some cut.1)

-- a text up to its first blank
abbrev pub up_to_blank : List ℕ → Front
up_to_blank text = front_of text (cut_at 32 text)

-- a bare word ends where the text does, or before a blank
abbrev pub bare_front : Front → Option Front
bare_front front = if is_bare front.0 then Some front else None

-- behind the quote that ends a word stands nothing else before the next blank
abbrev pub quoted_front : (word : List ℕ) → Front → Option Front
quoted_front word behind = if length behind.0 == 0 then Some (word, behind.1) else None

-- a word that began with this quote
abbrev pub in_quotes : ℕ → List ℕ → Option Front
in_quotes quote text = cut_at quote text >>= (λ cut. quoted_front cut.0 (up_to_blank cut.1))

-- the word at the front of a text
abbrev pub front_word : List ℕ → Option Front
front_word [] = None
front_word (first ∷ text) = if is_quote first then in_quotes first text else bare_front (up_to_blank (first ∷ text))

-- a word and the words of the text behind it
abbrev pub with_behind : (List ℕ → Option (List (List ℕ))) → Front → Option (List (List ℕ))
with_behind words (word, None) = Some (word ∷ [])
with_behind words (word, Some text) = option_map (λ behind. word ∷ behind) (words text)

-- the words of a text that has at most so many of them
unfoldable pub words_to : ℕ → List ℕ → Option (List (List ℕ))
words_to zero text = None
words_to (suc most) text = front_word text >>= with_behind (words_to most)

-- the words of a line: each of them takes a byte at least
abbrev pub words : List ℕ → Option (List (List ℕ))
words line = words_to (length line) line
