-- The tokens of a rich rule's text (firewalld.richlanguage(5), "General rule structure"). Blanks and tabs separate them.
-- A token is a word, such as `source`, or a key, `=` and a value, such as `address="10.0.0.0/8"`.
use Rattle.std.specs.Prelude.{ℕ, zero, suc, ◌+◌, ◌-◌, ◌==◌, nat_le, nat_lt, Bool, true, not, ◌&&◌, ◌||◌, if◌then◌else◌, List, [], ◌∷◌, length, take, drop, Option, None, Some}
use Rattle.std.specs.List.{list_all, position_or_len, before_first, after_first}
use Rattle.std.specs.Option.{option_map, option_and_then}

-- a value, and where it begins in the text, its quote included
pub record Written : Type 0 where
  pub place : ℕ
  pub text : List ℕ

-- a token and where it begins in the text; a word has no value
pub record Token : Type 0 where
  pub offset : ℕ
  pub key : List ℕ
  pub value : Option Written

-- a blank or a tab
abbrev pub is_gap : ℕ → Bool
is_gap byte = byte == 32 || byte == 9

-- `"` or `'`
abbrev pub is_quote : ℕ → Bool
is_quote byte = byte == 34 || byte == 39

-- no value has a control byte or a `"`
abbrev pub is_plain : ℕ → Bool
is_plain byte = nat_le 32 byte && not (byte == 127) && not (byte == 34)

-- a value without quotes has no `'` either
abbrev pub is_bare : ℕ → Bool
is_bare byte = is_plain byte && not (byte == 39)

-- what ends a word or a key: a blank, a tab, a quote or `=`
abbrev pub ends_key : ℕ → Bool
ends_key byte = is_gap byte || is_quote byte || byte == 61

-- a text up to the first such byte, and from it on
abbrev pub up_to : (ℕ → Bool) → List ℕ → List ℕ × List ℕ
up_to ends text = (take (position_or_len ends text) text, drop (position_or_len ends text) text)

-- a text without the blanks and tabs at its front
abbrev pub behind_gap : List ℕ → List ℕ
behind_gap text = drop (position_or_len (λ byte. not (is_gap byte)) text) text

-- whether a token may end here
abbrev pub at_gap : List ℕ → Bool
at_gap [] = true
at_gap (byte ∷ text) = is_gap byte

-- a text before and behind the first such byte, where it has one
abbrev pub cut_at : ℕ → List ℕ → Option (List ℕ × List ℕ)
cut_at byte text =
    if nat_lt (position_or_len (λ b. b == byte) text) (length text)
    then Some (before_first (λ b. b == byte) text, after_first (λ b. b == byte) text)
    else None

-- a value in quotes, of which the second ends the token
abbrev pub quoted : List ℕ × List ℕ → Option (List ℕ × List ℕ)
quoted (value, text) = if list_all is_plain value && at_gap text then Some (value, text) else None

-- a value without quotes: at least one byte
abbrev pub bare : List ℕ × List ℕ → Option (List ℕ × List ℕ)
bare ([], text) = None
bare (byte ∷ value, text) = if list_all is_bare (byte ∷ value) then Some (byte ∷ value, text) else None

-- the value at the front of a text, and the text behind it
abbrev pub value_front : List ℕ → Option (List ℕ × List ℕ)
value_front [] = None
value_front (byte ∷ text) =
    if is_quote byte then option_and_then quoted (cut_at byte text) else bare (up_to is_gap (byte ∷ text))

-- the pair of a key and the value at the front of a text, in a whole of that size
abbrev pub pair : (size offset : ℕ) (key text : List ℕ) → Option (Token × List ℕ)
pair size offset key text =
    option_map (λ found. (record { offset = offset; key = key; value = Some (record { place = size - length text; text = found.0 }) }, found.1))
    (value_front text)

abbrev pub word : (offset : ℕ) (key : List ℕ) → Token
word offset key = record { offset = offset; key = key; value = None }

-- the token that begins with this key, by what stands behind the key
abbrev pub token_of : (size offset : ℕ) → (key text : List ℕ) → Option (Token × List ℕ)
token_of size offset key [] = Some (word offset key, [])
token_of size offset key (byte ∷ text) =
    if is_gap byte then Some (word offset key, byte ∷ text)
    else if byte == 61 then pair size offset key text
    else None

-- the token at the front of a text, and the text behind it
abbrev pub token_front : (size : ℕ) → List ℕ → Option (Token × List ℕ)
token_front size text = token_of size (size - length text) (up_to ends_key text).0 (up_to ends_key text).1

-- what should be a token and is none stands as a word without a byte, which no rule has; nothing is read behind it
abbrev pub no_token : (size : ℕ) → List ℕ → Token × List ℕ
no_token size text = (word (size - length text) [], [])

abbrev pub or_none : (size : ℕ) → List ℕ → Option (Token × List ℕ) → Token × List ℕ
or_none size text None = no_token size text
or_none size text (Some front) = front

-- the first token of a text, if there is one, and the text behind it
abbrev pub next_token : (size : ℕ) → List ℕ → Option (Token × List ℕ)
next_token size [] = None
next_token size (byte ∷ text) = Some (or_none size (byte ∷ text) (token_front size (byte ∷ text)))

-- a token and the tokens of the text behind it
abbrev pub with_behind : (List ℕ → List Token) → Option (Token × List ℕ) → List Token
with_behind tokens None = []
with_behind tokens (Some (token, text)) = token ∷ tokens text

-- the tokens of the end of a text, of which there are at most so many, in a whole of that size
unfoldable pub tokens_to : ℕ → (size : ℕ) → List ℕ → List Token
tokens_to zero size text = []
tokens_to (suc most) size text = with_behind (tokens_to most size) (next_token size (behind_gap text))

-- each token takes a byte at least
abbrev pub tokens_from : (size : ℕ) → List ℕ → List Token
tokens_from size text = tokens_to (length text) size text

-- the tokens of a whole text
abbrev pub tokens : List ℕ → List Token
tokens text = tokens_from (length text) text
