-- Reading tokens one after another: what a production reads of them and the tokens behind it, or where they stop
-- following the grammar.
use Rattle.std.specs.Prelude.{ℕ, Bool, true, false, if◌then◌else◌, List, [], ◌∷◌, Option, None, Some, Result, Ok, Err, ◌≡◌}
use Rattle.std.specs.Option.{option_and_then}
use Rattle.std.specs.Str.{bytes_eq}
use Rattle.fw_text.specs.Names.{named}
use Rattle.fw_rich.specs.Tokens.{Token, Written}
use Rattle.fw_rich.specs.declared.tokens.Stop.{Stop}
use Rattle.fw_rich.specs.declared.tokens.Stop.TheVariants as stops

-- a token before others, or none at all
abbrev pub before : Option Token → List Token → List Token
before None tokens = []
before (Some token) tokens = token ∷ tokens

abbrev pub pop : List Token → Option Token × List Token
pop [] = (None, [])
pop (token ∷ tokens) = (Some token, tokens)

-- where the tokens stop following the grammar: at the next one, or at the text's end where none is left
abbrev pub stop : List Token → Stop
stop [] = stops.End
stop (token ∷ tokens) = stops.At token.offset

-- a token that is a word
abbrev pub key_of_word : (key : List ℕ) → Option Written → Option (List ℕ)
key_of_word key None = Some key
key_of_word key (Some value) = None

-- the next token, where it is a word
abbrev pub word_key : List Token → Option (List ℕ)
word_key [] = None
word_key (token ∷ tokens) = key_of_word token.key token.value

abbrev pub is_text : (text : List ℕ) → Option (List ℕ) → Bool
is_text text None = false
is_text text (Some other) = bytes_eq other text

-- whether this word comes next, and the tokens behind it
abbrev pub take_word : List ℕ → List Token → Bool × List Token
take_word word tokens = if is_text word (word_key tokens) then (true, (pop tokens).1) else (false, tokens)

-- the value of a token with this key
abbrev pub value_of : List ℕ → Token → Option Written
value_of key token = if bytes_eq token.key key then token.value else None

abbrev pub taken_if : {X : Type 0} → Option X → (behind tokens : List Token) → Option X × List Token
taken_if None behind tokens = (None, tokens)
taken_if (Some x) behind tokens = (Some x, behind)

-- the value of the pair of this key, where it comes next, and the tokens behind it
abbrev pub take_pair : List ℕ → List Token → Option Written × List Token
take_pair key [] = (None, [])
take_pair key (token ∷ tokens) = taken_if (value_of key token) tokens (token ∷ tokens)

-- What a production reads of the tokens, and the tokens behind it.
abbrev pub Parsed : Type 0 → Type 0
Parsed X = Result (X × List Token) Stop

abbrev pub Parser : Type 0 → Type 0
Parser X = List Token → Parsed X

abbrev pub read_on : {X Y : Type 0} → (X → Parser Y) → Parsed X → Parsed Y
read_on next (Ok (x, tokens)) = next x tokens
read_on next (Err stop) = Err stop

infixl 10 ◌>>=◌
-- one production behind another: `do` goes through them
abbrev pub ◌>>=◌ : {X Y : Type 0} → Parser X → (X → Parser Y) → Parser Y
(parser >>= next) tokens = read_on next (parser tokens)

-- reads nothing
abbrev pub give : {X : Type 0} → X → Parser X
give x tokens = Ok (x, tokens)

-- the tokens stop following the grammar where nothing was found
abbrev pub needed : {X : Type 0} → Option X → Parser X
needed None tokens = Err (stop tokens)
needed (Some x) tokens = Ok (x, tokens)

-- or where this doesn't hold
abbrev pub holds : Bool → Parser (Unit {0})
holds true tokens = Ok (tt, tokens)
holds false tokens = Err (stop tokens)

-- where the next token begins; nothing asks it where none is left
abbrev pub offset : List Token → ℕ
offset [] = 0
offset (token ∷ tokens) = token.offset

abbrev pub offset_here : Parser ℕ
offset_here tokens = Ok (offset tokens, tokens)

abbrev pub stop_here : Parser Stop
stop_here tokens = Ok (stop tokens, tokens)

-- whether a word comes next, and the word
abbrev pub flag : List ℕ → Parser Bool
flag word tokens = Ok (take_word word tokens)

-- a word, which has to come next
abbrev pub expect : List ℕ → Parser (Unit {0})
expect word = do
  there ← flag word
  holds there

-- no token is left
abbrev pub at_end : Parser (Unit {0})
at_end [] = Ok (tt, [])
at_end (token ∷ tokens) = Err (stop (token ∷ tokens))

-- one of the words of a table, where one comes next
abbrev pub word_in : {X : Type 0} → List (List ℕ × X) → List Token → Option X × List Token
word_in table tokens = taken_if (option_and_then (named table) (word_key tokens)) (pop tokens).1 tokens

abbrev pub one_of : {X : Type 0} → List (List ℕ × X) → Parser (Option X)
one_of table tokens = Ok (word_in table tokens)

-- the pair of a key, where it comes next
abbrev pub pair : List ℕ → Parser (Option Written)
pair key tokens = Ok (take_pair key tokens)

-- the same where it wasn't found before
abbrev pub or_pair : List ℕ → Option Written → Parser (Option Written)
or_pair key None = pair key
or_pair key (Some value) = give (Some value)

-- the pair of a key
abbrev pub value : List ℕ → Parser Written
value key = do
  found ← pair key
  needed found

-- what follows a word, where the word comes next
abbrev pub if_there : {X : Type 0} → Parser X → Bool → Parser (Option X)
if_there parser true = do
  x ← parser
  give (Some x)
if_there parser false = give None

abbrev pub optional : {X : Type 0} → List ℕ → Parser X → Parser (Option X)
optional word parser = do
  there ← flag word
  if_there parser there

-- what follows one of several words
abbrev pub optionally : {X Y : Type 0} → (X → Parser Y) → Option X → Parser (Option Y)
optionally parser None = give None
optionally parser (Some x) = do
  y ← parser x
  give (Some y)

-- What code reads: what the production says, or where the tokens stop following it.
abbrev pub Reads : {X : Type 0} → Result X Stop → (old new : List Token) → Parser X → Type 0
Reads (Ok x) old new parser = parser old ≡ Ok (x, new)
Reads (Err stop) old new parser = parser old ≡ Err stop
