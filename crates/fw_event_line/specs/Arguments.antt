-- The arguments of a call, a word each, by the letters of its member (D-Bus Specification, "Type System"; the spelling is this project's
-- own): a text as it is, a number in decimal, and lists and dicts in JSON.
use Rattle.std.specs.Prelude.{ℕ, ℤ, pos, ◌-◌, ◌^◌, neg_ℤ, ◌==◌, if◌then◌else◌, codes, List, [], ◌∷◌, ◌++◌, Option, None, Some}
use Rattle.std.specs.Option.{option_map}
use Rattle.std.specs.Str.{bytes_eq}
use Rattle.fw_text.specs.Number.{number_to}
use Rattle.fw_text.specs.Steps.{◌>>=◌}
use Rattle.fw_calls.specs.declared.argument.Argument.{Argument}
use Rattle.fw_calls.specs.declared.argument.Argument.TheVariants as argument
use Rattle.fw_dicts.specs.declared.shape.Owner.{Owner}
use Rattle.fw_event_line.specs.Dicts.{json_dict}
use Rattle.fw_json.specs.Texts.{json_texts}
use Rattle.fw_words.specs.Reading.{at_end, next}

-- a number of 32 bits with a sign, in decimal without zeros in front; 0 has no sign
abbrev pub below_0 : Option ℕ → Option ℤ
below_0 None = None
below_0 (Some number) = if number == 0 then None else Some (neg_ℤ (pos number))

unfoldable pub int_of : List ℕ → Option ℤ
int_of [] = None
int_of (first ∷ others) =
    if first == 45 then below_0 (number_to (2 ^ 31) others)
    else option_map pos (number_to (2 ^ 31 - 1) (first ∷ others))

-- the argument that a JSON text says, by the letters behind an `a`; none where it isn't of their type
abbrev pub json_argument : Owner → (letters : List ℕ) → (json : List ℕ) → Option Argument
json_argument owner letters json =
    if bytes_eq letters (codes "s") then option_map argument.Texts (json_texts json)
    else option_map argument.Dict (json_dict owner json)

-- an argument before those behind it, if these are of their types
abbrev pub before : Argument → Option (List Argument) → Option (List Argument)
before first others = option_map (λ others. first ∷ others) others

-- A list or a dict is the last argument.
unfoldable pub last_argument : Owner → (letters : List ℕ) → List (List ℕ) → Option (Option Argument)
last_argument owner letters words = do
  word ← next words
  at_end (json_argument owner letters word.0) word.1

abbrev pub alone : Option (Option Argument) → Option (Option (List Argument))
alone told = option_map (λ last. option_map (λ argument. argument ∷ []) last) told

-- The arguments that words spell. There are none for too few or too many words, or a word that is no number where it should be; and it is
-- `Some None` where a JSON text isn't of its type.
abbrev pub arguments_in : Owner → (letters : List ℕ) → List (List ℕ) → Option (Option (List Argument))
arguments_in owner [] words = at_end (Some []) words
arguments_in owner (letter ∷ letters) words =
    if letter == 97 then alone (last_argument owner letters words)
    else (if letter == 105 then (do
      word ← next words
      number ← int_of word.0
      others ← arguments_in owner letters word.1
      Some (before (argument.Int number) others))
    else (do
      word ← next words
      others ← arguments_in owner letters word.1
      Some (before (argument.Text word.0) others)))

-- what comes before all arguments, and they
abbrev pub behind : (front : List Argument) → Option (Option (List Argument)) → Option (Option (List Argument))
behind front arguments = option_map (λ told. option_map (λ others. front ++ others) told) arguments
