-- Words that are options of a command: two words each, a name and its value (this project's own).
use Rattle.std.specs.Prelude.{ℕ, Bool, true, false, not, ◌&&◌, if◌then◌else◌, codes, List, [], ◌∷◌, ◌++◌, Option, None, Some, is_some}
use Rattle.std.specs.Option.{option_map_or}
use Rattle.std.specs.Str.{bytes_eq}
use Rattle.fw_command.specs.Forms.{fits, form_of, is_plain}
use Rattle.fw_command.specs.declared.verb.Verb.{Verb}
use Rattle.fw_command.specs.declared.verb.Verb.TheVariants as verb

-- the value of the first option of this name
unfoldable pub given : (name : List ℕ) (words : List (List ℕ)) → Option (List ℕ)
given name [] = None
given name (word ∷ []) = None
given name (word ∷ value ∷ words) = if bytes_eq word name then Some value else given name words

-- the value of an option, by its name without the `--` in front
abbrev pub value_in : (words : List (List ℕ)) (name : List ℕ) → Option (List ℕ)
value_in words name = given (codes "--" ++ name) words

-- whether a command has an option of this name that takes this value
unfoldable pub is_option : Verb → (name value : List ℕ) → Bool
is_option verb name value = option_map_or (λ form. is_plain value && fits form value) (form_of verb name) false

-- whether words are options of a command, each at most once
unfoldable pub are_options : Verb → (words : List (List ℕ)) → Bool
are_options verb [] = true
are_options verb (name ∷ []) = false
are_options verb (name ∷ value ∷ words) = is_option verb name value && (not (is_some (given name words)) && are_options verb words)

-- whether the options that a command asks for are given
abbrev pub is_complete : Verb → (words : List (List ℕ)) → Bool
is_complete verb.Run words = true
is_complete verb.Serve words = is_some (given (codes "--socket") words) && (is_some (given (codes "--workers") words) && is_some (given (codes "--sessions") words))
is_complete verb.Gen words = is_some (given (codes "--seed") words) && is_some (given (codes "--lines") words)
