-- The command line parser of each command that has options, as `clap` sees it.
use Rattle.std.specs.Prelude.{◌≡◌, ℕ, true, codes, List, [], ◌∷◌, Some}
use Rattle.std.specs.List.{fold}
use Rattle.clap.specs.Simple.{App, new_rule, new_shape, with_rule}
use Rattle.clap.specs.Walk.{Rule}
use Rattle.clap.specs.Matches.{first_value}
use Rattle.clap.specs.declared.parser.matches.Found.{Found}
use Rattle.fw_command.specs.Options.{value_in}
use Rattle.fw_command.specs.declared.verb.Verb.{Verb}
use Rattle.fw_command.specs.declared.verb.Verb.TheVariants as verb

-- a command with no options, of words that begin behind it
abbrev pub new_app : (name : List ℕ) → App
new_app name = record { top = record (new_shape name) { no_binary_name = true }; subs = [] }

-- an option, by its name without the `--` in front
abbrev pub option_rule : (name : List ℕ) → Rule
option_rule name = record (new_rule name) { long = Some name }

abbrev pub with_options : App → (names : List (List ℕ)) → App
with_options app names = fold (λ app name. with_rule app (option_rule name)) app names

abbrev pub app : Verb → App
app verb.Run = with_options (new_app (codes "run")) (codes "state" ∷ codes "fail-commit" ∷ codes "fail-save" ∷ [])
app verb.Serve = with_options (new_app (codes "serve")) (codes "socket" ∷ codes "workers" ∷ codes "sessions" ∷ codes "state" ∷ [])
app verb.Gen = with_options (new_app (codes "gen")) (codes "seed" ∷ codes "lines" ∷ [])

-- what was found are the values of the options among words
abbrev pub GivesValues : Found → (words : List (List ℕ)) → Type 0
GivesValues found words = (name : List ℕ) → first_value found name ≡ value_in words name
