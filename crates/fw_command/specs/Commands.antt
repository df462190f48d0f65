-- The command that words ask for (this project's own).
use Rattle.std.specs.Prelude.{ℕ, ◌-◌, ◌^◌, ◌&&◌, if◌then◌else◌, codes, List, [], ◌∷◌, Option, None, Some}
use Rattle.std.specs.Str.{bytes_eq}
use Rattle.fw_text.specs.Steps.{◌>>=◌}
use Rattle.fw_command.specs.Numbers.{number_given, places_given}
use Rattle.fw_command.specs.Options.{are_options, given, is_complete}
use Rattle.fw_command.specs.declared.command.Command.{Command}
use Rattle.fw_command.specs.declared.command.Command.TheVariants as command
use Rattle.fw_command.specs.declared.verb.Verb.{Verb}
use Rattle.fw_command.specs.declared.verb.Verb.TheVariants as verb

-- `run`: the places at which commits and saves are to fail, and the state's path
unfoldable pub run_of : (words : List (List ℕ)) → Option Command
run_of words = do
  fail_commit ← places_given (given (codes "--fail-commit") words)
  fail_save ← places_given (given (codes "--fail-save") words)
  Some (command.Run (given (codes "--state") words) fail_commit fail_save)

-- `serve`: its forms keep workers within 64 and sessions within 10,000,000
unfoldable pub serve_of : (words : List (List ℕ)) → Option Command
serve_of words = do
  socket ← given (codes "--socket") words
  workers ← number_given (2 ^ 32 - 1) (given (codes "--workers") words)
  sessions ← number_given (2 ^ 64 - 1) (given (codes "--sessions") words)
  Some (command.Serve socket workers sessions (given (codes "--state") words))

-- `gen`: its forms keep lines within 100,000
unfoldable pub gen_of : (words : List (List ℕ)) → Option Command
gen_of words = do
  seed ← number_given (2 ^ 64 - 1) (given (codes "--seed") words)
  lines ← number_given (2 ^ 32 - 1) (given (codes "--lines") words)
  Some (command.Gen seed lines)

-- what the options of a command ask for
abbrev pub asked : Verb → (words : List (List ℕ)) → Option Command
asked verb.Run words = run_of words
asked verb.Serve words = serve_of words
asked verb.Gen words = gen_of words

-- what words ask for that are options of a command, with those that it asks for among them
unfoldable pub options_of : Verb → (words : List (List ℕ)) → Option Command
options_of verb words = if are_options verb words && is_complete verb words then asked verb words else None

-- nothing follows `help`
abbrev pub help_of : (words : List (List ℕ)) → Option Command
help_of [] = Some command.Help
help_of (word ∷ words) = None

-- The command comes first, then its options.
unfoldable pub command_of : (words : List (List ℕ)) → Option Command
command_of [] = None
command_of (word ∷ words) =
    if bytes_eq word (codes "run") then options_of verb.Run words
    else if bytes_eq word (codes "serve") then options_of verb.Serve words
    else if bytes_eq word (codes "gen") then options_of verb.Gen words
    else if bytes_eq word (codes "help") then help_of words
    else None
