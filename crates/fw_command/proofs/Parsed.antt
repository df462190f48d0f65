-- What `clap` makes of words that are options of a command: it takes them, and finds their values.
use Rattle.std.proofs.Common.{◌≡◌, ◌∙◌, ◌&&◌, ◌∷◌, List, [], Bool, true, false, None, is_some, refl, ap, ap₂, sym, true≢false, if◌then◌else◌, codes}
use Rattle.std.specs.List.{fold, list_all}
use Rattle.clap.proofs.TakesLemmas.{leaf_takes}
use Rattle.clap.proofs.WalkLemmas.{first_value-rows}
use Rattle.clap.specs.Matches.{first_value, found_of}
use Rattle.clap.specs.Simple.{HasMatchesOf, Shape, built, is_simple, matches_of}
use Rattle.clap.specs.Takes.{default_passes, is_valid, level_passes, settle_passes, takes}
use Rattle.clap.specs.Walk.{Row, Rule, Text, finished, first_of, default_rows, has_row, reading_by, nothing_held, settled_rows, walk, with_default}
use Rattle.clap.specs.declared.parser.matches.ArgMatches.{ArgMatches}
use Rattle.fw_command.proofs.Known.{IsNamed}
use Rattle.fw_command.proofs.Walks.{Reaches, walks}
use Rattle.fw_command.proofs.Words.{both, known_name}
use Rattle.fw_command.specs.Forms.{form_of, gen_form, gen_forms, run_form, run_forms, serve_form, serve_forms}
use Rattle.fw_command.specs.Options.{are_options, given}
use Rattle.fw_command.specs.Parsers.{GivesValues, app}
use Rattle.fw_command.specs.declared.verb.Verb.{Verb}
use Rattle.fw_command.specs.declared.verb.Verb.TheVariants as verb

-- the parser of a command, as it is built
abbrev pub shape_of : Verb → Shape
shape_of verb = (built (app verb)).top

-- the parser knows the options of its command
known : (verb : Verb) (word : Text) → is_some (form_of verb word) ≡ true → IsNamed (shape_of verb).rules word
unfolding run_form serve_form gen_form
known verb.Run = known_name (shape_of verb.Run).rules run_forms (
    ((codes "state", refl, record { dashes = refl; long = refl; by_long = refl; by_id = refl; same = refl }), ((codes "fail-commit", refl, record { dashes = refl; long = refl; by_long = refl; by_id = refl; same = refl }), ((codes "fail-save", refl, record { dashes = refl; long = refl; by_long = refl; by_id = refl; same = refl }), tt)))
    )
known verb.Serve = known_name (shape_of verb.Serve).rules serve_forms (
    ((codes "socket", refl, record { dashes = refl; long = refl; by_long = refl; by_id = refl; same = refl }), ((codes "workers", refl, record { dashes = refl; long = refl; by_long = refl; by_id = refl; same = refl }), ((codes "sessions", refl, record { dashes = refl; long = refl; by_long = refl; by_id = refl; same = refl }), ((codes "state", refl, record { dashes = refl; long = refl; by_long = refl; by_id = refl; same = refl }), tt))))
    )
known verb.Gen = known_name (shape_of verb.Gen).rules gen_forms (
    ((codes "seed", refl, record { dashes = refl; long = refl; by_long = refl; by_id = refl; same = refl }), ((codes "lines", refl, record { dashes = refl; long = refl; by_long = refl; by_id = refl; same = refl }), tt))
    )

-- where a walk over words that are options of the command ends
reached : (verb : Verb) (words : List Text) → are_options verb words ≡ true → Reaches (shape_of verb) words [] None
reached verb words are = walks (shape_of verb) verb (known verb) words are [] None refl (λ name there. refl)

abbrev are_none : List Text → Bool
are_none [] = true
are_none (value ∷ values) = false

-- a rule without default values leaves rows as they are
unchanged : (rule : Rule) (rows : List Row) → are_none rule.defaults ≡ true → with_default rows rule ≡ rows
unchanged rule rows none = go rule.defaults none (has_row rule.id rows)
  where
    go : (defaults : List Text) → are_none defaults ≡ true → (there : Bool)
        → (if there then rows else default_rows rule.id (reading_by rule) defaults rows) ≡ rows
    go defaults none true = refl
    go [] none false = refl
    go (value ∷ values) none false = absurd (true≢false (sym none))

no_defaults : (rules : List Rule) (rows : List Row) → list_all (λ rule. are_none rule.defaults) rules ≡ true → fold with_default rows rules ≡ rows
no_defaults [] rows e = refl
no_defaults (rule ∷ rules) rows e =
    let parts = both (are_none rule.defaults) _ e in
    ap (λ rows. fold with_default rows rules) (unchanged rule rows parts.0) ∙ no_defaults rules rows parts.1

without_defaults : (verb : Verb) → list_all (λ rule. are_none rule.defaults) (shape_of verb).rules ≡ true
without_defaults verb.Run = refl
without_defaults verb.Serve = refl
without_defaults verb.Gen = refl

defaults_pass : (verb : Verb) → list_all default_passes (shape_of verb).rules ≡ true
defaults_pass verb.Run = refl
defaults_pass verb.Serve = refl
defaults_pass verb.Gen = refl

always_valid : (verb : Verb) (rows : List Row) → is_valid (shape_of verb) rows false ≡ true
always_valid verb.Run rows = refl
always_valid verb.Serve rows = refl
always_valid verb.Gen rows = refl

simple : (verb : Verb) → is_simple (app verb) ≡ true
simple verb.Run = refl
simple verb.Serve = refl
simple verb.Gen = refl

-- the parser takes the words
passes : (verb : Verb) (words : List Text) → are_options verb words ≡ true → level_passes (shape_of verb) [] nothing_held words false ≡ true
passes verb words are =
    let there = reached verb words are in
    ap₂ (λ a b. a && b) there.passes (ap₂ (λ a b. a && b)
    (ap (λ end. settle_passes (shape_of verb).rules (shape_of verb).args_override_self end.held) there.walk ∙ there.settles)
    (ap₂ (λ a b. a && b) (defaults_pass verb) (always_valid verb (finished (shape_of verb).rules (walk (shape_of verb).rules [] nothing_held words).held))))

pub options_are_taken : (verb : Verb) (words : List Text) → are_options verb words ≡ true → takes (app verb) words ≡ true
options_are_taken verb.Run words are = leaf_takes (built (app verb.Run)) nothing_held words refl (passes verb.Run words are)
options_are_taken verb.Serve words are = leaf_takes (built (app verb.Serve)) nothing_held words refl (passes verb.Serve words are)
options_are_taken verb.Gen words are = leaf_takes (built (app verb.Gen)) nothing_held words refl (passes verb.Gen words are)

-- what it finds of a name is the value that is given
first_is_given : (verb : Verb) (words : List Text) → are_options verb words ≡ true → (name : Text)
    → first_of name (finished (shape_of verb).rules (walk (shape_of verb).rules [] nothing_held words).held) ≡ given (45 ∷ 45 ∷ name) words
first_is_given verb words are name =
    let there = reached verb words are in
    ap (λ end. first_of name (finished (shape_of verb).rules end.held)) there.walk
    ∙ (ap (first_of name) (no_defaults (shape_of verb).rules (settled_rows (shape_of verb).rules there.last there.last_rows) (without_defaults verb)) ∙ there.gives name)

matches_are_given : (verb : Verb) (words : List Text) → are_options verb words ≡ true → (name : Text) → first_of name (matches_of (app verb) words) ≡ given (45 ∷ 45 ∷ name) words
matches_are_given verb.Run words are name = first_is_given verb.Run words are name
matches_are_given verb.Serve words are name = first_is_given verb.Serve words are name
matches_are_given verb.Gen words are name = first_is_given verb.Gen words are name

pub values_are_found : (verb : Verb) (words : List Text) (matches : ArgMatches) → are_options verb words ≡ true → HasMatchesOf (app verb) words matches
    → GivesValues (found_of matches) words
values_are_found verb words matches are has name =
    first_value-rows (found_of matches) name ∙ (ap (first_of name) (has (simple verb)).0 ∙ matches_are_given verb words are name)
