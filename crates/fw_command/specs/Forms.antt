-- The options of each command, and what their values have to be (this project's own).
use Rattle.std.specs.Prelude.{ℕ, ◌-◌, ◌^◌, ◌==◌, Bool, true, false, not, codes, List, [], ◌∷◌, Option, is_some}
use Rattle.fw_text.specs.Names.{named}
use Rattle.fw_command.specs.Numbers.{is_within, places}
use Rattle.fw_command.specs.declared.form.Form.{Form}
use Rattle.fw_command.specs.declared.form.Form.TheVariants as form
use Rattle.fw_command.specs.declared.verb.Verb.{Verb}
use Rattle.fw_command.specs.declared.verb.Verb.TheVariants as verb

abbrev pub run_forms : List (List ℕ × Form)
run_forms = (codes "--state", form.Path) ∷ (codes "--fail-commit", form.Places) ∷ (codes "--fail-save", form.Places) ∷ []

abbrev pub serve_forms : List (List ℕ × Form)
serve_forms =
    (codes "--socket", form.Path) ∷ (codes "--workers", form.Number 1 64) ∷ (codes "--sessions", form.Number 0 10000000) ∷
    (codes "--state", form.Path) ∷ []

abbrev pub gen_forms : List (List ℕ × Form)
gen_forms = (codes "--seed", form.Number 0 (2 ^ 64 - 1)) ∷ (codes "--lines", form.Number 1 100000) ∷ []

unfoldable pub run_form : (name : List ℕ) → Option Form
run_form name = named run_forms name

unfoldable pub serve_form : (name : List ℕ) → Option Form
serve_form name = named serve_forms name

unfoldable pub gen_form : (name : List ℕ) → Option Form
gen_form name = named gen_forms name

-- what the value of an option of this name has to be, where the command has one
abbrev pub form_of : Verb → (name : List ℕ) → Option Form
form_of verb.Run name = run_form name
form_of verb.Serve name = serve_form name
form_of verb.Gen name = gen_form name

-- whether a value isn't empty and doesn't begin with `-`
abbrev pub is_plain : List ℕ → Bool
is_plain [] = false
is_plain (first ∷ others) = not (first == 45)

-- whether a value is of a form
abbrev pub fits : Form → List ℕ → Bool
fits form.Path value = true
fits form.Places value = is_some (places value)
fits (form.Number least most) value = is_within value least most
