-- Options that pass the check of the grammar ask for a command.
use Rattle.std.proofs.Common.{◌≡◌, ◌∙◌, ◌-◌, ◌^◌, ◌≤◌, ◌&&◌, nat_le, ℕ, List, [], ◌∷◌, Bool, true, false, Option, None, Some, is_some, codes, refl, ap, sym, true≢false, if◌then◌else◌, arith}
use Rattle.std.specs.Option.{option_map_or}
use Rattle.std.specs.Str.{bytes_eq}
use Rattle.std.proofs.lemmas.Slice.Eq.{bytes_eq-Decides}
use Rattle.std.proofs.lemmas.Bool.Decides.{nat_tests}
use Rattle.fw_text.specs.Number.{at_most, number, number_to}
use Rattle.fw_text.specs.Steps.{◌>>=◌}
use Rattle.fw_command.proofs.Words.{both, first_option}
use Rattle.fw_command.specs.Commands.{asked, gen_of, run_of, serve_of}
use Rattle.fw_command.specs.Forms.{fits, form_of, gen_form, is_plain, run_form, serve_form}
use Rattle.fw_command.specs.Numbers.{is_within, number_given, places, places_given}
use Rattle.fw_command.specs.Options.{are_options, given, is_complete, is_option}
use Rattle.fw_command.specs.declared.command.Command.TheVariants as command
use Rattle.fw_command.specs.declared.form.Form.{Form}
use Rattle.fw_command.specs.declared.form.Form.TheVariants as form
use Rattle.fw_command.specs.declared.verb.Verb.{Verb}
use Rattle.fw_command.specs.declared.verb.Verb.TheVariants as verb

-- a value that is given passes as one of its option
given_passes : (verb : Verb) (name value : List ℕ) (words : List (List ℕ)) → are_options verb words ≡ true → given name words ≡ Some value → is_option verb name value ≡ true
unfolding given are_options
given_passes verb name value [] are is = cc
given_passes verb name value (word ∷ []) are is = cc
given_passes verb name value (word ∷ next ∷ words) are is =
    let parts = first_option verb word next words are in
    go (bytes_eq word name) refl is parts.0 (given_passes verb name value words parts.2)
  where
    go : (found : Bool) → bytes_eq word name ≡ found → (if found then Some next else given name words) ≡ Some value → is_option verb word next ≡ true
        → (given name words ≡ Some value → is_option verb name value ≡ true) → is_option verb name value ≡ true
    go true same is passes others =
        let one : word ≡ name = (bytes_eq-Decides word name).0 same in
        let value_is : next ≡ value = cc in
        rw (← one, ← value_is) passes
    go false same is passes others = others is

-- a number within bounds is within wider ones
within_more : (value : List ℕ) (least most more : ℕ) → most ≤ more → is_within value least most ≡ true → is_some (number_to more value) ≡ true
within_more value least most more wider e = go (number value) e
  where
    go : (number : Option ℕ) → option_map_or (λ number. nat_le least number) (number >>= at_most most) false ≡ true → is_some (number >>= at_most more) ≡ true
    go None e = absurd (true≢false (sym e))
    go (Some number) e = within (nat_le number most) refl e
      where
        within : (is : Bool) → nat_le number most ≡ is
            → option_map_or (λ number. nat_le least number) (if is then Some number else None) false ≡ true → is_some (at_most more number) ≡ true
        within true is e =
            let wide : nat_le number more ≡ true = grind (arith, nat_tests) in
            rw wide refl
        within false is e = absurd (true≢false (sym e))

-- an option of a form that is given passes as of that form
given_fits : (verb : Verb) (name value : List ℕ) (words : List (List ℕ)) (form : Form) → form_of verb name ≡ Some form → are_options verb words ≡ true
    → given name words ≡ Some value → fits form value ≡ true
unfolding is_option
given_fits verb name value words form of are is =
    let passes = given_passes verb name value words are is in
    (both (is_plain value) (fits form value) (ap (λ found. option_map_or (λ form. is_plain value && fits form value) found false) (sym of) ∙ passes)).1

-- a number that is given is one
number_is : (verb : Verb) (name : List ℕ) (words : List (List ℕ)) (least most more : ℕ) → most ≤ more → form_of verb name ≡ Some (form.Number least most)
    → are_options verb words ≡ true → is_some (given name words) ≡ true → is_some (number_given more (given name words)) ≡ true
number_is verb name words least most more wider of are = go (given name words) (λ value. given_fits verb name value words (form.Number least most) of are)
  where
    go : (found : Option (List ℕ)) → ((value : List ℕ) → found ≡ Some value → is_within value least most ≡ true) → is_some found ≡ true
        → is_some (number_given more found) ≡ true
    go None fits there = absurd (true≢false (sym there))
    go (Some value) fits there = within_more value least most more wider (fits value refl)

-- places are, whether they are given or not
places_are : (verb : Verb) (name : List ℕ) (words : List (List ℕ)) → form_of verb name ≡ Some form.Places → are_options verb words ≡ true
    → is_some (places_given (given name words)) ≡ true
places_are verb name words of are = go (given name words) (λ value. given_fits verb name value words form.Places of are)
  where
    go : (found : Option (List ℕ)) → ((value : List ℕ) → found ≡ Some value → is_some (places value) ≡ true) → is_some (places_given found) ≡ true
    go None fits = refl
    go (Some value) fits = fits value refl

ask_two : {A B C : Type 0} (first : Option A) (second : Option B) (asked : A → B → C) → is_some first ≡ true → is_some second ≡ true
    → is_some (first >>= (λ a. second >>= (λ b. Some (asked a b)))) ≡ true
ask_two None second asked one two = absurd (true≢false (sym one))
ask_two (Some a) None asked one two = absurd (true≢false (sym two))
ask_two (Some a) (Some b) asked one two = refl

ask_three : {A B C D : Type 0} (first : Option A) (second : Option B) (third : Option C) (asked : A → B → C → D) → is_some first ≡ true
    → is_some second ≡ true → is_some third ≡ true → is_some (first >>= (λ a. second >>= (λ b. third >>= (λ c. Some (asked a b c))))) ≡ true
ask_three None second third asked one two three = absurd (true≢false (sym one))
ask_three (Some a) second third asked one two three = ask_two second third (asked a) two three

pub complete_ask : (verb : Verb) (words : List (List ℕ)) → are_options verb words ≡ true → is_complete verb words ≡ true → is_some (asked verb words) ≡ true
unfolding run_of serve_of gen_of run_form serve_form gen_form
complete_ask verb.Run words are whole =
    ask_two (places_given (given (codes "--fail-commit") words)) (places_given (given (codes "--fail-save") words))
    (λ fail_commit fail_save. command.Run (given (codes "--state") words) fail_commit fail_save)
    (places_are verb.Run (codes "--fail-commit") words refl are) (places_are verb.Run (codes "--fail-save") words refl are)
complete_ask verb.Serve words are whole =
    let socket = both (is_some (given (codes "--socket") words)) _ whole in
    let others = both (is_some (given (codes "--workers") words)) _ socket.1 in
    ask_three (given (codes "--socket") words) (number_given (2 ^ 32 - 1) (given (codes "--workers") words))
    (number_given (2 ^ 64 - 1) (given (codes "--sessions") words))
    (λ socket workers sessions. command.Serve socket workers sessions (given (codes "--state") words)) socket.0
    (number_is verb.Serve (codes "--workers") words 1 64 (2 ^ 32 - 1) (omega arith) refl are others.0)
    (number_is verb.Serve (codes "--sessions") words 0 10000000 (2 ^ 64 - 1) (omega arith) refl are others.1)
complete_ask verb.Gen words are whole =
    let parts = both (is_some (given (codes "--seed") words)) _ whole in
    ask_two (number_given (2 ^ 64 - 1) (given (codes "--seed") words)) (number_given (2 ^ 32 - 1) (given (codes "--lines") words)) command.Gen
    (number_is verb.Gen (codes "--seed") words 0 (2 ^ 64 - 1) (2 ^ 64 - 1) (omega arith) refl are parts.0)
    (number_is verb.Gen (codes "--lines") words 1 100000 (2 ^ 32 - 1) (omega arith) refl are parts.1)
