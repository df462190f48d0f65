-- Words that are options of a command, one option after another.
use Rattle.std.proofs.Common.{◌≡◌, ◌==◌, ◌&&◌, ◌∷◌, not, ℕ, List, [], Bool, true, false, Option, None, Some, is_some, refl, sym, subst, true≢false, if◌then◌else◌}
use Rattle.std.proofs.lemmas.Slice.Eq.{bytes_eq-Decides}
use Rattle.std.specs.Option.{option_map_or}
use Rattle.std.specs.Str.{bytes_eq}
use Rattle.clap.specs.Walk.{Rule, Text}
use Rattle.fw_text.specs.Names.{named}
use Rattle.fw_command.proofs.Known.{IsNamed}
use Rattle.fw_command.specs.Forms.{fits, form_of, is_plain}
use Rattle.fw_command.specs.Options.{are_options, given, is_option}
use Rattle.fw_command.specs.declared.form.Form.{Form}
use Rattle.fw_command.specs.declared.verb.Verb.{Verb}

-- a text that isn't empty and doesn't begin with `-`
pub record IsPlain (value : Text) : Type 0 where
  pub first : ℕ
  pub rest : Text
  pub parts : value ≡ first ∷ rest
  pub plain : (first == 45) ≡ false

pub both : (a b : Bool) → (a && b) ≡ true → (a ≡ true) × (b ≡ true)
both true b e = (refl, e)
both false b e = absurd (true≢false (sym e))

pub is_not : (a : Bool) → not a ≡ true → a ≡ false
is_not true e = absurd (true≢false (sym e))
is_not false e = refl

plain_parts : (value : Text) → is_plain value ≡ true → IsPlain value
plain_parts [] e = absurd (true≢false (sym e))
plain_parts (first ∷ rest) e = record { first = first; rest = rest; parts = refl; plain = is_not (first == 45) e }

-- an option has a form, and its value is plain
pub option_parts : (verb : Verb) (name value : Text) → is_option verb name value ≡ true → (is_some (form_of verb name) ≡ true) × IsPlain value
unfolding is_option
option_parts verb name value e = go (form_of verb name) e
  where
    go : (form : Option Form) → option_map_or (λ form. is_plain value && fits form value) form false ≡ true → (is_some form ≡ true) × IsPlain value
    go None e = absurd (true≢false (sym e))
    go (Some form) e = (refl, plain_parts value (both (is_plain value) (fits form value) e).0)

-- what options of a command are: a first one that isn't given again, and the others
pub first_option : (verb : Verb) (name value : Text) (words : List Text) → are_options verb (name ∷ value ∷ words) ≡ true
    → (is_option verb name value ≡ true) × (is_some (given name words) ≡ false) × (are_options verb words ≡ true)
unfolding are_options
first_option verb name value words e =
    let parts = both (is_option verb name value) _ e in
    let others = both (not (is_some (given name words))) _ parts.1 in
    (parts.0, is_not (is_some (given name words)) others.0, others.1)

-- whether all names in a table are those of options that a parser knows
abbrev pub AreKnown : (rules : List Rule) → List (Text × Form) → Type 0
AreKnown rules [] = Unit {0}
AreKnown rules (row ∷ rows) = IsNamed rules row.0 × AreKnown rules rows

pub known_name : (rules : List Rule) (forms : List (Text × Form)) → AreKnown rules forms → (word : Text) → is_some (named forms word) ≡ true → IsNamed rules word
known_name rules [] known word e = absurd (true≢false (sym e))
known_name rules (row ∷ rows) known word e = go (bytes_eq word row.0) refl e (known_name rules rows known.1 word)
  where
    go : (found : Bool) → bytes_eq word row.0 ≡ found → is_some (if found then Some row.1 else named rows word) ≡ true
        → (is_some (named rows word) ≡ true → IsNamed rules word) → IsNamed rules word
    go true same e others = subst (IsNamed rules) (sym ((bytes_eq-Decides word row.0).0 same)) known.0
    go false same e others = others e
