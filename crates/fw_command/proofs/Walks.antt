-- What `clap` finds where it walks over all options of a command.
use Rattle.std.proofs.Common.{◌≡◌, ◌∙◌, ◌||◌, ◌&&◌, ◌==◌, ◌∷◌, ◌++◌, ℕ, List, [], Bool, true, false, Option, None, Some, is_some, refl, ap, ap₂, sym, subst, true≢false, if◌then◌else◌, option_and_then}
use Rattle.std.specs.List.{fold}
use Rattle.std.specs.Str.{bytes_eq}
use Rattle.std.proofs.lemmas.Slice.Eq.{bytes_eq-Decides}
use Rattle.clap.specs.Simple.{Shape}
use Rattle.clap.specs.Takes.{settle_passes, turn_passes, walk_passes}
use Rattle.clap.specs.Walk.{Row, Rule, Text, first_of, has_row, settled_rows, walked}
use Rattle.fw_command.proofs.Known.{IsKnown, IsNamed}
use Rattle.fw_command.proofs.Rows.{first_more, first_value, has_more, new_row, no_value, used_new}
use Rattle.fw_command.proofs.Walking.{close_passes, closed, held, open_passes, opened, standing}
use Rattle.fw_command.proofs.Words.{IsPlain, first_option, option_parts}
use Rattle.fw_command.specs.Forms.{form_of}
use Rattle.fw_command.specs.Options.{are_options, given}
use Rattle.fw_command.specs.declared.verb.Verb.{Verb}

-- Where a walk over words ends: it passes, the last option passes, and of each name it has the value that it had before or that stands among the words.
pub record Reaches (shape : Shape) (words : List Text) (rows : List Row) (pending : Option (Text × List Text)) : Type 0 where
  pub last_rows : List Row
  pub last : Option (Text × List Text)
  pub walk : fold (walked shape.rules []) (standing rows pending) words ≡ standing last_rows last
  pub passes : walk_passes shape [] (standing rows pending) words ≡ true
  pub settles : settle_passes shape.rules shape.args_override_self (held last_rows last) ≡ true
  pub gives : (name : Text) → first_of name (settled_rows shape.rules last last_rows)
      ≡ (if has_row name (settled_rows shape.rules pending rows) then first_of name (settled_rows shape.rules pending rows) else given (45 ∷ 45 ∷ name) words)

-- no option that stands among words has a row
abbrev pub AreNew : List Text → List Row → Type 0
AreNew words rows = (name : Text) → is_some (given (45 ∷ 45 ∷ name) words) ≡ true → has_row name rows ≡ false

-- the names that an option more leaves without a row
module _ (name value : Text) (words : List Text) (rows : List Row) (same : bytes_eq name name ≡ true)
    (once : is_some (given (45 ∷ 45 ∷ name) words) ≡ false) (new : AreNew ((45 ∷ 45 ∷ name) ∷ value ∷ words) rows) where
  pub is_new : has_row name rows ≡ false
  unfolding given
  is_new = new name (ap (λ found. is_some (if found then Some value else given (45 ∷ 45 ∷ name) words)) same)

  pub still_new : AreNew words (rows ++ new_row name value ∷ [])
  unfolding given
  still_new other there = has_more other rows (new_row name value) ∙ go (bytes_eq name other) refl
    where
      go : (found : Bool) → bytes_eq name other ≡ found → (has_row other rows || found) ≡ false
      go true is =
          let one : name ≡ other = (bytes_eq-Decides name other).0 is in
          absurd (true≢false (sym there ∙ subst (λ text. is_some (given (45 ∷ 45 ∷ text) words) ≡ false) one once))
      go false is =
          ap₂ (λ a b. a || b) (new other (ap (λ found. is_some (if found then Some value else given (45 ∷ 45 ∷ other) words)) is ∙ there)) refl

  -- and what is given
  pub gives_more : (last : List Row)
      → ((other : Text) → first_of other last
      ≡ (if has_row other (rows ++ new_row name value ∷ []) then first_of other (rows ++ new_row name value ∷ []) else given (45 ∷ 45 ∷ other) words))
      → (other : Text) → first_of other last ≡ (if has_row other rows then first_of other rows else given (45 ∷ 45 ∷ other) ((45 ∷ 45 ∷ name) ∷ value ∷ words))
  unfolding given
  gives_more last gives other =
      gives other
      ∙ ap₂ (λ there first. if there then first else given (45 ∷ 45 ∷ other) words) (has_more other rows (new_row name value)) (first_more other rows (new_row name value))
      ∙ go (has_row other rows) (bytes_eq name other)
    where
      go : (had found : Bool)
          → (if had || found then (if had then first_of other rows else option_and_then first_value (if found then Some (new_row name value) else None)) else given (45 ∷ 45 ∷ other) words)
          ≡ (if had then first_of other rows else (if found then Some value else given (45 ∷ 45 ∷ other) words))
      go true found = refl
      go false true = refl
      go false false = refl

-- the row of an option that is still to come
settled_new : (rules : List Rule) (name value : Text) (rows : List Row) → IsKnown rules name → has_row name rows ≡ false
    → settled_rows rules (Some (name, value ∷ [])) rows ≡ rows ++ new_row name value ∷ []
settled_new rules name value rows known new = rw known.by_id (used_new name value rows new)

-- and that it passes
settles_new : (shape : Shape) (name value : Text) (rows : List Row) → IsKnown shape.rules name → has_row name rows ≡ false
    → settle_passes shape.rules shape.args_override_self (held rows (Some (name, value ∷ []))) ≡ true
settles_new shape name value rows known new = rw (known.by_id, new) refl

-- a walk over one option more
module _ (shape : Shape) (name : Text) where
  one_more : (first : ℕ) (rest : Text) (words : List Text) (rows : List Row) (pending : Option (Text × List Text)) → IsKnown shape.rules name
      → (first == 45) ≡ false
      → settle_passes shape.rules shape.args_override_self (held rows pending) ≡ true
      → is_some (given (45 ∷ 45 ∷ name) words) ≡ false
      → AreNew ((45 ∷ 45 ∷ name) ∷ (first ∷ rest) ∷ words) (settled_rows shape.rules pending rows)
      → (AreNew words (settled_rows shape.rules (Some (name, (first ∷ rest) ∷ [])) (settled_rows shape.rules pending rows))
      → settle_passes shape.rules shape.args_override_self (held (settled_rows shape.rules pending rows) (Some (name, (first ∷ rest) ∷ []))) ≡ true
      → Reaches shape words (settled_rows shape.rules pending rows) (Some (name, (first ∷ rest) ∷ [])))
      → Reaches shape ((45 ∷ 45 ∷ name) ∷ (first ∷ rest) ∷ words) rows pending
  unfolding walk_passes
  one_more first rest words rows pending known plain settles once new behind =
      let now = settled_rows shape.rules pending rows in
      let value = first ∷ rest in
      let empty = is_new name value words now known.same once new in
      let settled = settled_new shape.rules name value now known empty in
      let reached = behind (subst (AreNew words) (sym settled) (still_new name value words now known.same once new)) (settles_new shape name value now known empty) in
      let opening = opened shape.rules name known rows pending in
      let closing = closed shape.rules name known now first rest plain in
      record {
        last_rows = reached.last_rows;
        last = reached.last;
        walk = ap (λ walk. fold (walked shape.rules []) (walked shape.rules [] walk value) words) opening
            ∙ (ap (λ walk. fold (walked shape.rules []) walk words) closing ∙ reached.walk);
        passes = ap₂ (λ a b. a && b) (open_passes shape name known rows pending settles)
            (ap (λ walk. turn_passes shape [] walk value && walk_passes shape [] (walked shape.rules [] walk value) words) opening
            ∙ ap₂ (λ a b. a && b) (close_passes shape name known now first rest plain) (ap (λ walk. walk_passes shape [] walk words) closing ∙ reached.passes));
        settles = reached.settles;
        gives = gives_more name value words now known.same once new (settled_rows shape.rules reached.last reached.last_rows)
            (λ other. reached.gives other ∙ ap (λ rows. if has_row other rows then first_of other rows else given (45 ∷ 45 ∷ other) words) settled);
      }

-- the same, where a word is the option and the next one its value
module _ (shape : Shape) (words : List Text) (rows : List Row) (pending : Option (Text × List Text)) where
  abbrev now : List Row
  now = settled_rows shape.rules pending rows

  -- what a walk over the words behind them reaches
  abbrev Behind : (value : Text) → Type 0
  Behind value = (name : Text) → AreNew words (settled_rows shape.rules (Some (name, value ∷ [])) now)
      → settle_passes shape.rules shape.args_override_self (held now (Some (name, value ∷ []))) ≡ true → Reaches shape words now (Some (name, value ∷ []))

  two_words : (word value : Text) → IsNamed shape.rules word → IsPlain value → settle_passes shape.rules shape.args_override_self (held rows pending) ≡ true
      → is_some (given word words) ≡ false → AreNew (word ∷ value ∷ words) now → Behind value → Reaches shape (word ∷ value ∷ words) rows pending
  two_words word value named plain settles =
      subst (λ word. is_some (given word words) ≡ false → AreNew (word ∷ value ∷ words) now → Behind value → Reaches shape (word ∷ value ∷ words) rows pending)
      (sym named.1)
      (λ once. subst (λ value. AreNew ((45 ∷ 45 ∷ named.0) ∷ value ∷ words) now → Behind value
      → Reaches shape ((45 ∷ 45 ∷ named.0) ∷ value ∷ words) rows pending)
      (sym plain.parts)
      (λ new behind. one_more shape named.0 plain.first plain.rest words rows pending named.2 plain.plain settles once new (behind named.0)))

-- a walk over all options
pub walks : (shape : Shape) (verb : Verb) → ((word : Text) → is_some (form_of verb word) ≡ true → IsNamed shape.rules word) → (words : List Text)
    → are_options verb words ≡ true → (rows : List Row) (pending : Option (Text × List Text))
    → settle_passes shape.rules shape.args_override_self (held rows pending) ≡ true → AreNew words (settled_rows shape.rules pending rows)
    → Reaches shape words rows pending
unfolding given are_options walk_passes
walks shape verb known [] are rows pending settles new = record {
  last_rows = rows;
  last = pending;
  walk = refl;
  passes = refl;
  settles = settles;
  gives = λ name. no_value name (settled_rows shape.rules pending rows);
}
walks shape verb known (word ∷ []) are rows pending settles new = absurd (true≢false (sym are))
walks shape verb known (word ∷ value ∷ words) are rows pending settles new =
    let parts = first_option verb word value words are in
    let option = option_parts verb word value parts.0 in
    two_words shape words rows pending word value (known word option.0) option.1 settles parts.1 new
    (λ name newer passes. walks shape verb known words parts.2 (settled_rows shape.rules pending rows) (Some (name, value ∷ [])) passes newer)
