-- How `clap` walks over options that it knows, two words at a time.
use Rattle.std.proofs.Common.{◌≡◌, ◌==◌, ◌∷◌, ℕ, List, [], true, false, Option, None, Some, refl}
use Rattle.clap.specs.Simple.{Shape}
use Rattle.clap.specs.Takes.{settle_passes, turn_passes}
use Rattle.clap.specs.Walk.{Held, Row, Rule, Text, Walk, idle, option, settled_rows, walked}
use Rattle.fw_command.proofs.Known.{IsKnown}

-- what is held between two options: the rows so far, and the option before, whose row is still to come
abbrev pub held : List Row → Option (Text × List Text) → Held
held rows pending = record { rows = rows; pending = pending; skip = 0 }

abbrev pub standing : List Row → Option (Text × List Text) → Walk
standing rows pending = record { held = held rows pending; waiting = idle; position = 1; is_trailing = false; stopped = None }

-- between an option and its value
abbrev pub waiting_for : List Row → Text → Walk
waiting_for rows name = record { held = held rows (Some (name, [])); waiting = option name; position = 1; is_trailing = false; stopped = None }

module _ (rules : List Rule) (name : Text) (known : IsKnown rules name) where
  -- the name of an option
  pub opened : (rows : List Row) (pending : Option (Text × List Text))
      → walked rules [] (standing rows pending) (45 ∷ 45 ∷ name) ≡ waiting_for (settled_rows rules pending rows) name
  unfolding walked
  opened rows pending = rw (known.dashes, known.long, known.by_long) refl

  -- its value
  pub closed : (rows : List Row) (first : ℕ) (rest : Text) → (first == 45) ≡ false
      → walked rules [] (waiting_for rows name) (first ∷ rest) ≡ standing rows (Some (name, (first ∷ rest) ∷ []))
  unfolding walked
  closed rows first rest plain = rw (plain, plain, known.by_id, known.same) refl

module _ (shape : Shape) (name : Text) (known : IsKnown shape.rules name) where
  pub open_passes : (rows : List Row) (pending : Option (Text × List Text)) → settle_passes shape.rules shape.args_override_self (held rows pending) ≡ true
      → turn_passes shape [] (standing rows pending) (45 ∷ 45 ∷ name) ≡ true
  open_passes rows pending settles = rw (known.dashes, known.long, known.by_long, settles) refl

  pub close_passes : (rows : List Row) (first : ℕ) (rest : Text) → (first == 45) ≡ false → turn_passes shape [] (waiting_for rows name) (first ∷ rest) ≡ true
  close_passes rows first rest plain = rw (plain, plain) refl
