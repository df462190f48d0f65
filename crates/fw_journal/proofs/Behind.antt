-- One entry more.
use Rattle.std.proofs.Common.{arith, ◌≡◌, drop, ℕ, ◌+◌, suc, List, [], ◌∷◌, ◌++◌, length, ap, sym, ◌∙◌, length-append}
use Rattle.fw_calls.specs.Weight.{weight}
use Rattle.fw_calls.specs.declared.event.Entry.{Entry}
use Rattle.fw_calls.specs.declared.signal.Signal.{Signal}
use Rattle.fw_journal.specs.Journal.{joined, open_sessions, opened, opened_from, weights}
use lib.Seq.{drop-length}

-- the sessions that are open behind one entry more
pub opened_behind : (place : ℕ) (before : List ℕ) (entries : List Entry) (entry : Entry)
    → opened_from place before (entries ++ entry ∷ []) ≡ opened (place + length entries) entry.event (opened_from place before entries)
unfolding opened_from
opened_behind place before [] entry =
    let none : place ≡ place + 0 = omega arith in
    ap (λ (at : ℕ). opened at entry.event before) none
opened_behind place before (first ∷ others) entry =
    let one_more : suc place + length others ≡ place + suc (length others) = omega arith in
    opened_behind (suc place) (opened place first.event before) others entry
    ∙ ap (λ (at : ℕ). opened at entry.event (opened_from (suc place) (opened place first.event before) others)) one_more

-- and what they weigh
pub weights_behind : (entries : List Entry) (told : List (List Signal)) (entry : Entry) (signals : List Signal)
    → length told ≡ length entries
    → weights (entries ++ entry ∷ []) (told ++ signals ∷ []) ≡ weights entries told + weight entry.event signals
unfolding weights
weights_behind [] [] entry signals same = let alone : (weighs : ℕ) → weighs + 0 ≡ 0 + weighs = λ weighs. omega arith in alone (weight entry.event signals)
weights_behind [] (first ∷ told) entry signals same = absurd (omega (arith, same))
weights_behind (first ∷ entries) [] entry signals same = absurd (omega (arith, same))
weights_behind (first ∷ entries) (others ∷ told) entry signals same =
    let step : (one two three four : ℕ) → two ≡ three + four → one + two ≡ (one + three) + four = λ one two three four is. omega (arith, is) in
    step (weight first.event others) _ (weights entries told) (weight entry.event signals)
    (weights_behind entries told entry signals (omega (arith, same)))

-- a journal with one entry more is one
pub still_kept : (entries later : List Entry) (told later_told : List (List Signal)) (open_before open_then : List ℕ) (entry : Entry) (signals : List Signal) (heavy more : ℕ)
    → length told ≡ length entries
    → open_before ≡ open_sessions entries
    → heavy ≡ weights entries told
    → more ≡ weight entry.event signals
    → later ≡ entries ++ entry ∷ []
    → later_told ≡ told ++ signals ∷ []
    → open_then ≡ opened (length entries) entry.event open_before
    → (length later_told ≡ length later) × (open_then ≡ open_sessions later) × (heavy + more ≡ weights later later_told)
still_kept entries later told later_told open_before open_then entry signals heavy more same is_open weighs weighs_more is is_told follows =
    let none : 0 + length entries ≡ length entries = omega arith in (
      ap length is_told ∙ length-append told (signals ∷ []) ∙ ap (λ count. count + 1) same ∙ sym (length-append entries (entry ∷ [])) ∙ sym (ap length is),
      follows ∙ ap (opened (length entries) entry.event) is_open
          ∙ sym (opened_behind 0 [] entries entry ∙ ap (λ (at : ℕ). opened at entry.event (open_sessions entries)) none)
          ∙ ap open_sessions (sym is),
      (ap (λ one. one + more) weighs ∙ ap (λ other. weights entries told + other) weighs_more
          ∙ sym (weights_behind entries told entry signals same)
          ∙ ap (λ which. weights which (told ++ signals ∷ [])) (sym is)
          ∙ ap (weights later) (sym is_told)),
    )

-- behind all entries nothing is told
pub nothing_behind : (told all items : List (List Signal)) (place : ℕ) → told ≡ items → items ≡ all → place ≡ length told → [] ≡ joined (drop place all)
unfolding joined
nothing_behind told all items place is is_all at =
    let place_is : place ≡ length all = at ∙ ap length (is ∙ is_all) in
    sym (ap joined (ap (λ (from : ℕ). drop from all) place_is ∙ drop-length all))
