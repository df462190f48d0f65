-- One step of reading values, and of the loops over items and members.
use Rattle.std.proofs.Common.{◌≡◌, ℕ, zero, suc, ◌+◌, ◌-◌, ◌<◌, ◌≤◌, Bool, true, false, eqb, List, [], ◌∷◌, ◌++◌, length, get_or, drop, Ok, Err, refl, sym, ap, ◌∙◌, append_assoc, arith, add-one, drop-cons}
use Rattle.std.proofs.lemmas.Bool.{true≢false, eqb-true}
use Rattle.std.proofs.lemmas.List.{append-nil, nil_from_length, length-drop}
use Rattle.dbus_signature.specs.declared.kind.Basic.{Basic}
use Rattle.dbus_signature.specs.declared.kind.Kind.{Kind}
use Rattle.dbus_signature.specs.declared.error.WireError.{WireError}
use Rattle.dbus_signature.specs.declared.error.WireError.TheVariants as errors
use Rattle.dbus_signature.specs.Reading.{Read, Reader, ◌>>=◌, Fails}
use Rattle.dbus_wire.specs.declared.value.Endian.{Endian}
use Rattle.dbus_wire.specs.declared.value.Value.{Value}
use Rattle.dbus_wire.specs.Values.{value_at, value_of, max_open, entry_at, open_value_at, closed_value_at, pair_at, items_at, members_at}
use Rattle.dbus_signature.specs.Signatures.{SpellsType}
use Rattle.dbus_signature.proofs.Whole.{one_kind}

pub value_opens : (e : Endian) (room : ℕ) (kind : Kind) (at : ℕ) (text : List ℕ) → 0 < room → value_at e room kind at text ≡ open_value_at e (room - 1) kind at text
unfolding value_at
value_opens e zero kind at text some = absurd (omega arith)
value_opens e (suc room) kind at text some = let same : suc room - 1 ≡ room = omega arith in rw same refl

pub value_closed : (e : Endian) (kind : Kind) (at : ℕ) (text : List ℕ) → value_at e 0 kind at text ≡ closed_value_at e kind at text
unfolding value_at
value_closed e kind at text = refl

pub entry_opens : (e : Endian) (room : ℕ) (key : Basic) (kind : Kind) (at : ℕ) (text : List ℕ) → 0 < room → entry_at e room key kind at text ≡ pair_at e key (value_at e (room - 1) kind) at text
unfolding value_at
entry_opens e zero key kind at text some = absurd (omega arith)
entry_opens e (suc room) key kind at text some = let same : suc room - 1 ≡ room = omega arith in rw same refl

pub entry_closed : (e : Endian) (key : Basic) (kind : Kind) (at : ℕ) (text : List ℕ) → entry_at e 0 key kind at text ≡ Err at
unfolding value_at
entry_closed e key kind at text = refl

pub ruleset value_steps = (value_opens, value_closed)

-- what was read before, and what is still read
abbrev pub with_values : {A : Type 0} → List A → Read (List A) → Read (List A)
with_values front read = read >>= λ x. Ok (front ++ x.0, x.1, x.2)

regroup : {A : Type 0} (front : List A) (v : A) (read : Read (List A)) → with_values front (read >>= λ x. Ok (v ∷ x.0, x.1, x.2)) ≡ with_values (front ++ v ∷ []) read
regroup {A} front v (Ok x) = ap (λ (vs : List A). Ok (vs, x.1, x.2)) (simp append_assoc)
regroup front v (Err place) = refl

pub some_left : (bytes : List ℕ) (b : Bool) → b ≡ eqb (length bytes) 0 → b ≡ false → 0 < length bytes
some_left [] b is isnt = absurd (true≢false (sym is ∙ isnt))
some_left (c ∷ bytes) b is isnt = omega arith

pub none_left : (bytes : List ℕ) (b : Bool) → b ≡ eqb (length bytes) 0 → b ≡ true → length bytes ≡ 0
none_left bytes b is holds = eqb-true (length bytes) 0 (sym is ∙ holds)

-- the next item
pub items_go_on : {A : Type 0} (item : Reader A) (front : List A) (n i at : ℕ) (text : List ℕ) (v : A) (next : ℕ) (rest : List ℕ) (all : Read (List A))
    → i < n → 0 < length text → item at text ≡ Ok (v, next, rest) → with_values front (items_at item (n - i) at text) ≡ all
    → with_values (front ++ v ∷ []) (items_at item (n - (i + 1)) next rest) ≡ all
unfolding items_at
items_go_on item front n i at [] v next rest all lt some is same = absurd (omega arith)
items_go_on item front n i at (c ∷ text) v next rest all lt some is same =
    let k : n - i ≡ suc (n - (i + 1)) = omega arith in
    let one : with_values front (items_at item (n - i) at (c ∷ text)) ≡ with_values (front ++ v ∷ []) (items_at item (n - (i + 1)) next rest) = rw (k, is) (regroup front v (items_at item (n - (i + 1)) next rest)) in
    sym one ∙ same

-- an item at fault
pub items_end : {A : Type 0} (item : Reader A) (e : WireError) (front : List A) (n i at : ℕ) (text : List ℕ) (all : Read (List A))
    → i < n → 0 < length text → Fails e (item at text) → with_values front (items_at item (n - i) at text) ≡ all → Fails e all
unfolding items_at
items_end item errors.Memory front n i at text all lt some fails same = tt
items_end item (errors.Bad place) front n i at [] all lt some fails same = absurd (omega arith)
items_end item (errors.Bad place) front n i at (c ∷ text) all lt some fails same =
    let k : n - i ≡ suc (n - (i + 1)) = omega arith in
    let one : with_values front (items_at item (n - i) at (c ∷ text)) ≡ Err place = rw (k, fails) refl in
    sym same ∙ one

-- the end of the bytes
pub items_done : {A : Type 0} (item : Reader A) (front : List A) (n at : ℕ) (text : List ℕ) (all : Read (List A))
    → length text ≡ 0 → with_values front (items_at item n at text) ≡ all → all ≡ Ok (front, at, text)
unfolding items_at
items_done {A} item front zero at [] all none same = sym same ∙ ap (λ (vs : List A). Ok (vs, at, [])) (append-nil front)
items_done {A} item front (suc n) at [] all none same = sym same ∙ ap (λ (vs : List A). Ok (vs, at, [])) (append-nil front)
items_done {A} item front n at (c ∷ text) all none same = absurd (omega arith)

-- bytes that are left behind as many items as there were bytes
pub items_left : {A : Type 0} (item : Reader A) (front : List A) (n i at : ℕ) (text : List ℕ) (all : Read (List A))
    → n ≤ i → 0 < length text → with_values front (items_at item (n - i) at text) ≡ all → all ≡ Err at
unfolding items_at
items_left item front n i at [] all le some same = absurd (omega arith)
items_left item front n i at (c ∷ text) all le some same =
    let k : n - i ≡ 0 = omega arith in
    let one : with_values front (items_at item (n - i) at (c ∷ text)) ≡ Err at = rw k refl in
    sym same ∙ one

-- the next member
pub members_go_on : (read : Kind → Reader Value) (front : List Value) (kinds : List Kind) (i : ℕ) (k : Kind) (at : ℕ) (text : List ℕ) (v : Value) (next : ℕ) (rest : List ℕ) (all : Read (List Value))
    → i < length kinds → k ≡ get_or kinds i k → read k at text ≡ Ok (v, next, rest) → with_values front (members_at read (drop i kinds) at text) ≡ all
    → with_values (front ++ v ∷ []) (members_at read (drop (i + 1) kinds) next rest) ≡ all
unfolding members_at
members_go_on read front kinds i k at text v next rest all lt item is same =
    let split : drop i kinds ≡ k ∷ drop (i + 1) kinds = rw add-one (drop-cons kinds i k lt ∙ ap (λ (x : Kind). x ∷ drop (suc i) kinds) (sym item)) in
    let one : with_values front (members_at read (drop i kinds) at text) ≡ with_values (front ++ v ∷ []) (members_at read (drop (i + 1) kinds) next rest) = rw (split, is) (regroup front v (members_at read (drop (i + 1) kinds) next rest)) in
    sym one ∙ same

-- a member at fault
pub members_end : (read : Kind → Reader Value) (e : WireError) (front : List Value) (kinds : List Kind) (i : ℕ) (k : Kind) (at : ℕ) (text : List ℕ) (all : Read (List Value))
    → i < length kinds → k ≡ get_or kinds i k → Fails e (read k at text) → with_values front (members_at read (drop i kinds) at text) ≡ all → Fails e all
unfolding members_at
members_end read errors.Memory front kinds i k at text all lt item fails same = tt
members_end read (errors.Bad place) front kinds i k at text all lt item fails same =
    let split : drop i kinds ≡ k ∷ drop (i + 1) kinds = rw add-one (drop-cons kinds i k lt ∙ ap (λ (x : Kind). x ∷ drop (suc i) kinds) (sym item)) in
    let one : with_values front (members_at read (drop i kinds) at text) ≡ Err place = rw (split, fails) refl in
    sym same ∙ one

-- all members
pub members_done : (read : Kind → Reader Value) (front : List Value) (kinds : List Kind) (i at : ℕ) (text : List ℕ) (all : Read (List Value))
    → length kinds ≤ i → with_values front (members_at read (drop i kinds) at text) ≡ all → all ≡ Ok (front, at, text)
unfolding members_at
members_done read front kinds i at text all le same =
    let none : drop i kinds ≡ [] = nil_from_length (drop i kinds) (omega (arith, length-drop i kinds)) in
    let one : with_values front (members_at read (drop i kinds) at text) ≡ Ok (front, at, text) = rw none (ap (λ (vs : List Value). Ok (vs, at, text)) (append-nil front)) in
    sym same ∙ one

-- ---- a value out of bytes, by a signature

pub value_fails : (e : WireError) (endian : Endian) (codes : List ℕ) (k l : Kind) (offset : ℕ) (rest bytes : List ℕ) → SpellsType codes k → SpellsType codes l → rest ≡ drop offset bytes
    → Fails e (value_at endian max_open k offset rest) → Fails e (value_of endian l offset bytes)
value_fails errors.Memory endian codes k l offset rest bytes s t is fails = tt
value_fails (errors.Bad place) endian codes k l offset rest bytes s t is fails =
    let failed : value_at endian max_open l offset (drop offset bytes) ≡ Err place = rw (← is, one_kind codes l k t s) fails in
    rw failed refl

pub value_found : (endian : Endian) (codes : List ℕ) (k l : Kind) (offset : ℕ) (rest bytes : List ℕ) (v : Value) (next : ℕ) (after : List ℕ) → SpellsType codes k → SpellsType codes l → rest ≡ drop offset bytes
    → value_at endian max_open k offset rest ≡ Ok (v, next, after) → value_of endian l offset bytes ≡ Ok (v, next)
value_found endian codes k l offset rest bytes v next after s t is found =
    let read : value_at endian max_open l offset (drop offset bytes) ≡ Ok (v, next, after) = rw (← is, one_kind codes l k t s) found in
    rw read refl
