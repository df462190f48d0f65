-- One step of passing over values, and of the loops over items and members.
use Rattle.std.proofs.Common.{◌≡◌, ℕ, zero, suc, ◌+◌, ◌-◌, ◌<◌, ◌≤◌, Bool, true, false, eqb, List, [], ◌∷◌, length, get_or, drop, Ok, Err, refl, sym, ap, ◌∙◌, arith, add-one, drop-cons}
use Rattle.std.proofs.lemmas.Bool.{true≢false, eqb-true}
use Rattle.std.proofs.lemmas.List.{nil_from_length, length-drop}
use Rattle.dbus_signature.specs.declared.kind.Basic.{Basic}
use Rattle.dbus_signature.specs.declared.kind.Kind.{Kind}
use Rattle.dbus_signature.specs.declared.error.WireError.{WireError}
use Rattle.dbus_signature.specs.declared.error.WireError.TheVariants as errors
use Rattle.dbus_signature.specs.Reading.{Read, Fails}
use Rattle.dbus_wire.specs.declared.value.Endian.{Endian}
use Rattle.dbus_signature.specs.declared.kind.Basic.TheVariants.{Byte}
use Rattle.dbus_signature.specs.declared.kind.Kind.TheVariants.{Basic as Plain}
use Rattle.dbus_wire.proofs.Some.{out_plain}
use Rattle.dbus_held.specs.declared.ends.Element.{Element}
use Rattle.dbus_held.specs.declared.ends.Element.TheVariants as element
use Rattle.dbus_held.specs.Elements.{AreBytes, element_end}
use Rattle.dbus_held.specs.Ends.{byte_end, Ending, value_end, entry_end, open_value_end, closed_value_end, pair_end, items_end, members_end}

pub value_opens : (e : Endian) (room : ℕ) (kind : Kind) (at : ℕ) (text : List ℕ) → 0 < room → value_end e room kind at text ≡ open_value_end e (room - 1) kind at text
unfolding value_end
value_opens e zero kind at text some = absurd (omega arith)
value_opens e (suc room) kind at text some = let same : suc room - 1 ≡ room = omega arith in rw same refl

pub value_closed : (e : Endian) (kind : Kind) (at : ℕ) (text : List ℕ) → value_end e 0 kind at text ≡ closed_value_end e kind at text
unfolding value_end
value_closed e kind at text = refl

pub entry_opens : (e : Endian) (room : ℕ) (key : Basic) (kind : Kind) (at : ℕ) (text : List ℕ) → 0 < room → entry_end e room key kind at text ≡ pair_end e key (value_end e (room - 1) kind) at text
unfolding value_end
entry_opens e zero key kind at text some = absurd (omega arith)
entry_opens e (suc room) key kind at text some = let same : suc room - 1 ≡ room = omega arith in rw same refl

pub entry_closed : (e : Endian) (key : Basic) (kind : Kind) (at : ℕ) (text : List ℕ) → entry_end e 0 key kind at text ≡ Err at
unfolding value_end
entry_closed e key kind at text = refl

pub ruleset value_steps = (value_opens, value_closed)

-- the next item
pub items_go_on : (item : Ending) (n i at : ℕ) (text : List ℕ) (u : Unit {0}) (next : ℕ) (rest : List ℕ) (all : Read (Unit {0}))
    → i < n → 0 < length text → item at text ≡ Ok (u, next, rest) → items_end item (n - i) at text ≡ all → items_end item (n - (i + 1)) next rest ≡ all
unfolding items_end
items_go_on item n i at [] u next rest all lt some is same = absurd (omega arith)
items_go_on item n i at (c ∷ text) u next rest all lt some is same =
    let k : n - i ≡ suc (n - (i + 1)) = omega arith in
    let one : items_end item (n - i) at (c ∷ text) ≡ items_end item (n - (i + 1)) next rest = rw (k, is) refl in
    sym one ∙ same

-- an item at fault
pub items_fail : (item : Ending) (e : WireError) (n i at : ℕ) (text : List ℕ) (all : Read (Unit {0}))
    → i < n → 0 < length text → Fails e (item at text) → items_end item (n - i) at text ≡ all → Fails e all
unfolding items_end
items_fail item errors.Memory n i at text all lt some fails same = tt
items_fail item (errors.Bad place) n i at [] all lt some fails same = absurd (omega arith)
items_fail item (errors.Bad place) n i at (c ∷ text) all lt some fails same =
    let k : n - i ≡ suc (n - (i + 1)) = omega arith in
    let one : items_end item (n - i) at (c ∷ text) ≡ Err place = rw (k, fails) refl in
    sym same ∙ one

-- the end of the bytes
pub items_done : (item : Ending) (n at : ℕ) (text : List ℕ) (all : Read (Unit {0})) → length text ≡ 0 → items_end item n at text ≡ all → all ≡ Ok (tt, at, text)
unfolding items_end
items_done item zero at [] all none same = sym same
items_done item (suc n) at [] all none same = sym same
items_done item n at (c ∷ text) all none same = absurd (omega arith)

-- bytes that are left behind as many items as there were bytes
pub items_left : (item : Ending) (n i at : ℕ) (text : List ℕ) (all : Read (Unit {0})) → n ≤ i → 0 < length text → items_end item (n - i) at text ≡ all → all ≡ Err at
unfolding items_end
items_left item n i at [] all le some same = absurd (omega arith)
items_left item n i at (c ∷ text) all le some same =
    let k : n - i ≡ 0 = omega arith in
    let one : items_end item (n - i) at (c ∷ text) ≡ Err at = rw k refl in
    sym same ∙ one

-- the next member
pub members_go_on : (read : Kind → Ending) (kinds : List Kind) (i : ℕ) (k : Kind) (at : ℕ) (text : List ℕ) (u : Unit {0}) (next : ℕ) (rest : List ℕ) (all : Read (Unit {0}))
    → i < length kinds → k ≡ get_or kinds i k → read k at text ≡ Ok (u, next, rest) → members_end read (drop i kinds) at text ≡ all → members_end read (drop (i + 1) kinds) next rest ≡ all
unfolding members_end
members_go_on read kinds i k at text u next rest all lt item is same =
    let split : drop i kinds ≡ k ∷ drop (i + 1) kinds = rw add-one (drop-cons kinds i k lt ∙ ap (λ (x : Kind). x ∷ drop (suc i) kinds) (sym item)) in
    let one : members_end read (drop i kinds) at text ≡ members_end read (drop (i + 1) kinds) next rest = rw (split, is) refl in
    sym one ∙ same

-- a member at fault
pub members_fail : (read : Kind → Ending) (e : WireError) (kinds : List Kind) (i : ℕ) (k : Kind) (at : ℕ) (text : List ℕ) (all : Read (Unit {0}))
    → i < length kinds → k ≡ get_or kinds i k → Fails e (read k at text) → members_end read (drop i kinds) at text ≡ all → Fails e all
unfolding members_end
members_fail read errors.Memory kinds i k at text all lt item fails same = tt
members_fail read (errors.Bad place) kinds i k at text all lt item fails same =
    let split : drop i kinds ≡ k ∷ drop (i + 1) kinds = rw add-one (drop-cons kinds i k lt ∙ ap (λ (x : Kind). x ∷ drop (suc i) kinds) (sym item)) in
    let one : members_end read (drop i kinds) at text ≡ Err place = rw (split, fails) refl in
    sym same ∙ one

-- all members
pub members_done : (read : Kind → Ending) (kinds : List Kind) (i at : ℕ) (text : List ℕ) (all : Read (Unit {0})) → length kinds ≤ i → members_end read (drop i kinds) at text ≡ all → all ≡ Ok (tt, at, text)
unfolding members_end
members_done read kinds i at text all le same =
    let none : drop i kinds ≡ [] = nil_from_length (drop i kinds) (omega (arith, length-drop i kinds)) in
    let one : members_end read (drop i kinds) at text ≡ Ok (tt, at, text) = rw none refl in
    sym same ∙ one

-- ---- bytes, each of which is an element

plain_end : (e : Endian) (room : ℕ) (at : ℕ) (text : List ℕ) → value_end e room (Plain Byte) at text ≡ byte_end at text
unfolding value_end
plain_end e zero at text = rw (out_plain Byte) refl
plain_end e (suc room) at text = rw (out_plain Byte) refl

bytes_end : (n at : ℕ) (text : List ℕ) → length text ≤ n → items_end byte_end n at text ≡ Ok (tt, at + length text, [])
unfolding items_end byte_end
bytes_end zero at [] le = ap (λ (m : ℕ). Ok (tt, m, [])) (let h : at ≡ at + 0 = omega arith in h)
bytes_end (suc n) at [] le = ap (λ (m : ℕ). Ok (tt, m, [])) (let h : at ≡ at + 0 = omega arith in h)
bytes_end zero at (c ∷ text) le = absurd (omega arith)
bytes_end (suc n) at (c ∷ text) le = bytes_end n (at + 1) text (omega arith) ∙ ap (λ (m : ℕ). Ok (tt, m, [])) (let h : at + 1 + length text ≡ at + suc (length text) = omega arith in h)

pub elements_end : (e : Endian) (room : ℕ) (x : Element) (at : ℕ) (text : List ℕ) → AreBytes x → items_end (element_end e room x) (length text) at text ≡ Ok (tt, at + length text, [])
elements_end e room (element.Whole kind) at text are =
    let same : value_end e room kind.now ≡ byte_end = (λ i at text. (ap (λ (k : Kind). value_end e room k at text) are ∙ plain_end e room at text) i) in
    ap (λ (item : Ending). items_end item (length text) at text) same ∙ bytes_end (length text) at text (omega arith)
elements_end e room (element.Entry key kind) at text are = absurd are
