-- Values that are held are those that were read.
use Rattle.std.proofs.Common.{◌↔◌, ◌≡◌, ℕ, ◌+◌, ◌-◌, ◌%◌, ◌<◌, ◌≤◌, List, [], ◌∷◌, ◌++◌, length, take, drop, All, Result, Ok, Err, refl, sym, ap, subst, ◌∙◌, arith}
use Rattle.std.specs.Prelude.{replicate}
use Rattle.std.specs.List.{AllByRecursion}
use Rattle.std.proofs.lemmas.List.{append-nil, drop-drop, drop_at, nil_from_length, length-append, length-drop, length-replicate, take-replicate, take_at}
use Rattle.std.proofs.lemmas.List.Elements.{recursion_from_All}
use Rattle.dbus_signature.specs.declared.kind.Kind.{Kind}
use Rattle.dbus_signature.specs.declared.error.WireError.{WireError}
use Rattle.dbus_signature.specs.declared.error.WireError.TheVariants as errors
use Rattle.dbus_signature.specs.Reading.{Fails, Read, ◌>>=◌}
use Rattle.dbus_signature.specs.Signatures.{all_kinds, IsKind, IsSignature}
use Rattle.dbus_signature.proofs.Sound.{bind_ok, not_ok, ok_is, Takes, Takes-then}
use Rattle.dbus_wire.specs.declared.value.Endian.{Endian}
use Rattle.dbus_wire.specs.declared.value.Value.{Value}
use Rattle.dbus_wire.specs.Fits.{Fits, Members}
use Rattle.dbus_wire.specs.Spelling.{spelling, spellings}
use Rattle.dbus_wire.specs.Values.{max_open, members_at, value_at, values_of}
use Rattle.dbus_wire.proofs.RowLaws.{kinds_are}
use Rattle.dbus_signature.specs.Types.{all_codes, codes as codes_of}
use Rattle.dbus_signature.proofs.KindLaws.{by_kind, codes_array, codes_dict, codes_plain, codes_struct, codes_variant}
use Rattle.dbus_signature.proofs.Whole.{kinds_take}
use Rattle.dbus_wire.specs.TypeCodes.{types_codes}
use Rattle.dbus_wire.proofs.TypeLaws.{row_typed}
use Rattle.dbus_wire.proofs.Took.{IsBytes, bytes_drop, bytes_rest}
use Rattle.dbus_wire.proofs.ValueAgain.{all_read, members_again}
use Rattle.dbus_wire.proofs.ValueTook.{value_took}
use Rattle.dbus_held.specs.Ends.{forget, members_end, value_end}
use Rattle.dbus_held.specs.Holding.{held_read, held_values, IsHeld, text_of, values_in}
use Rattle.dbus_held.proofs.Eights.{all_stay, Apart, members_stay}
use Rattle.dbus_held.proofs.EndLaws.{ends_are, members_ends}

-- ---- what is read of values in a row is their spelling

record TookRow (e : Endian) (ks : List Kind) (at : ℕ) (text : List ℕ) (x : List Value × ℕ × List ℕ) : Type 0 where
  taken : Takes at text (spellings e x.0 at) x.1 x.2
  fit : Members e (Fits e max_open) ks x.0 at

row_took : (e : Endian) (ks : List Kind) → AllByRecursion IsKind ks → (at : ℕ) (text : List ℕ) (x : List Value × ℕ × List ℕ) → IsBytes text → members_at (value_at e max_open) ks at text ≡ Ok x → TookRow e ks at text x
unfolding members_at
row_took e [] are at text x bytes h =
    subst (λ (y : List Value × ℕ × List ℕ). TookRow e [] at text y) (ok_is ([], at, text) x h) (record { taken = record { parts = refl; moved = omega arith }; fit = tt })
row_took e (k ∷ ks) are at text x bytes h =
    let read = value_at e max_open in
    let f = bind_ok (read k at text) (λ first. members_at read ks first.1 first.2 >>= λ others. Ok (first.0 ∷ others.0, others.1, others.2)) x h in
    let o = bind_ok (members_at read ks f.0.1 f.0.2) (λ others. Ok (f.0.0 ∷ others.0, others.1, others.2)) x f.2 in
    let t = value_took e max_open k are.0 at text f.0 bytes f.1 in
    let u = row_took e ks are.1 f.0.1 f.0.2 o.0 (bytes_rest at text (spelling e f.0.0 at) f.0.1 f.0.2 t.0 bytes) o.1 in
    let here : f.0.1 ≡ at + length (spelling e f.0.0 at) = t.0.moved in
    let second : Takes f.0.1 f.0.2 (spellings e o.0.0 (at + length (spelling e f.0.0 at))) o.0.1 o.0.2 = subst (λ (m : ℕ). Takes f.0.1 f.0.2 (spellings e o.0.0 m) o.0.1 o.0.2) here u.taken in
    let each : Members e (Fits e max_open) ks o.0.0 (at + length (spelling e f.0.0 at)) = subst (λ (m : ℕ). Members e (Fits e max_open) ks o.0.0 m) here u.fit in
    let whole = Takes-then at text (spelling e f.0.0 at) f.0.1 f.0.2 (spellings e o.0.0 (at + length (spelling e f.0.0 at))) o.0.1 o.0.2 t.0 second in
    subst (λ (y : List Value × ℕ × List ℕ). TookRow e (k ∷ ks) at text y) (ok_is (f.0.0 ∷ o.0.0, o.0.1, o.0.2) x o.2) (record { taken = whole; fit = (t.1, each) })

-- ---- the bytes that spell values

forgot_ok : {A : Type 0} (r : Read A) (x : Unit {0} × ℕ × List ℕ) → forget r ≡ Ok x → (v : A) × (r ≡ Ok (v, x.1, x.2))
forgot_ok (Ok y) x is =
    let same : (tt, y.1, y.2) ≡ x = ok_is (tt, y.1, y.2) x is in
    (y.0, ap (λ (z : Unit {0} × ℕ × List ℕ). Ok (y.0, z.1, z.2)) same)
forgot_ok (Err place) x is = absurd (not_ok place x is)

forgot_err : {A : Type 0} (r : Read A) (place : ℕ) → forget r ≡ Err place → r ≡ Err place
forgot_err (Ok y) place is = absurd cc
forgot_err (Err other) place is = cc

pub all_end : (e : Endian) (kinds : List Kind) (at : ℕ) (text : List ℕ) → members_end (value_end e max_open) kinds at text ≡ forget (members_at (value_at e max_open) kinds at text)
all_end e kinds at text = members_ends (value_end e max_open) (value_at e max_open) (λ k. (ends_are e max_open).values k) kinds at text

ended : (e : Endian) (kinds : List Kind) (at : ℕ) (text : List ℕ) (x : Unit {0} × ℕ × List ℕ) → members_end (value_end e max_open) kinds at text ≡ Ok x → (vs : List Value) × (members_at (value_at e max_open) kinds at text ≡ Ok (vs, x.1, x.2))
ended e kinds at text x is = forgot_ok (members_at (value_at e max_open) kinds at text) x (sym (all_end e kinds at text) ∙ is)

-- what is left is no longer
pub left_short : (e : Endian) (kinds : List Kind) (at : ℕ) (text : List ℕ) (u : Unit {0}) (next : ℕ) (after : List ℕ) → All IsKind kinds → IsBytes text → members_end (value_end e max_open) kinds at text ≡ Ok (u, next, after) → length after ≤ length text
left_short e kinds at text u next after are bytes is =
    let r = ended e kinds at text (u, next, after) is in
    let t = row_took e kinds (recursion_from_All IsKind kinds are) at text (r.0, next, after) bytes r.1 in
    omega (arith, ap length t.taken.parts, length-append (spellings e r.0 at) after)

pub text_found : (e : Endian) (kinds : List Kind) (offset : ℕ) (rest bytes : List ℕ) (u : Unit {0}) (next : ℕ) (after front : List ℕ) → All IsKind kinds → IsBytes rest → rest ≡ drop offset bytes
    → members_end (value_end e max_open) kinds offset rest ≡ Ok (u, next, after) → front ≡ take (length rest - length after) rest → text_of e kinds offset bytes ≡ Ok front
text_found e kinds offset rest bytes u next after front are fits there is taken =
    let r = ended e kinds offset rest (u, next, after) is in
    let t = row_took e kinds (recursion_from_All IsKind kinds are) offset rest (r.0, next, after) fits r.1 in
    let read : members_at (value_at e max_open) kinds offset (drop offset bytes) ≡ Ok (r.0, next, after) = rw (← there) r.1 in
    let count : next - offset ≡ length rest - length after = omega (arith, t.taken.moved, ap length t.taken.parts, length-append (spellings e r.0 offset) after) in
    rw read (ap (λ (l : List ℕ). Ok l) (ap (λ (n : ℕ). take n (drop offset bytes)) count ∙ ap (take (length rest - length after)) (sym there) ∙ sym taken))

pub text_fails : (error : WireError) (e : Endian) (kinds : List Kind) (offset : ℕ) (rest bytes : List ℕ) → rest ≡ drop offset bytes → Fails error (members_end (value_end e max_open) kinds offset rest) → Fails error (text_of e kinds offset bytes)
text_fails errors.Memory e kinds offset rest bytes there fails = tt
text_fails (errors.Bad place) e kinds offset rest bytes there fails =
    let failed : members_at (value_at e max_open) kinds offset rest ≡ Err place = forgot_err (members_at (value_at e max_open) kinds offset rest) place (sym (all_end e kinds offset rest) ∙ fails) in
    let read : members_at (value_at e max_open) kinds offset (drop offset bytes) ≡ Err place = rw (← there) failed in
    rw read refl

-- ---- values that are held

pub values_fail : (error : WireError) (e : Endian) (codes : List ℕ) (ks ls : List Kind) (offset : ℕ) (bytes : List ℕ) → all_kinds codes ≡ Ok ks → all_kinds codes ≡ Ok ls → Fails error (text_of e ks offset bytes) → Fails error (values_of e ls offset bytes)
values_fail errors.Memory e codes ks ls offset bytes s t fails = tt
values_fail (errors.Bad place) e codes ks ls offset bytes s t fails =
    subst (λ (k : List Kind). values_of e k offset bytes ≡ Err place) (ok_is ks ls (sym s ∙ t)) (no_text (values_of e ks offset bytes) fails)
  where
    no_text : (r : Result (List Value × ℕ) ℕ) → (r >>= λ found. Ok (take (found.1 - offset) (drop offset bytes))) ≡ Err place → r ≡ Err place
    no_text (Ok found) is = absurd cc
    no_text (Err other) is = cc

-- values, of which the spelling is held from an offset on that is eights apart
record HeldAs (e : Endian) (codes : List ℕ) (at : ℕ) (held : List ℕ) (values : List Value) : Type 0 where
  pub whole : held_read e codes at held ≡ Ok (values, length held)
  pub same : held_values e codes at held ≡ values

held_as : (e : Endian) (codes : List ℕ) (at : ℕ) (held : List ℕ) (values : List Value) → held_read e codes at held ≡ Ok (values, length held) → HeldAs e codes at held values
unfolding held_values
held_as e codes at held values is = record { whole = is; same = ap values_in is }

held_by : (e : Endian) (codes : List ℕ) (kinds : List Kind) (at : ℕ) (bytes : List ℕ) (values : List Value) (end : ℕ) → all_kinds codes ≡ Ok kinds → members_at (value_at e max_open) kinds at (drop at bytes) ≡ Ok (values, end, []) → held_read e codes at bytes ≡ Ok (values, end)
held_by e codes kinds at bytes values end types is = rw (types, is) refl

read_again : (e : Endian) (codes : List ℕ) (kinds : List Kind) (offset shift : ℕ) (bytes text held : List ℕ) (values : List Value) (end : ℕ) → IsSignature codes → all_kinds codes ≡ Ok kinds → IsBytes bytes → Apart offset shift
    → values_of e kinds offset bytes ≡ Ok (values, end) → text ≡ take (end - offset) (drop offset bytes) → held ≡ replicate shift 0 ++ text → HeldAs e codes shift held values × (end ≡ offset + length text)
read_again e codes kinds offset shift bytes text held values end signature types fits apart is taken made =
    let read = value_at e max_open in
    let f = bind_ok (members_at read kinds offset (drop offset bytes)) (λ found. Ok (found.0, found.1)) (values, end) is in
    let found : (f.0.0, f.0.1) ≡ (values, end) = ok_is (f.0.0, f.0.1) (values, end) f.2 in
    let same : f.0.0 ≡ values = ap (λ (y : List Value × ℕ). y.0) found in
    let ends : f.0.1 ≡ end = ap (λ (y : List Value × ℕ). y.1) found in
    let are = recursion_from_All IsKind kinds (kinds_are codes kinds types signature) in
    let t = row_took e kinds are offset (drop offset bytes) f.0 (bytes_drop offset bytes fits) f.1 in
    let stay = members_stay e (Fits e max_open) (λ k. (all_stay e max_open).values k) kinds f.0.0 offset shift apart t.fit in
    let spelt = spellings e f.0.0 shift in
    let count : end - offset ≡ length (spellings e f.0.0 offset) = omega (arith, t.taken.moved, ends) in
    let text_is : text ≡ spelt = taken ∙ ap (take (end - offset)) t.taken.parts ∙ take_at (spellings e f.0.0 offset) f.0.2 (end - offset) (sym count) ∙ stay.1 in
    let again : members_at read kinds shift (spelt ++ []) ≡ Ok (f.0.0, shift + length spelt, []) = members_again e read (Fits e max_open) (λ k. (all_read e max_open).values k) kinds f.0.0 shift [] stay.0 in
    let zeros : length (replicate shift 0) ≡ shift = length-replicate shift 0 in
    let rest : drop shift held ≡ spelt = ap (drop shift) made ∙ drop_at (replicate shift 0) text shift zeros ∙ text_is in
    let len : length held ≡ shift + length spelt = ap length made ∙ length-append (replicate shift 0) text ∙ omega (arith, zeros, ap length text_is) in
    let there : members_at read kinds shift (drop shift held) ≡ Ok (f.0.0, shift + length spelt, []) =
    subst (λ (l : List ℕ). members_at read kinds shift l ≡ Ok (f.0.0, shift + length spelt, [])) (append-nil spelt ∙ sym rest) again in
    let whole : held_read e codes shift held ≡ Ok (values, length held) =
    subst (λ (vs : List Value). held_read e codes shift held ≡ Ok (vs, length held)) same
    (subst (λ (n : ℕ). held_read e codes shift held ≡ Ok (f.0.0, n)) (sym len) (held_by e codes kinds shift held f.0.0 (shift + length spelt) types there)) in
    (held_as e codes shift held values whole, omega (arith, t.taken.moved, ends, ap length text_is, ap length stay.1))

pub is_held : (e : Endian) (codes : List ℕ) (kinds : List Kind) (offset shift : ℕ) (bytes text held : List ℕ) → IsSignature codes → all_kinds codes ≡ Ok kinds → IsBytes bytes → shift ≡ offset % 8
    → text_of e kinds offset bytes ≡ Ok text → held ≡ replicate shift 0 ++ text → IsHeld e codes shift held × ((ls : List Kind) → all_kinds codes ≡ Ok ls → values_of e ls offset bytes ≡ Ok (held_values e codes shift held, offset + length text))
is_held e codes kinds offset shift bytes text held signature types fits shifts is made =
    let f = bind_ok (values_of e kinds offset bytes) (λ found. Ok (take (found.1 - offset) (drop offset bytes))) text is in
    let taken : text ≡ take (f.0.1 - offset) (drop offset bytes) = sym (ok_is (take (f.0.1 - offset) (drop offset bytes)) text f.2) in
    let apart : Apart offset shift = omega (arith, shifts) in
    let h = read_again e codes kinds offset shift bytes text held f.0.0 f.0.1 signature types fits apart f.1 taken made in
    let long : shift ≤ length held = omega (arith, ap length made, length-append (replicate shift 0) text, length-replicate {A = ℕ} shift 0) in
    let read : held_read e codes shift held ≡ Ok (held_values e codes shift held, length held) = rw h.0.same h.0.whole in
    let found : values_of e kinds offset bytes ≡ Ok (held_values e codes shift held, offset + length text) = rw (h.0.same, ← h.1) f.1 in (
      record { signature = signature; within = long; read = read },
      λ ls types_too. subst (λ (k : List Kind). values_of e k offset bytes ≡ Ok (held_values e codes shift held, offset + length text)) (ok_is kinds ls (sym types ∙ types_too)) found,
    )

row_spelt : (e : Endian) (kinds : List Kind) (offset : ℕ) (bytes : List ℕ) (values : List Value) (end : ℕ) → AllByRecursion IsKind kinds → IsBytes bytes → values_of e kinds offset bytes ≡ Ok (values, end) → drop offset bytes ≡ spellings e values offset ++ drop end bytes
row_spelt e kinds offset bytes values end are fits is =
    let f = bind_ok (members_at (value_at e max_open) kinds offset (drop offset bytes)) (λ found. Ok (found.0, found.1)) (values, end) is in
    let found : (f.0.0, f.0.1) ≡ (values, end) = ok_is (f.0.0, f.0.1) (values, end) f.2 in
    let t = row_took e kinds are offset (drop offset bytes) f.0 (bytes_drop offset bytes fits) f.1 in
    let text = spellings e f.0.0 offset in
    let behind : drop f.0.1 bytes ≡ f.0.2 = ap (λ (n : ℕ). drop n bytes) t.taken.moved ∙ sym (drop-drop (length text) offset bytes) ∙ ap (drop (length text)) t.taken.parts ∙ drop_at text f.0.2 (length text) refl in
    subst (λ (y : List Value × ℕ). drop offset bytes ≡ spellings e y.0 offset ++ drop y.1 bytes) found (t.taken.parts ∙ ap (λ (l : List ℕ). text ++ l) (sym behind))

-- what is held is spelt where it was read
pub held_there : (e : Endian) (codes : List ℕ) (kinds : List Kind) (offset shift : ℕ) (bytes text held : List ℕ) → IsSignature codes → all_kinds codes ≡ Ok kinds → IsBytes bytes → shift ≡ offset % 8
    → text_of e kinds offset bytes ≡ Ok text → held ≡ replicate shift 0 ++ text → drop offset bytes ≡ spellings e (held_values e codes shift held) offset ++ drop (offset + length text) bytes
held_there e codes kinds offset shift bytes text held signature types fits shifts is made =
    row_spelt e kinds offset bytes (held_values e codes shift held) (offset + length text) (recursion_from_All IsKind kinds (kinds_are codes kinds types signature)) fits
    ((is_held e codes kinds offset shift bytes text held signature types fits shifts is made).1 kinds types)

-- ---- what is held is read

pub held_found : (e : Endian) (codes : List ℕ) (at : ℕ) (bytes : List ℕ) → IsHeld e codes at bytes → (kinds : List Kind) × (all_kinds codes ≡ Ok kinds) × (values_of e kinds at bytes ≡ Ok (held_values e codes at bytes, length bytes))
held_found e codes at bytes held = bind_ok (all_kinds codes) (λ kinds. values_of e kinds at bytes) (held_values e codes at bytes, length bytes) held.read

pub values_are : (e : Endian) (codes : List ℕ) (at : ℕ) (bytes : List ℕ) (found : List Value × ℕ) → IsHeld e codes at bytes → ((kinds : List Kind) → all_kinds codes ≡ Ok kinds → values_of e kinds at bytes ≡ Ok found) → found.0 ≡ held_values e codes at bytes
values_are e codes at bytes found held gives =
    let f = held_found e codes at bytes held in
    ap (λ (y : List Value × ℕ). y.0) (ok_is found (held_values e codes at bytes, length bytes) (sym (gives f.0 f.1) ∙ f.2))

pub never_bad : (e : Endian) (codes : List ℕ) (at place : ℕ) (bytes : List ℕ) → IsHeld e codes at bytes → ((kinds : List Kind) → all_kinds codes ≡ Ok kinds → values_of e kinds at bytes ≡ Err place) → ⊥
never_bad e codes at place bytes held gives =
    let f = held_found e codes at bytes held in
    not_ok place (held_values e codes at bytes, length bytes) (sym (gives f.0 f.1) ∙ f.2)

-- what is held is the spelling at each offset that is eights apart
pub spelt_held : (e : Endian) (codes : List ℕ) (at to : ℕ) (bytes : List ℕ) → IsHeld e codes at bytes → IsBytes bytes → Apart at to → drop at bytes ≡ spellings e (held_values e codes at bytes) to
spelt_held e codes at to bytes held fits apart =
    let values = held_values e codes at bytes in
    let f = held_found e codes at bytes held in
    let r = bind_ok (members_at (value_at e max_open) f.0 at (drop at bytes)) (λ found. Ok (found.0, found.1)) (values, length bytes) f.2 in
    let found : (r.0.0, r.0.1) ≡ (values, length bytes) = ok_is (r.0.0, r.0.1) (values, length bytes) r.2 in
    let are = recursion_from_All IsKind f.0 (kinds_are codes f.0 f.1 held.signature) in
    let t = row_took e f.0 are at (drop at bytes) r.0 (bytes_drop at bytes fits) r.1 in
    let len = length-append (spellings e r.0.0 at) r.0.2 in
    let parts = ap length t.taken.parts in
    let none : length r.0.2 ≡ 0 = omega (arith, t.taken.moved, ap (λ (y : List Value × ℕ). y.1) found, parts, len, length-drop at bytes, held.within) in
    let stay = members_stay e (Fits e max_open) (λ k. (all_stay e max_open).values k) f.0 r.0.0 at to apart t.fit in
    t.taken.parts ∙ ap (λ (l : List ℕ). spellings e r.0.0 at ++ l) (nil_from_length r.0.2 none) ∙ append-nil (spellings e r.0.0 at) ∙ stay.1 ∙ ap (λ (vs : List Value). spellings e vs to) (ap (λ (y : List Value × ℕ). y.0) found)

-- the types of what is held are those of its signature
pub typed_held : (e : Endian) (codes : List ℕ) (at : ℕ) (bytes : List ℕ) → IsHeld e codes at bytes → IsBytes bytes → types_codes (held_values e codes at bytes) ≡ codes
typed_held e codes at bytes held fits =
    let values = held_values e codes at bytes in
    let f = held_found e codes at bytes held in
    let r = bind_ok (members_at (value_at e max_open) f.0 at (drop at bytes)) (λ found. Ok (found.0, found.1)) (values, length bytes) f.2 in
    let found : (r.0.0, r.0.1) ≡ (values, length bytes) = ok_is (r.0.0, r.0.1) (values, length bytes) r.2 in
    let t = row_took e f.0 (recursion_from_All IsKind f.0 (kinds_are codes f.0 f.1 held.signature)) at (drop at bytes) r.0 (bytes_drop at bytes fits) r.1 in
    ap types_codes (sym (ap (λ (y : List Value × ℕ). y.0) found)) ∙ row_typed e max_open f.0 r.0.0 at t.fit ∙ sym (kinds_take (length codes) 0 codes f.0 f.1).0

codes_some : (k : Kind) → 0 < length (codes_of k)
codes_some = by_kind (λ k. 0 < length (codes_of k))
    (λ b. rw (codes_plain b) (omega arith))
    (rw codes_variant (omega arith))
    (λ el. rw (codes_array el) (omega arith))
    (λ b el. rw (codes_dict b el) (omega arith))
    (λ ks. rw (codes_struct ks) (omega arith))

-- there are values where there are types
none_of : (e : Endian) (ks : List Kind) (vs : List Value) (at : ℕ) → Members e (Fits e max_open) ks vs at → (length (all_codes ks) ≡ 0) ↔ (vs ≡ [])
none_of e [] [] at fit = (λ is. refl, λ is. refl)
none_of e [] (v ∷ vs) at fit = absurd fit
none_of e (k ∷ ks) [] at fit = absurd fit
none_of e (k ∷ ks) (v ∷ vs) at fit = (λ is. absurd (omega (arith, is, codes_some k, length-append (codes_of k) (all_codes ks))), λ is. absurd cc)

pub none_held : (e : Endian) (codes : List ℕ) (at : ℕ) (bytes : List ℕ) → IsHeld e codes at bytes → IsBytes bytes → (length codes ≡ 0) ↔ (held_values e codes at bytes ≡ [])
none_held e codes at bytes held fits =
    let values = held_values e codes at bytes in
    let f = held_found e codes at bytes held in
    let r = bind_ok (members_at (value_at e max_open) f.0 at (drop at bytes)) (λ found. Ok (found.0, found.1)) (values, length bytes) f.2 in
    let found : (r.0.0, r.0.1) ≡ (values, length bytes) = ok_is (r.0.0, r.0.1) (values, length bytes) r.2 in
    let t = row_took e f.0 (recursion_from_All IsKind f.0 (kinds_are codes f.0 f.1 held.signature)) at (drop at bytes) r.0 (bytes_drop at bytes fits) r.1 in
    subst (λ (vs : List Value). (length codes ≡ 0) ↔ (vs ≡ [])) (ap (λ (y : List Value × ℕ). y.0) found)
    (subst (λ (text : List ℕ). (length text ≡ 0) ↔ (r.0.0 ≡ [])) (sym (kinds_take (length codes) 0 codes f.0 f.1).0) (none_of e f.0 r.0.0 at t.fit))

-- some of eight zeros
pub zeros_taken : (n : ℕ) (zeros : List ℕ) → n < 8 → zeros ≡ replicate 8 0 → take n zeros ≡ replicate n 0
zeros_taken n zeros few are = ap (take n) are ∙ take-replicate n 8 0 (omega (arith, few))
