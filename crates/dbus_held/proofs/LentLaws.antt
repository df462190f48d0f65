-- The value at a place of those that are held.
use Rattle.std.proofs.Common.{◌≡◌, ℕ, zero, suc, ◌+◌, ◌-◌, ◌<◌, ◌≤◌, Bool, true, false, cond, ltb, List, [], ◌∷◌, ◌++◌, length, take, drop, All, Option, Some, None, Result, Ok, Err, refl, sym, ap, subst, ◌∙◌, arith}
use Rattle.std.specs.Prelude.{slice_get}
use Rattle.std.specs.List.{AllByRecursion}
use Rattle.std.proofs.lemmas.List.{drop_at, drop-drop, length-append, length-drop}
use Rattle.std.proofs.lemmas.List.Elements.{All-from_recursion, recursion_from_All}
use Rattle.dbus_signature.specs.declared.kind.Basic.{Basic}
use Rattle.dbus_signature.specs.declared.kind.Basic.TheVariants as basic
use Rattle.dbus_signature.specs.declared.kind.Kind.{Kind}
use Rattle.dbus_signature.specs.declared.kind.Kind.TheVariants.{Basic as Plain, Array}
use Rattle.dbus_signature.specs.declared.error.WireError.{WireError}
use Rattle.dbus_signature.specs.declared.error.WireError.TheVariants as errors
use Rattle.dbus_signature.specs.Reading.{Fails, Read, ◌>>=◌}
use Rattle.dbus_signature.specs.Signatures.{all_kinds, IsKind, IsSignature, SpellsType}
use Rattle.dbus_signature.proofs.KindLaws.{codes_plain}
use Rattle.dbus_signature.proofs.Sound.{bind_ok, not_ok, ok_is, Takes, Takes-then}
use Rattle.dbus_wire.specs.declared.value.Endian.{Endian}
use Rattle.dbus_wire.specs.declared.value.Packed.TheVariants as packed
use Rattle.dbus_wire.specs.declared.value.Value.{Value}
use Rattle.dbus_wire.specs.declared.value.Value.TheVariants as value
use Rattle.dbus_wire.specs.declared.strings.StringKind.TheVariants as string
use Rattle.dbus_wire.specs.Alignment.{alignment, codes_alignment}
use Rattle.dbus_wire.specs.Arrays.{head_at, row_in}
use Rattle.dbus_wire.specs.Fields.{text_at}
use Rattle.dbus_wire.specs.Spelling.{spelling}
use Rattle.dbus_wire.specs.Texts.{is_string}
use Rattle.dbus_wire.specs.Values.{as_value, basic_value_at, max_open, members_at, value_at, value_of, values_of, whole_items}
use Rattle.dbus_wire.proofs.ArrayLaws.{basic_array_opens, bind_assoc, fixed_opens, row_byte}
use Rattle.dbus_wire.proofs.RowLaws.{kinds_are}
use Rattle.dbus_wire.proofs.Some.{out_plain}
use Rattle.dbus_wire.proofs.Took.{IsBytes, bytes_drop, bytes_rest}
use Rattle.dbus_wire.proofs.ValueLaws.{value_opens}
use Rattle.dbus_wire.proofs.ValueTook.{value_took}
use Rattle.dbus_held.specs.Ends.{forget, members_end, value_end}
use Rattle.dbus_held.specs.Holding.{held_values, IsHeld}
use Rattle.dbus_held.specs.Lending.{bytes_of, offset_of, value_alone}
use Rattle.dbus_held.proofs.HeldLaws.{all_end, held_found}

-- ---- one value

alone_made : {A : Type 0} (make : A → Value) (r : Read A) → value_alone (as_value make r) ≡ (r >>= λ x. Ok (make x.0))
alone_made make (Ok x) = refl
alone_made make (Err place) = refl

value_plain : (e : Endian) (room : ℕ) (b : Basic) (at : ℕ) (text : List ℕ) → value_at e room (Plain b) at text ≡ basic_value_at e b at text
unfolding value_at
value_plain e zero b at text = rw (out_plain b) refl
value_plain e (suc room) b at text = rw (out_plain b) refl

pub text_alone : (e : Endian) (k : Kind) (at : ℕ) (text : List ℕ) → k ≡ Plain basic.Str → value_alone (value_at e max_open k at text) ≡ (text_at (is_string string.Text) e at text >>= λ x. Ok (value.Str x.0))
text_alone e k at text is = ap (λ (k : Kind). value_alone (value_at e max_open k at text)) is ∙ ap value_alone (value_plain e max_open basic.Str at text) ∙ alone_made value.Str (text_at (is_string string.Text) e at text)

pub path_alone : (e : Endian) (k : Kind) (at : ℕ) (text : List ℕ) → k ≡ Plain basic.Path → value_alone (value_at e max_open k at text) ≡ (text_at (is_string string.Path) e at text >>= λ x. Ok (value.Path x.0))
path_alone e k at text is = ap (λ (k : Kind). value_alone (value_at e max_open k at text)) is ∙ ap value_alone (value_plain e max_open basic.Path at text) ∙ alone_made value.Path (text_at (is_string string.Path) e at text)

along : {A B : Type 0} (r : Result A ℕ) (f g : A → Result B ℕ) → ((x : A) → f x ≡ g x) → (r >>= f) ≡ (r >>= g)
along (Ok x) f g same = same x
along (Err place) f g same = refl

row_alone : (e : Endian) (n at : ℕ) (text : List ℕ) → value_alone (row_in e basic.Byte n at text) ≡ ((cond (ltb (length text) n) (Err (at + length (take n text))) (Ok (take n text))) >>= λ b. Ok (value.Packed (packed.Bytes b)))
unfolding row_in
row_alone e n at text = rw (row_byte e at (take n text)) (by_test (ltb (length text) n))
  where
    by_test : (b : Bool) → value_alone (cond b (Err (at + length (take n text))) (Ok (value.Packed (packed.Bytes (take n text)), at + length (take n text), drop n text))) ≡ (cond b (Err (at + length (take n text))) (Ok (take n text)) >>= λ b. Ok (value.Packed (packed.Bytes b)))
    by_test true = refl
    by_test false = refl

byte_aligned : alignment (Plain basic.Byte) ≡ 1
byte_aligned = ap codes_alignment (codes_plain basic.Byte)

pub bytes_alone : (e : Endian) (k inner : Kind) (at : ℕ) (text : List ℕ) → k ≡ Array inner → inner ≡ Plain basic.Byte → value_alone (value_at e max_open k at text) ≡ (bytes_of e at text >>= λ b. Ok (value.Packed (packed.Bytes b)))
unfolding bytes_of
bytes_alone e k inner at text is byte =
    ap value_alone (value_opens e max_open k at text (omega arith) ∙ fixed_opens e 63 k inner basic.Byte at text is (record { plain = byte; fixed = refl }) ∙ basic_array_opens e basic.Byte at text ∙ ap (λ (n : ℕ). head_at e n at text >>= λ h. row_in e basic.Byte h.0 h.1 h.2) byte_aligned)
    ∙ sym (bind_assoc (head_at e 1 at text) (λ h. row_in e basic.Byte h.0 h.1 h.2) (λ x. Ok x.0))
    ∙ along (head_at e 1 at text) _ _ (λ h. row_alone e h.0 h.1 h.2)
    ∙ bind_assoc (head_at e 1 at text) (λ h. cond (ltb (length h.2) h.0) (Err (h.1 + length (take h.0 h.2))) (Ok (take h.0 h.2))) (λ b. Ok (value.Packed (packed.Bytes b)))

-- a value in its own form
pub own_found : (e : Endian) (k : Kind) (at : ℕ) (bytes : List ℕ) (v : Value) (next : ℕ) → value_of e k at bytes ≡ Ok (v, next) → value_alone (value_at e max_open k at (drop at bytes)) ≡ Ok v
own_found e k at bytes v next is =
    let f = bind_ok (value_at e max_open k at (drop at bytes)) (λ found. Ok (found.0, found.1)) (v, next) is in
    let found : (f.0.0, f.0.1) ≡ (v, next) = ok_is (f.0.0, f.0.1) (v, next) f.2 in
    rw f.1 (ap (λ (y : Value × ℕ). Ok y.0) found)

abbrev with_end : Read Value → Result (Value × ℕ) ℕ
with_end read = read >>= λ found. Ok (found.0, found.1)

fault_alone : (r : Read Value) (place : ℕ) → with_end r ≡ Err place → value_alone r ≡ Err place
fault_alone (Ok x) place is = absurd cc
fault_alone (Err other) place is = cc

pub own_fails : (error : WireError) (e : Endian) (k : Kind) (at : ℕ) (bytes : List ℕ) → Fails error (value_of e k at bytes) → Fails error (value_alone (value_at e max_open k at (drop at bytes)))
own_fails errors.Memory e k at bytes fails = tt
own_fails (errors.Bad place) e k at bytes fails = fault_alone (value_at e max_open k at (drop at bytes)) place fails

-- ---- the value at a place

record Placed (e : Endian) (ks : List Kind) (i : ℕ) (k : Kind) (at : ℕ) (text : List ℕ) (vs : List Value) : Type 0 where
  front : List Value
  next : ℕ
  rest : List ℕ
  taken : List ℕ
  before : members_at (value_at e max_open) (take i ks) at text ≡ Ok (front, next, rest)
  takes : Takes at text taken next rest
  value : Value
  here : value_alone (value_at e max_open k next rest) ≡ Ok value
  is : slice_get vs i ≡ Some value

placed : (e : Endian) (ks : List Kind) (i : ℕ) (k : Kind) (at : ℕ) (text : List ℕ) (x : List Value × ℕ × List ℕ) → AllByRecursion IsKind ks → IsBytes text → slice_get ks i ≡ Some k → members_at (value_at e max_open) ks at text ≡ Ok x → Placed e ks i k at text x.0
unfolding members_at
placed e [] i k at text x are bytes there h = absurd cc
placed e (j ∷ ks) zero k at text x are bytes there h =
    let read = value_at e max_open in
    let same : j ≡ k = cc in
    let f = bind_ok (read j at text) (λ first. members_at read ks first.1 first.2 >>= λ others. Ok (first.0 ∷ others.0, others.1, others.2)) x h in
    let o = bind_ok (members_at read ks f.0.1 f.0.2) (λ others. Ok (f.0.0 ∷ others.0, others.1, others.2)) x f.2 in
    let found : (f.0.0 ∷ o.0.0, o.0.1, o.0.2) ≡ x = ok_is (f.0.0 ∷ o.0.0, o.0.1, o.0.2) x o.2 in
    let here : value_alone (read j at text) ≡ Ok f.0.0 = ap value_alone f.1 in
    record {
      front = [];
      next = at;
      rest = text;
      taken = [];
      before = refl;
      takes = record { parts = refl; moved = omega arith };
      value = f.0.0;
      here = subst (λ (l : Kind). value_alone (read l at text) ≡ Ok f.0.0) same here;
      is = ap (λ (y : List Value × ℕ × List ℕ). slice_get y.0 0) (sym found);
    }
placed e (j ∷ ks) (suc i) k at text x are bytes there h =
    let read = value_at e max_open in
    let f = bind_ok (read j at text) (λ first. members_at read ks first.1 first.2 >>= λ others. Ok (first.0 ∷ others.0, others.1, others.2)) x h in
    let o = bind_ok (members_at read ks f.0.1 f.0.2) (λ others. Ok (f.0.0 ∷ others.0, others.1, others.2)) x f.2 in
    let found : (f.0.0 ∷ o.0.0, o.0.1, o.0.2) ≡ x = ok_is (f.0.0 ∷ o.0.0, o.0.1, o.0.2) x o.2 in
    let t = value_took e max_open j are.0 at text f.0 bytes f.1 in
    let p = placed e ks i k f.0.1 f.0.2 o.0 are.1 (bytes_rest at text (spelling e f.0.0 at) f.0.1 f.0.2 t.0 bytes) there o.1 in
    record {
      front = f.0.0 ∷ p.front;
      next = p.next;
      rest = p.rest;
      taken = spelling e f.0.0 at ++ p.taken;
      before = ap (λ (r : Read Value). r >>= λ first. members_at read (take i ks) first.1 first.2 >>= λ others. Ok (first.0 ∷ others.0, others.1, others.2)) f.1 ∙ ap (λ (r : Read (List Value)). r >>= λ others. Ok (f.0.0 ∷ others.0, others.1, others.2)) p.before;
      takes = Takes-then at text (spelling e f.0.0 at) f.0.1 f.0.2 p.taken p.next p.rest t.0 p.takes;
      value = p.value;
      here = p.here;
      is = ap (λ (y : List Value × ℕ × List ℕ). slice_get y.0 (suc i)) (sym found) ∙ p.is;
    }

-- as many values as types
past : (e : Endian) (ks : List Kind) (i at : ℕ) (text : List ℕ) (x : List Value × ℕ × List ℕ) → slice_get ks i ≡ None → members_at (value_at e max_open) ks at text ≡ Ok x → slice_get x.0 i ≡ None
unfolding members_at
past e [] i at text x none h = ap (λ (y : List Value × ℕ × List ℕ). slice_get y.0 i) (sym (ok_is ([], at, text) x h))
past e (j ∷ ks) zero at text x none h = absurd cc
past e (j ∷ ks) (suc i) at text x none h =
    let read = value_at e max_open in
    let f = bind_ok (read j at text) (λ first. members_at read ks first.1 first.2 >>= λ others. Ok (first.0 ∷ others.0, others.1, others.2)) x h in
    let o = bind_ok (members_at read ks f.0.1 f.0.2) (λ others. Ok (f.0.0 ∷ others.0, others.1, others.2)) x f.2 in
    ap (λ (y : List Value × ℕ × List ℕ). slice_get y.0 (suc i)) (sym (ok_is (f.0.0 ∷ o.0.0, o.0.1, o.0.2) x o.2)) ∙ past e ks i f.0.1 f.0.2 o.0 none o.1

-- The value at a place of those that are held, and the offset where it begins.
pub record PlacedIn (e : Endian) (codes : List ℕ) (kinds : List Kind) (i : ℕ) (k : Kind) (at : ℕ) (bytes : List ℕ) : Type 0 where
  pub next : ℕ
  pub before : offset_of (members_end (value_end e max_open) (take i kinds) at (drop at bytes)) ≡ Ok next
  pub within : next ≤ length bytes
  pub value : Value
  pub here : value_alone (value_at e max_open k next (drop next bytes)) ≡ Ok value
  pub is : slice_get (held_values e codes at bytes) i ≡ Some value

pub held_placed : (e : Endian) (codes : List ℕ) (kinds : List Kind) (i : ℕ) (k : Kind) (at : ℕ) (bytes : List ℕ) → IsHeld e codes at bytes → IsBytes bytes → all_kinds codes ≡ Ok kinds → slice_get kinds i ≡ Some k → PlacedIn e codes kinds i k at bytes
held_placed e codes kinds i k at bytes held fits types there =
    let values = held_values e codes at bytes in
    let f = held_found e codes at bytes held in
    let same : f.0 ≡ kinds = ok_is f.0 kinds (sym f.1 ∙ types) in
    let whole : values_of e kinds at bytes ≡ Ok (values, length bytes) = subst (λ (ks : List Kind). values_of e ks at bytes ≡ Ok (values, length bytes)) same f.2 in
    let r = bind_ok (members_at (value_at e max_open) kinds at (drop at bytes)) (λ found. Ok (found.0, found.1)) (values, length bytes) whole in
    let found : (r.0.0, r.0.1) ≡ (values, length bytes) = ok_is (r.0.0, r.0.1) (values, length bytes) r.2 in
    let are = recursion_from_All IsKind kinds (kinds_are codes kinds types held.signature) in
    let p = placed e kinds i k at (drop at bytes) r.0 are (bytes_drop at bytes fits) there r.1 in
    let rest : drop p.next bytes ≡ p.rest = ap (λ (n : ℕ). drop n bytes) p.takes.moved ∙ sym (drop-drop (length p.taken) at bytes) ∙ ap (drop (length p.taken)) p.takes.parts ∙ drop_at p.taken p.rest (length p.taken) refl in
    let ends : members_end (value_end e max_open) (take i kinds) at (drop at bytes) ≡ Ok (tt, p.next, p.rest) = all_end e (take i kinds) at (drop at bytes) ∙ rw p.before refl in
    record {
      next = p.next;
      before = rw ends refl;
      within = omega (arith, held.within, p.takes.moved, ap length p.takes.parts, length-append p.taken p.rest, length-drop at bytes);
      value = p.value;
      here = rw rest p.here;
      is = ap (λ (y : List Value × ℕ). slice_get y.0 i) (sym found) ∙ p.is;
    }

pub held_past : (e : Endian) (codes : List ℕ) (kinds : List Kind) (i at : ℕ) (bytes : List ℕ) → IsHeld e codes at bytes → all_kinds codes ≡ Ok kinds → slice_get kinds i ≡ None → slice_get (held_values e codes at bytes) i ≡ None
held_past e codes kinds i at bytes held types none =
    let values = held_values e codes at bytes in
    let f = held_found e codes at bytes held in
    let same : f.0 ≡ kinds = ok_is f.0 kinds (sym f.1 ∙ types) in
    let whole : values_of e kinds at bytes ≡ Ok (values, length bytes) = subst (λ (ks : List Kind). values_of e ks at bytes ≡ Ok (values, length bytes)) same f.2 in
    let r = bind_ok (members_at (value_at e max_open) kinds at (drop at bytes)) (λ found. Ok (found.0, found.1)) (values, length bytes) whole in
    ap (λ (y : List Value × ℕ). slice_get y.0 i) (sym (ok_is (r.0.0, r.0.1) (values, length bytes) r.2)) ∙ past e kinds i at (drop at bytes) r.0 none r.1

-- of the types before a place, each is one that keeps the limits
all_front : (ks : List Kind) (i : ℕ) → AllByRecursion IsKind ks → AllByRecursion IsKind (take i ks)
all_front [] zero are = tt
all_front [] (suc i) are = tt
all_front (k ∷ ks) zero are = tt
all_front (k ∷ ks) (suc i) are = (are.0, all_front ks i are.1)

one_of : (ks : List Kind) (i : ℕ) (k : Kind) → AllByRecursion IsKind ks → slice_get ks i ≡ Some k → IsKind k
one_of [] i k are is = absurd cc
one_of (j ∷ ks) zero k are is = let same : j ≡ k = cc in subst IsKind same are.0
one_of (j ∷ ks) (suc i) k are is = one_of ks i k are.1 is

pub front_are : (codes : List ℕ) (kinds : List Kind) (i : ℕ) → all_kinds codes ≡ Ok kinds → IsSignature codes → All IsKind (take i kinds)
front_are codes kinds i types signature = All-from_recursion IsKind (take i kinds) (all_front kinds i (recursion_from_All IsKind kinds (kinds_are codes kinds types signature)))

pub one_is : (codes : List ℕ) (kinds : List Kind) (i : ℕ) (k : Kind) → all_kinds codes ≡ Ok kinds → IsSignature codes → slice_get kinds i ≡ Some k → IsKind k
one_is codes kinds i k types signature there = one_of kinds i k (recursion_from_All IsKind kinds (kinds_are codes kinds types signature)) there

-- what is there doesn't fail, unless memory runs out
pub never_fails : {A B : Type 0} (error : WireError) (r : Result A ℕ) (x : A) (s : Result B ℕ) → r ≡ Ok x → Fails error r → Fails error s
never_fails errors.Memory r x s is fails = tt
never_fails (errors.Bad place) r x s is fails = absurd (not_ok place x (sym fails ∙ is))

-- a step that is part of another
pub part_fails : {A B : Type 0} (error : WireError) (whole : Result B ℕ) (part : Result A ℕ) (f : A → Result B ℕ) → whole ≡ (part >>= f) → Fails error part → Fails error whole
part_fails errors.Memory whole part f is fails = tt
part_fails (errors.Bad place) whole part f is fails = is ∙ ap (λ (r : Result _ ℕ). r >>= f) fails

pub part_found : {A B : Type 0} (whole : Result B ℕ) (part : Result A ℕ) (f : A → Result B ℕ) (x : A) → whole ≡ (part >>= f) → part ≡ Ok x → whole ≡ f x
part_found whole part f x is found = is ∙ ap (λ (r : Result _ ℕ). r >>= f) found

-- the value that begins at the offset that was found
pub record Here (e : Endian) (codes : List ℕ) (i : ℕ) (k : Kind) (at from : ℕ) (bytes : List ℕ) : Type 0 where
  pub within : from ≤ length bytes
  pub value : Value
  pub alone : value_alone (value_at e max_open k from (drop from bytes)) ≡ Ok value
  pub is : slice_get (held_values e codes at bytes) i ≡ Some value

pub found_here : (e : Endian) (codes : List ℕ) (kinds : List Kind) (i : ℕ) (k : Kind) (at from : ℕ) (bytes : List ℕ) → PlacedIn e codes kinds i k at bytes → offset_of (members_end (value_end e max_open) (take i kinds) at (drop at bytes)) ≡ Ok from → Here e codes i k at from bytes
found_here e codes kinds i k at from bytes p is =
    let same : p.next ≡ from = ok_is p.next from (sym p.before ∙ is) in
    subst (λ (n : ℕ). Here e codes i k at n bytes) same (record { within = p.within; value = p.value; alone = p.here; is = p.is })
