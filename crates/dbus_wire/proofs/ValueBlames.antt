-- Where a value in bytes is at fault.
use Rattle.std.proofs.Common.{◌≡◌, ℕ, zero, suc, ◌+◌, ◌^◌, ◌<◌, ◌≤◌, true, false, ltb, ◌↔◌, List, [], ◌∷◌, ◌++◌, length, take, drop, All, Result, Ok, Err, refl, sym, ap, subst, ◌∙◌, append_assoc, arith, inl, inr}
use Rattle.std.specs.Int.{w16, w32, w64, cast_signed}
use Rattle.std.specs.List.{AllByRecursion}
use Rattle.std.proofs.lemmas.Bool.{ltb-true, lt-ltb, le-ltb}
use Rattle.std.proofs.lemmas.List.{append-nil, length-append, length-take}
use Rattle.dbus_signature.specs.declared.kind.Basic.{Basic}
use Rattle.dbus_signature.specs.declared.kind.Basic.TheVariants as basic
use Rattle.dbus_signature.specs.declared.kind.Kind.{Kind}
use Rattle.dbus_signature.specs.declared.kind.Kind.TheVariants.{Array, Dict}
use Rattle.dbus_signature.specs.declared.kind.Kind.TheViews.{out-Kind}
use Rattle.dbus_signature.specs.declared.kind.Kind.TheOpen.{Kind-F}
use Rattle.dbus_signature.specs.Reading.{Reader, ◌>>=◌}
use Rattle.dbus_signature.specs.Types.{codes}
use Rattle.dbus_signature.specs.Signatures.{IsKind, SpellsType}
use Rattle.dbus_signature.specs.FirstFault.{IsType}
use Rattle.dbus_signature.proofs.KindLaws.{by_kind}
use Rattle.dbus_signature.proofs.Inner.{element_is, value_is, all_members_are}
use Rattle.dbus_signature.proofs.Sound.{bind_ok, chosen, Takes}
use Rattle.dbus_signature.proofs.Stops.{bind_err, err_is, not_err}
use Rattle.dbus_wire.specs.Packing.{array_of}
use Rattle.dbus_wire.proofs.ArrayLaws.{bind_assoc}
use Rattle.dbus_wire.specs.declared.value.Endian.{Endian}
use Rattle.dbus_wire.specs.declared.value.Value.{Value}
use Rattle.dbus_wire.specs.declared.value.Value.TheVariants as value
use Rattle.dbus_wire.specs.declared.strings.StringKind.TheVariants as string
use Rattle.dbus_wire.specs.Alignment.{alignment}
use Rattle.dbus_wire.specs.Texts.{is_string}
use Rattle.dbus_wire.specs.Fields.{aligned_at, bool_at, byte_at, number_at, padding_at, signature_at, text_at, type_at}
use Rattle.dbus_wire.specs.Values.{array_at, basic_value_at, closed_value_by, contents_at, entry_at, items_at, max_array, max_open, members_at, pair_at, struct_at, value_at, value_by, value_of, variant_at, whole_items, within_limit}
use Rattle.dbus_wire.specs.Spelling.{padding, signature_spelling, spelling, spellings, to_bytes}
use Rattle.dbus_wire.specs.Fits.{Each, Fits, FitsEntry, IsBasic, Said}
use Rattle.dbus_wire.specs.Faults.{Fault, ArrayFault, BasicFault, ClosedFault, ContentsFault, EntryFaultAt, FaultAt, FaultThere, LimitFault, MembersFault, Missing, OpenFault, PaddingFault, PairFault, SignatureFault, StructFault, Then, VariantFault}
use Rattle.dbus_wire.proofs.Took.{IsBytes, bytes_drop, bytes_rest, bytes_take, exact32, number_takes}
use Rattle.dbus_wire.proofs.Again.{number_again, wide32}
use Rattle.dbus_wire.proofs.BasicTook.{basic_took}
use Rattle.dbus_wire.proofs.BasicAgain.{basic_again}
use Rattle.dbus_wire.proofs.Some.{out_plain, out_variant, out_array, out_dict, out_struct}
use Rattle.dbus_wire.proofs.ValueTook.{Honest, all_honest, items_took, limit_is}
use Rattle.dbus_wire.proofs.ValueAgain.{Reads, all_read, each_count, items_again, items_step}
use Rattle.dbus_wire.proofs.ReadLaws.{all_bytes, kind_is}
use Rattle.dbus_wire.proofs.Blames.{Blames, Knows, aligned_blames, blames_along, bool_blames, made_blames, number_blames, padding_blames, padding_knows, plain_then, text_blames, then_blames}
use Rattle.dbus_wire.proofs.SignatureBlames.{byte_blames, signature_blames, type_blames, type_knows}

-- ---- values that hold no others

pub basic_blames : (e : Endian) (b : Basic) → Blames (basic_value_at e b) (BasicFault e b)
basic_blames e basic.Byte = made_blames value.Byte byte_at (Missing 1) byte_blames
basic_blames e basic.Bool = made_blames value.Bool (bool_at e) (BasicFault e basic.Bool) (bool_blames e)
basic_blames e basic.I16 = made_blames (λ n. value.I16 (cast_signed w16 n)) (aligned_at e w16) (BasicFault e basic.I16) (aligned_blames e w16)
basic_blames e basic.U16 = made_blames value.U16 (aligned_at e w16) (BasicFault e basic.U16) (aligned_blames e w16)
basic_blames e basic.I32 = made_blames (λ n. value.I32 (cast_signed w32 n)) (aligned_at e w32) (BasicFault e basic.I32) (aligned_blames e w32)
basic_blames e basic.U32 = made_blames value.U32 (aligned_at e w32) (BasicFault e basic.U32) (aligned_blames e w32)
basic_blames e basic.I64 = made_blames (λ n. value.I64 (cast_signed w64 n)) (aligned_at e w64) (BasicFault e basic.I64) (aligned_blames e w64)
basic_blames e basic.U64 = made_blames value.U64 (aligned_at e w64) (BasicFault e basic.U64) (aligned_blames e w64)
basic_blames e basic.Double = made_blames value.Double (aligned_at e w64) (BasicFault e basic.Double) (aligned_blames e w64)
basic_blames e basic.Str = made_blames value.Str (text_at (is_string string.Text) e) (BasicFault e basic.Str) (text_blames (is_string string.Text) e)
basic_blames e basic.Path = made_blames value.Path (text_at (is_string string.Path) e) (BasicFault e basic.Path) (text_blames (is_string string.Path) e)
basic_blames e basic.Sig = made_blames value.Sig signature_at (BasicFault e basic.Sig) signature_blames
basic_blames e basic.Fd = made_blames value.Fd (aligned_at e w32) (BasicFault e basic.Fd) (aligned_blames e w32)

basic_knows : (e : Endian) (b : Basic) → Knows (basic_value_at e b) (λ at v. IsBasic b v) (λ v at. spelling e v at)
basic_knows e b = record {
  took = λ at text x fits h. basic_took e b at text x fits h;
  again = λ at v rest is. basic_again e b at v is rest;
}

-- What is known of a reader of values that are said so.
pub record Whole (e : Endian) (said : Said) (reader : Reader Value) (fault : Fault) : Type 0 where
  pub honest : Honest e said reader
  pub reads : Reads e said reader
  pub blames : Blames reader fault

knows_of : (e : Endian) (said : Said) (reader : Reader Value) (fault : Fault) → Whole e said reader fault → Knows reader said (λ v at. spelling e v at)
knows_of e said reader fault w = record {
  took = λ at text x fits h. w.honest at text x fits h;
  again = λ at v rest is. w.reads.again at v is rest;
}

-- ---- items

-- the items before one at fault
record ItemFails (e : Endian) (said : Said) (fault : Fault) (at : ℕ) (text : List ℕ) (place : ℕ) : Type 0 where
  items : List Value
  each : Each e said items at
  more : List ℕ
  parts : text ≡ spellings e items at ++ more
  some : 0 < length more
  wrong : fault (at + length (spellings e items at)) more place

items_found : (e : Endian) (said : Said) (item : Reader Value) (fault : Fault) → Whole e said item fault → (n at : ℕ) (text : List ℕ) (place : ℕ) → length text ≤ n → IsBytes text → items_at item n at text ≡ Err place → ItemFails e said fault at text place
unfolding items_at
items_found e said item fault w zero at [] place enough fits h = absurd (not_err ([], at, []) place h)
items_found e said item fault w (suc n) at [] place enough fits h = absurd (not_err ([], at, []) place h)
items_found e said item fault w zero at (c ∷ text) place enough fits h = absurd (omega arith)
items_found e said item fault w (suc n) at (c ∷ text) place enough fits h =
    elim (bind_err (item at (c ∷ text)) (λ first. items_at item n first.1 first.2 >>= λ others. Ok (first.0 ∷ others.0, others.1, others.2)) place h) [
      | inl failed ↦
          let f = w.blames.found at (c ∷ text) place fits failed in
          record { items = []; each = tt; more = c ∷ text; parts = refl; some = omega arith; wrong = subst (λ (n : ℕ). fault n (c ∷ text) place) (let same : at ≡ at + 0 = omega arith in same) f }
      | inr done ↦
          let x = done.0 in
          let t = w.honest at (c ∷ text) x fits done.1 in
          let first = spelling e x.0 at in
          let long : suc (length text) ≡ length first + length x.2 = ap length t.0.parts ∙ length-append first x.2 in
          let some = w.reads.some at x.0 t.1 in
          elim (bind_err (items_at item n x.1 x.2) (λ others. Ok (x.0 ∷ others.0, others.1, others.2)) place done.2) [
            | inr others ↦ absurd (not_err _ place others.2)
            | inl failed ↦
                let f = items_found e said item fault w n x.1 x.2 place (omega arith) (bytes_rest at (c ∷ text) first x.1 x.2 t.0 fits) failed in
                let g : ItemFails e said fault (at + length first) x.2 place = subst (λ (m : ℕ). ItemFails e said fault m x.2 place) t.0.moved f in
                let others = spellings e g.items (at + length first) in
                let end : at + length first + length others ≡ at + length (first ++ others) = omega (arith, length-append first others) in
                record {
                  items = x.0 ∷ g.items;
                  each = (t.1, g.each);
                  more = g.more;
                  some = g.some;
                  parts = t.0.parts ∙ ap (λ (r : List ℕ). first ++ r) g.parts ∙ sym (append_assoc first others g.more);
                  wrong = subst (λ (m : ℕ). fault m g.more place) end g.wrong;
                }
          ]
    ]

items_only : (e : Endian) (said : Said) (item : Reader Value) (fault : Fault) → Whole e said item fault → (items : List Value) (n at : ℕ) (more : List ℕ) (place : ℕ) → length (spellings e items at ++ more) ≤ n → Each e said items at → 0 < length more
    → fault (at + length (spellings e items at)) more place → items_at item n at (spellings e items at ++ more) ≡ Err place
items_only e said item fault w [] zero at more place enough each some wrong = absurd (omega arith)
items_only e said item fault w [] (suc n) at more place enough each some wrong =
    let same : at + 0 ≡ at = omega arith in
    items_step item n at more some ∙ rw (w.blames.only at more place (subst (λ (m : ℕ). fault m more place) same wrong)) refl
items_only e said item fault w (v ∷ vs) zero at more place enough each some wrong =
    let first = spelling e v at in
    let others = spellings e vs (at + length first) in
    absurd (omega (arith, enough, length-append (first ++ others) more, length-append first others, w.reads.some at v each.0))
items_only e said item fault w (v ∷ vs) (suc n) at more place enough each some wrong =
    let first = spelling e v at in
    let here = at + length first in
    let others = spellings e vs here in
    let regrouped : (first ++ others) ++ more ≡ first ++ (others ++ more) = append_assoc first others more in
    let least = w.reads.some at v each.0 in
    let long = length-append first (others ++ more) in
    let end : at + length (first ++ others) ≡ here + length others = omega (arith, length-append first others) in
    let rest = items_only e said item fault w vs n here more place (omega (arith, enough, ap length regrouped, long, least)) each.1 some (subst (λ (m : ℕ). fault m more place) end wrong) in
    rw regrouped (items_step item n at (first ++ (others ++ more)) (omega (arith, long, least)) ∙ rw (w.reads.again at v each.0 (others ++ more), rest) refl)

contents_blame : (e : Endian) (said : Said) (item : Reader Value) (fault : Fault) → Whole e said item fault → (n : ℕ) → Blames (contents_at item n) (ContentsFault e said fault n)
unfolding contents_at
contents_blame e said item fault w n = record {
  found = λ at text place fits h.
      let front = take n text in
      elim (bind_err (items_at item (length front) at front) (λ items. whole_items n (at + length front) text items) place h) [
        | inl failed ↦
            let f = items_found e said item fault w (length front) at front place (omega arith) (bytes_take n text fits) failed in
            (f.items, f.each, inl (f.more, f.parts, f.some, f.wrong))
        | inr done ↦
            let x = done.0 in
            let t = items_took e item said w.honest (length front) at front x (bytes_take n text fits) done.1 in
            elim (chosen (ltb (length text) n) (Err (at + length front)) (Ok (x.0, at + length front, drop n text)) (Err place) done.2) [
              | inr p ↦ absurd (not_err _ place p.1)
              | inl p ↦
                  let short = ltb-true (length text) n p.0 in
                  let whole : front ≡ spellings e x.0 at = t.0.0.parts ∙ ap (λ (r : List ℕ). spellings e x.0 at ++ r) t.1 ∙ append-nil (spellings e x.0 at) in
                  let len : length front ≡ length text = omega (arith, length-take n text) in
                  (x.0, t.0.1, inr (whole, short, omega (arith, err_is (at + length front) place p.1)))
            ]
      ];
  only = λ at text place f.
      let front = take n text in
      elim f.2 [
        | inl failed ↦
            let fails = items_only e said item fault w f.0 (length (spellings e f.0 at ++ failed.0)) at failed.0 place (omega arith) f.1 failed.2 failed.3 in
            let same : items_at item (length front) at front ≡ Err place = subst (λ (t : List ℕ). items_at item (length t) at t ≡ Err place) (sym failed.1) fails in
            rw same refl
        | inr short ↦
            let row = spellings e f.0 at in
            let reads = items_again e item said w.reads f.0 (length row) at (each_count e item said w.reads f.0 at f.1) f.1 in
            let same : items_at item (length front) at front ≡ Ok (f.0, at + length row, []) = subst (λ (t : List ℕ). items_at item (length t) at t ≡ Ok (f.0, at + length row, [])) (sym short.0) reads in
            let is : ltb (length text) n ≡ true = lt-ltb _ _ short.1 in
            rw (same, is) (ap (λ (p : ℕ). Err p) (omega (arith, short.2, length-take n text, short.1)))
      ];
}

-- ---- arrays

abbrev limit_at : Endian → Reader ℕ
limit_at e at text = number_at e w32 at text >>= λ number. within_limit at number

limit_knows : (e : Endian) → Knows (limit_at e) (λ at n. n ≤ max_array) (λ n at. to_bytes e w32 n)
limit_knows e = record { took = took; again = again } where
  took : (at : ℕ) (text : List ℕ) (x : ℕ × ℕ × List ℕ) → IsBytes text → limit_at e at text ≡ Ok x → Takes at text (to_bytes e w32 x.0) x.1 x.2 × (x.0 ≤ max_array)
  took at text x fits h =
      let b = bind_ok (number_at e w32 at text) (λ number. within_limit at number) x h in
      let t = number_takes e w32 (2 ^ 32) (exact32 e) at text b.0 fits b.1 in
      let l = limit_is at b.0 x b.2 in
      subst (λ (y : ℕ × ℕ × List ℕ). Takes at text (to_bytes e w32 y.0) y.1 y.2 × (y.0 ≤ max_array)) l.0 (t.0, l.1)

  again : (at n : ℕ) (rest : List ℕ) → n ≤ max_array → limit_at e at (to_bytes e w32 n ++ rest) ≡ Ok (n, at + length (to_bytes e w32 n), rest)
  again at n rest le =
      let short : n < 2 ^ 32 = omega arith in
      let within : ltb max_array n ≡ false = le-ltb _ _ le in
      rw (number_again e w32 (2 ^ 32) (wide32 e) n at rest short, within) (ap (λ (k : ℕ). Ok (n, at + k, rest)) (sym ((wide32 e).len n)))

limit_blames : (e : Endian) → Blames (limit_at e) (LimitFault e max_array)
limit_blames e = record {
  found = λ at text place fits h. elim (bind_err (number_at e w32 at text) (λ number. within_limit at number) place h) [
    | inl failed ↦ inl ((number_blames e w32).found at text place fits failed)
    | inr done ↦
        let t = number_takes e w32 (2 ^ 32) (exact32 e) at text done.0 fits done.1 in
        elim (chosen (ltb max_array done.0.0) (Err at) (Ok done.0) (Err place) done.2) [
          | inl p ↦ inr (done.0.0, done.0.2, t.0.parts, ltb-true _ _ p.0, t.1, sym (err_is at place p.1))
          | inr p ↦ absurd (not_err done.0 place p.1)
        ]
  ];
  only = λ at text place f. elim f [
    | inl failed ↦ rw ((number_blames e w32).only at text place failed) refl
    | inr above ↦
        let over : ltb max_array above.0 ≡ true = lt-ltb _ _ above.3 in
        rw (above.2, number_again e w32 (2 ^ 32) (wide32 e) above.0 at above.1 above.4, over) (ap (λ (p : ℕ). Err p) (sym above.5))
  ];
}

array_blames : (e : Endian) (align : ℕ) (said : Said) (item : Reader Value) (fault : Fault) → Whole e said item fault → Blames (array_at e align item) (ArrayFault e align said fault)
unfolding array_at
array_blames e align said item fault w =
    let rest : ℕ → Reader (List Value) = λ n at text. padding_at align at text >>= λ first. contents_at item n first.1 first.2 in
    let counted : Reader (List Value) = λ at text. number_at e w32 at text >>= λ number. within_limit at number >>= λ n. rest n.0 n.1 n.2 in
    let inner = then_blames (limit_at e) rest (LimitFault e max_array) (λ at n. n ≤ max_array) (λ n at. to_bytes e w32 n) (λ n. Then (PaddingFault align) (padding align) (ContentsFault e said fault n))
    (limit_knows e) (limit_blames e)
    (λ at n le. plain_then (padding_at align) (contents_at item n) (PaddingFault align) (ContentsFault e said fault n) (padding align) (padding_knows align) (padding_blames align) (contents_blame e said item fault w n)) in
    plain_then (padding_at 4) counted (PaddingFault 4) _ (padding 4) (padding_knows 4) (padding_blames 4)
    (blames_along counted (λ at text. limit_at e at text >>= λ n. rest n.0 n.1 n.2) _ (λ at text. bind_assoc (number_at e w32 at text) (λ number. within_limit at number) (λ n. rest n.0 n.1 n.2)) inner)

-- ---- members

members_blame : (e : Endian) (said : Kind → Said) (read : Kind → Reader Value) (fault : Kind → Fault) → ((k : Kind) → IsKind k → Whole e (said k) (read k) (fault k)) → (ks : List Kind) → AllByRecursion IsKind ks → Blames (members_at read ks) (MembersFault e said fault ks)
unfolding members_at
members_blame e said read fault w [] are = record {
  found = λ at text place fits h. absurd (not_err ([], at, text) place h);
  only = λ at text place f. absurd f;
}
members_blame e said read fault w (k ∷ ks) are =
    let first = w k are.0 in
    then_blames (read k) (λ v at text. members_at read ks at text >>= λ others. Ok (v ∷ others.0, others.1, others.2)) (fault k) (said k) (λ v at. spelling e v at) (λ v. MembersFault e said fault ks)
    (knows_of e (said k) (read k) (fault k) first) first.blames
    (λ at v is. made_blames (λ vs. v ∷ vs) (members_at read ks) (MembersFault e said fault ks) (members_blame e said read fault w ks are.1))

-- ---- one level

struct_blames : (e : Endian) (said : Kind → Said) (read : Kind → Reader Value) (fault : Kind → Fault) → ((k : Kind) → IsKind k → Whole e (said k) (read k) (fault k)) → (ks : List Kind) → AllByRecursion IsKind ks → Blames (struct_at read ks) (StructFault e said fault ks)
unfolding struct_at
struct_blames e said read fault w ks are =
    plain_then (padding_at 8) (λ at text. members_at read ks at text >>= λ members. Ok (value.Struct members.0, members.1, members.2)) (PaddingFault 8) (MembersFault e said fault ks) (padding 8) (padding_knows 8) (padding_blames 8)
    (made_blames value.Struct (members_at read ks) (MembersFault e said fault ks) (members_blame e said read fault w ks are))

variant_blames : (e : Endian) (said : Kind → Said) (read : Kind → Reader Value) (fault : Kind → Fault) → ((k : Kind) → IsKind k → Whole e (said k) (read k) (fault k)) → Blames (variant_at read) (VariantFault fault)
unfolding variant_at
variant_blames e said read fault w =
    then_blames type_at (λ x at text. read x.0 at text >>= λ inner. Ok (value.Variant x.1 inner.0, inner.1, inner.2)) (SignatureFault IsType) (λ at x. SpellsType x.1 x.0) (λ x at. signature_spelling x.1) (λ x. fault x.0) type_knows type_blames
    (λ at x is. made_blames (value.Variant x.1) (read x.0) (fault x.0) (w x.0 (kind_is x.1 x.0 is)).blames)

pair_blames : (e : Endian) (key : Basic) (said : Said) (read : Reader Value) (fault : Fault) → Whole e said read fault → Blames (pair_at e key read) (PairFault e key fault)
unfolding pair_at
pair_blames e key said read fault w =
    plain_then (padding_at 8) (λ at text. basic_value_at e key at text >>= λ first. read first.1 first.2 >>= λ second. Ok (value.Pair first.0 second.0, second.1, second.2)) (PaddingFault 8) _ (padding 8) (padding_knows 8) (padding_blames 8)
    (then_blames (basic_value_at e key) (λ v at text. read at text >>= λ second. Ok (value.Pair v second.0, second.1, second.2)) (BasicFault e key) (λ at v. IsBasic key v) (λ v at. spelling e v at) (λ v. fault) (basic_knows e key) (basic_blames e key)
    (λ at v is. made_blames (value.Pair v) read fault w.blames))

abbrev LevelBlames : Endian → (Kind → Reader Value) → (Basic → Kind → Reader Value) → (Kind → Said) → (Basic → Kind → Said) → (Kind → Fault) → (Basic → Kind → Fault) → Kind → Kind-F Kind → Type 0
LevelBlames e read entry said said_entry fault fault_entry kind layer = IsKind kind → Blames (value_by e read entry kind layer) (OpenFault e said said_entry fault fault_entry layer)

level_blames : (e : Endian) (read : Kind → Reader Value) (entry : Basic → Kind → Reader Value) (said : Kind → Said) (said_entry : Basic → Kind → Said) (fault : Kind → Fault) (fault_entry : Basic → Kind → Fault)
    → ((k : Kind) → IsKind k → Whole e (said k) (read k) (fault k)) → ((b : Basic) (k : Kind) → IsKind k → Whole e (said_entry b k) (entry b k) (fault_entry b k))
    → (kind : Kind) → LevelBlames e read entry said said_entry fault fault_entry kind (out-Kind kind)
level_blames e read entry said said_entry fault fault_entry w w_entry = by_kind (λ kind. LevelBlames e read entry said said_entry fault fault_entry kind (out-Kind kind))
    (λ b. rw (out_plain b) (λ is. basic_blames e b))
    (rw out_variant (λ is. variant_blames e said read fault w))
    (λ el. rw (out_array el) (λ is. made_blames (array_of el) (array_at e (alignment el) (read el)) (ArrayFault e (alignment el) (said el) (fault el)) (array_blames e (alignment el) (said el) (read el) (fault el) (w el (element_is el is)))))
    (λ b el. rw (out_dict b el) (λ is. made_blames (value.Array (codes (Dict b el))) (array_at e 8 (entry b el)) (ArrayFault e 8 (said_entry b el) (fault_entry b el)) (array_blames e 8 (said_entry b el) (entry b el) (fault_entry b el) (w_entry b el (value_is b el is)))))
    (λ ks. rw (out_struct ks) (λ is. struct_blames e said read fault w ks (all_members_are ks is)))

here_blames : {A : Type 0} → Blames {A = A} (λ at text. Err at) (λ at text place. place ≡ at)
here_blames {A} = record {
  found = λ at text place fits h. sym (err_is at place h);
  only = λ at text place f. ap (λ (p : ℕ). Err p) (sym f);
}

closed_blames : (e : Endian) (kind : Kind) → Blames (closed_value_by e (out-Kind kind)) (ClosedFault e (out-Kind kind))
closed_blames e = by_kind (λ kind. Blames (closed_value_by e (out-Kind kind)) (ClosedFault e (out-Kind kind)))
    (λ b. rw (out_plain b) (basic_blames e b))
    (rw out_variant here_blames)
    (λ el. rw (out_array el) here_blames)
    (λ b el. rw (out_dict b el) here_blames)
    (λ ks. rw (out_struct ks) here_blames)

-- ---- whole values

record AllBlame (e : Endian) (room : ℕ) : Type 0 where
  values : (k : Kind) → IsKind k → Blames (value_at e room k) (FaultAt e room k)
  entries : (b : Basic) (k : Kind) → IsKind k → Blames (entry_at e room b k) (EntryFaultAt e room b k)

all_blame : (e : Endian) (room : ℕ) → AllBlame e room
unfolding value_at FaultAt
all_blame e zero = record { values = λ k is. closed_blames e k; entries = λ b k is. here_blames }
all_blame e (suc room) =
    let below = all_blame e room in
    let honest = all_honest e room in
    let reads = all_read e room in
    let whole : (k : Kind) → IsKind k → Whole e (Fits e room k) (value_at e room k) (FaultAt e room k) = λ k is. record { honest = honest.values k is; reads = reads.values k; blames = below.values k is } in
    record {
      values = λ k is. level_blames e (value_at e room) (entry_at e room) (Fits e room) (FitsEntry e room) (FaultAt e room) (EntryFaultAt e room) whole
          (λ b l il. record { honest = honest.entries b l il; reads = reads.entries b l; blames = below.entries b l il }) k is;
      entries = λ b k is. pair_blames e b (Fits e room k) (value_at e room k) (FaultAt e room k) (whole k is);
    }

-- A value is at fault in bytes exactly where reading it fails.
pub value_fault : (e : Endian) (k : Kind) (offset place : ℕ) (bytes : List ℕ) → IsKind k → All (λ byte. byte < 256) bytes → (value_of e k offset bytes ≡ Err place) ↔ FaultThere e k offset bytes place
value_fault e k offset place bytes is all =
    let blames = (all_blame e max_open).values k is in
    let fits : IsBytes (drop offset bytes) = bytes_drop offset bytes (all_bytes bytes all) in (
      (λ (h : value_of e k offset bytes ≡ Err place). elim (bind_err (value_at e max_open k offset (drop offset bytes)) (λ found. Ok (found.0, found.1)) place h) [
        | inl failed ↦ blames.found offset (drop offset bytes) place fits failed
        | inr done ↦ absurd (not_err (done.0.0, done.0.1) place done.2)
      ]),
      (λ (f : FaultThere e k offset bytes place). rw (blames.only offset (drop offset bytes) place f) refl),
    )
