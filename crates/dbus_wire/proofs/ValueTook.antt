-- What is read of a value is its spelling.
use Rattle.std.proofs.Common.{◌≡◌, ℕ, zero, suc, ◌+◌, ◌^◌, ◌<◌, ◌≤◌, ltb, List, [], ◌∷◌, ◌++◌, length, take, drop, Ok, Err, refl, sym, ap, subst, ◌∙◌, arith, inl, inr}
use Rattle.std.specs.Int.{w32}
use Rattle.std.specs.List.{AllByRecursion}
use Rattle.std.proofs.lemmas.Bool.{ltb-false}
use Rattle.std.proofs.lemmas.List.{take-append-drop, append-nil, length-take}
use Rattle.dbus_signature.specs.declared.kind.Basic.{Basic}
use Rattle.dbus_signature.specs.declared.kind.Kind.{Kind}
use Rattle.dbus_signature.specs.declared.kind.Kind.TheVariants.{Variant, Array, Dict, Struct}
use Rattle.dbus_signature.specs.declared.kind.Kind.TheViews.{out-Kind}
use Rattle.dbus_signature.specs.declared.kind.Kind.TheOpen.{Kind-F}
use Rattle.dbus_signature.specs.Reading.{Reader, ◌>>=◌}
use Rattle.dbus_signature.specs.Types.{codes}
use Rattle.dbus_signature.specs.Signatures.{IsKind}
use Rattle.dbus_signature.proofs.KindLaws.{by_kind}
use Rattle.dbus_signature.proofs.Inner.{element_is, value_is, all_members_are, struct_some}
use Rattle.dbus_signature.proofs.Sound.{bind_ok, ok_is, not_ok, chosen, Takes, Takes-then}
use Rattle.dbus_wire.specs.Packing.{array_of}
use Rattle.dbus_wire.proofs.ArraySpelling.{elements_spelt, entries_spelt, fits_plain, Plainly, SpeltAs}
use Rattle.dbus_wire.specs.declared.value.Endian.{Endian}
use Rattle.dbus_wire.specs.declared.value.Value.{Value}
use Rattle.dbus_wire.specs.declared.value.Value.TheVariants as value
use Rattle.dbus_wire.specs.Values.{as_value, basic_value_at, max_array, items_at, whole_items, contents_at, within_limit, array_at, members_at, struct_at, variant_at, pair_at, value_by, closed_value_by, value_at, entry_at}
use Rattle.dbus_wire.specs.Alignment.{alignment, element_alignment}
use Rattle.dbus_wire.specs.Fields.{number_at, padding_at, type_at}
use Rattle.dbus_wire.specs.Spelling.{spelling, spellings, padding, to_bytes, signature_spelling, counted, array_spelling}
use Rattle.dbus_wire.specs.Fits.{Said, Each, Members, IsArray, IsOpen, IsClosed, IsPair, Fits, FitsEntry}
use Rattle.dbus_wire.proofs.Took.{IsBytes, bytes_rest, bytes_take, exact32, padding_takes, number_takes, type_takes}
use Rattle.dbus_wire.proofs.BasicTook.{Took, took_made, basic_took}
use Rattle.dbus_wire.proofs.Some.{out_plain, out_variant, out_array, out_dict, out_struct, array_aligned, dict_aligned}
use Rattle.dbus_wire.proofs.SpellingLaws.{spelt_array, spelt_struct, spelt_pair, spelt_variant}

-- What a reader reads is spelt so, and as is said.
abbrev pub Honest : Endian → Said → Reader Value → Type 0
Honest e said reader = (at : ℕ) (text : List ℕ) (x : Value × ℕ × List ℕ) → IsBytes text → reader at text ≡ Ok x → Took e said at text x

-- ---- items

abbrev TookAll : Endian → Said → ℕ → List ℕ → List Value × ℕ × List ℕ → Type 0
TookAll e said at text x = Takes at text (spellings e x.0 at) x.1 x.2 × Each e said x.0 at

pub items_took : (e : Endian) (item : Reader Value) (said : Said) → Honest e said item → (n at : ℕ) (text : List ℕ) (x : List Value × ℕ × List ℕ) → IsBytes text → items_at item n at text ≡ Ok x → TookAll e said at text x × (x.2 ≡ [])
unfolding items_at
items_took e item said honest zero at [] x fits h =
    subst (λ (y : List Value × ℕ × List ℕ). TookAll e said at [] y × (y.2 ≡ [])) (ok_is ([], at, []) x h) ((record { parts = refl; moved = omega arith }, tt), refl)
items_took e item said honest (suc n) at [] x fits h =
    subst (λ (y : List Value × ℕ × List ℕ). TookAll e said at [] y × (y.2 ≡ [])) (ok_is ([], at, []) x h) ((record { parts = refl; moved = omega arith }, tt), refl)
items_took e item said honest zero at (c ∷ text) x fits h = absurd (not_ok at x h)
items_took e item said honest (suc n) at (c ∷ text) x fits h =
    let f = bind_ok (item at (c ∷ text)) (λ first. items_at item n first.1 first.2 >>= λ others. Ok (first.0 ∷ others.0, others.1, others.2)) x h in
    let o = bind_ok (items_at item n f.0.1 f.0.2) (λ others. Ok (f.0.0 ∷ others.0, others.1, others.2)) x f.2 in
    let t = honest at (c ∷ text) f.0 fits f.1 in
    let u = items_took e item said honest n f.0.1 f.0.2 o.0 (bytes_rest at (c ∷ text) (spelling e f.0.0 at) f.0.1 f.0.2 t.0 fits) o.1 in
    let here : f.0.1 ≡ at + length (spelling e f.0.0 at) = t.0.moved in
    let second : Takes f.0.1 f.0.2 (spellings e o.0.0 (at + length (spelling e f.0.0 at))) o.0.1 o.0.2 = subst (λ (m : ℕ). Takes f.0.1 f.0.2 (spellings e o.0.0 m) o.0.1 o.0.2) here u.0.0 in
    let each : Each e said o.0.0 (at + length (spelling e f.0.0 at)) = subst (λ (m : ℕ). Each e said o.0.0 m) here u.0.1 in
    let whole = Takes-then at (c ∷ text) (spelling e f.0.0 at) f.0.1 f.0.2 (spellings e o.0.0 (at + length (spelling e f.0.0 at))) o.0.1 o.0.2 t.0 second in
    subst (λ (y : List Value × ℕ × List ℕ). TookAll e said at (c ∷ text) y × (y.2 ≡ [])) (ok_is (f.0.0 ∷ o.0.0, o.0.1, o.0.2) x o.2) ((whole, (t.1, each)), u.1)

contents_took : (e : Endian) (item : Reader Value) (said : Said) → Honest e said item → (n at : ℕ) (text : List ℕ) (x : List Value × ℕ × List ℕ) → IsBytes text → contents_at item n at text ≡ Ok x → TookAll e said at text x × (length (spellings e x.0 at) ≡ n)
unfolding contents_at
contents_took e item said honest n at text x fits h =
    let front = take n text in
    let i = bind_ok (items_at item (length front) at front) (λ items. whole_items n (at + length front) text items) x h in
    let t = items_took e item said honest (length front) at front i.0 (bytes_take n text fits) i.1 in
    elim (chosen (ltb (length text) n) (Err (at + length front)) (Ok (i.0.0, at + length front, drop n text)) (Ok x) i.2) [
      | inl p ↦ absurd (not_ok (at + length front) x p.1)
      | inr p ↦
          let long : n ≤ length text = ltb-false _ _ p.0 in
          let len : length front ≡ n = omega (arith, length-take n text) in
          let spelt : front ≡ spellings e i.0.0 at = t.0.0.parts ∙ ap (λ (r : List ℕ). spellings e i.0.0 at ++ r) t.1 ∙ append-nil (spellings e i.0.0 at) in
          let size : length (spellings e i.0.0 at) ≡ n = sym (ap length spelt) ∙ len in
          subst (λ (y : List Value × ℕ × List ℕ). TookAll e said at text y × (length (spellings e y.0 at) ≡ n)) (ok_is (i.0.0, at + length front, drop n text) x p.1)
          ((record { parts = sym (take-append-drop n text) ∙ ap (λ (l : List ℕ). l ++ drop n text) spelt; moved = ap (λ (l : List ℕ). at + length l) spelt }, t.0.1), size)
    ]

pub limit_is : (place : ℕ) (n m : ℕ × ℕ × List ℕ) → within_limit place n ≡ Ok m → (n ≡ m) × (n.0 ≤ max_array)
limit_is place n m h =
    elim (chosen (ltb max_array n.0) (Err place) (Ok n) (Ok m) h) [
      | inl p ↦ absurd (not_ok place m p.1)
      | inr p ↦ (ok_is n m p.1, ltb-false _ _ p.0)
    ]

-- an array's items, at the offset where its contents begin
abbrev TookArray : Endian → ℕ → Said → ℕ → List ℕ → List Value × ℕ × List ℕ → Type 0
TookArray e align said at text x =
    let first = at + length (padding 4 at) + 4 + length (padding align (at + length (padding 4 at) + 4)) in
    Takes at text (array_spelling e align (spellings e x.0) at) x.1 x.2 × Each e said x.0 first × (length (spellings e x.0 first) ≤ max_array)

array_took : (e : Endian) (align : ℕ) (item : Reader Value) (said : Said) → Honest e said item → (at : ℕ) (text : List ℕ) (x : List Value × ℕ × List ℕ) → IsBytes text → array_at e align item at text ≡ Ok x → TookArray e align said at text x
unfolding array_at
array_took e align item said honest at text x fits h =
    let s = bind_ok (padding_at 4 at text) (λ start. number_at e w32 start.1 start.2 >>= λ number. within_limit start.1 number >>= λ n. padding_at align n.1 n.2 >>= λ first. contents_at item n.0 first.1 first.2) x h in
    let n = bind_ok (number_at e w32 s.0.1 s.0.2) (λ number. within_limit s.0.1 number >>= λ n. padding_at align n.1 n.2 >>= λ first. contents_at item n.0 first.1 first.2) x s.2 in
    let m = bind_ok (within_limit s.0.1 n.0) (λ n. padding_at align n.1 n.2 >>= λ first. contents_at item n.0 first.1 first.2) x n.2 in
    let limit = limit_is s.0.1 n.0 m.0 m.1 in
    let rest : (padding_at align n.0.1 n.0.2 >>= λ first. contents_at item n.0.0 first.1 first.2) ≡ Ok x = subst (λ (y : ℕ × ℕ × List ℕ). (padding_at align y.1 y.2 >>= λ first. contents_at item y.0 first.1 first.2) ≡ Ok x) (sym limit.0) m.2 in
    let g = bind_ok (padding_at align n.0.1 n.0.2) (λ first. contents_at item n.0.0 first.1 first.2) x rest in
    let p = padding_takes 4 at text s.0 s.1 in
    let fits1 = bytes_rest at text (padding 4 at) s.0.1 s.0.2 p fits in
    let t = number_takes e w32 (2 ^ 32) (exact32 e) s.0.1 s.0.2 n.0 fits1 n.1 in
    let fits2 = bytes_rest s.0.1 s.0.2 (to_bytes e w32 n.0.0) n.0.1 n.0.2 t.0 fits1 in
    let q = padding_takes align n.0.1 n.0.2 g.0 g.1 in
    let fits3 = bytes_rest n.0.1 n.0.2 (padding align n.0.1) g.0.1 g.0.2 q fits2 in
    let c = contents_took e item said honest n.0.0 g.0.1 g.0.2 x fits3 g.2 in
    let place : n.0.1 ≡ at + length (padding 4 at) + 4 = omega (arith, p.moved, t.0.moved, (exact32 e).len n.0.0) in
    let first : g.0.1 ≡ at + length (padding 4 at) + 4 + length (padding align (at + length (padding 4 at) + 4)) = q.moved ∙ ap (λ (k : ℕ). k + length (padding align k)) place in
    let gap : Takes n.0.1 n.0.2 (padding align (at + length (padding 4 at) + 4)) g.0.1 g.0.2 = subst (λ (k : ℕ). Takes n.0.1 n.0.2 (padding align k) g.0.1 g.0.2) place q in
    let start = at + length (padding 4 at) + 4 + length (padding align (at + length (padding 4 at) + 4)) in
    let items : TookAll e said g.0.1 g.0.2 x × (length (spellings e x.0 g.0.1) ≡ n.0.0) = c in
    let row : Takes g.0.1 g.0.2 (spellings e x.0 start) x.1 x.2 = subst (λ (k : ℕ). Takes g.0.1 g.0.2 (spellings e x.0 k) x.1 x.2) first items.0.0 in
    let each : Each e said x.0 start = subst (λ (k : ℕ). Each e said x.0 k) first items.0.1 in
    let size : length (spellings e x.0 start) ≡ n.0.0 = subst (λ (k : ℕ). length (spellings e x.0 k) ≡ n.0.0) first items.1 in
    let number : Takes s.0.1 s.0.2 (to_bytes e w32 (length (spellings e x.0 start))) n.0.1 n.0.2 = rw size t.0 in
    let behind = Takes-then n.0.1 n.0.2 (padding align (at + length (padding 4 at) + 4)) g.0.1 g.0.2 (spellings e x.0 start) x.1 x.2 gap row in
    let counted_all = Takes-then s.0.1 s.0.2 (to_bytes e w32 (length (spellings e x.0 start))) n.0.1 n.0.2 (padding align (at + length (padding 4 at) + 4) ++ spellings e x.0 start) x.1 x.2 number behind in
    (Takes-then at text (padding 4 at) s.0.1 s.0.2 (counted e align (spellings e x.0) (at + length (padding 4 at))) x.1 x.2 p counted_all, each, rw size limit.1)

-- ---- members

abbrev TookMembers : Endian → (Kind → Said) → List Kind → ℕ → List ℕ → List Value × ℕ × List ℕ → Type 0
TookMembers e said ks at text x = Takes at text (spellings e x.0 at) x.1 x.2 × Members e said ks x.0 at × (length x.0 ≡ length ks)

members_took : (e : Endian) (read : Kind → Reader Value) (said : Kind → Said) → ((k : Kind) → IsKind k → Honest e (said k) (read k)) → (ks : List Kind) → AllByRecursion IsKind ks → (at : ℕ) (text : List ℕ) (x : List Value × ℕ × List ℕ) → IsBytes text → members_at read ks at text ≡ Ok x → TookMembers e said ks at text x
unfolding members_at
members_took e read said honest [] are at text x fits h =
    subst (λ (y : List Value × ℕ × List ℕ). TookMembers e said [] at text y) (ok_is ([], at, text) x h) (record { parts = refl; moved = omega arith }, tt, refl)
members_took e read said honest (k ∷ ks) are at text x fits h =
    let f = bind_ok (read k at text) (λ first. members_at read ks first.1 first.2 >>= λ others. Ok (first.0 ∷ others.0, others.1, others.2)) x h in
    let o = bind_ok (members_at read ks f.0.1 f.0.2) (λ others. Ok (f.0.0 ∷ others.0, others.1, others.2)) x f.2 in
    let t = honest k are.0 at text f.0 fits f.1 in
    let u = members_took e read said honest ks are.1 f.0.1 f.0.2 o.0 (bytes_rest at text (spelling e f.0.0 at) f.0.1 f.0.2 t.0 fits) o.1 in
    let here : f.0.1 ≡ at + length (spelling e f.0.0 at) = t.0.moved in
    let second : Takes f.0.1 f.0.2 (spellings e o.0.0 (at + length (spelling e f.0.0 at))) o.0.1 o.0.2 = subst (λ (m : ℕ). Takes f.0.1 f.0.2 (spellings e o.0.0 m) o.0.1 o.0.2) here u.0 in
    let each : Members e said ks o.0.0 (at + length (spelling e f.0.0 at)) = subst (λ (m : ℕ). Members e said ks o.0.0 m) here u.1 in
    let whole = Takes-then at text (spelling e f.0.0 at) f.0.1 f.0.2 (spellings e o.0.0 (at + length (spelling e f.0.0 at))) o.0.1 o.0.2 t.0 second in
    subst (λ (y : List Value × ℕ × List ℕ). TookMembers e said (k ∷ ks) at text y) (ok_is (f.0.0 ∷ o.0.0, o.0.1, o.0.2) x o.2) (whole, (t.1, each), ap suc u.2)

-- ---- one level

struct_took : (e : Endian) (read : Kind → Reader Value) (said : Kind → Said) (entry : Basic → Kind → Said) → ((k : Kind) → IsKind k → Honest e (said k) (read k)) → (ks : List Kind) → 0 < length ks → AllByRecursion IsKind ks → Honest e (IsOpen e said entry (Struct ks) (Kind-F.Struct ks)) (struct_at read ks)
unfolding struct_at
struct_took e read said entry honest ks some are at text x fits h =
    let s = bind_ok (padding_at 8 at text) (λ start. members_at read ks start.1 start.2 >>= λ members. Ok (value.Struct members.0, members.1, members.2)) x h in
    let m = bind_ok (members_at read ks s.0.1 s.0.2) (λ members. Ok (value.Struct members.0, members.1, members.2)) x s.2 in
    let p = padding_takes 8 at text s.0 s.1 in
    let t = members_took e read said honest ks are s.0.1 s.0.2 m.0 (bytes_rest at text (padding 8 at) s.0.1 s.0.2 p fits) m.1 in
    let here : s.0.1 ≡ at + length (padding 8 at) = p.moved in
    let row : Takes s.0.1 s.0.2 (spellings e m.0.0 (at + length (padding 8 at))) m.0.1 m.0.2 = subst (λ (k : ℕ). Takes s.0.1 s.0.2 (spellings e m.0.0 k) m.0.1 m.0.2) here t.0 in
    let fit : Members e said ks m.0.0 (at + length (padding 8 at)) = subst (λ (k : ℕ). Members e said ks m.0.0 k) here t.1 in
    let whole = Takes-then at text (padding 8 at) s.0.1 s.0.2 (spellings e m.0.0 (at + length (padding 8 at))) m.0.1 m.0.2 p row in
    subst (λ (y : Value × ℕ × List ℕ). Took e (IsOpen e said entry (Struct ks) (Kind-F.Struct ks)) at text y) (ok_is (value.Struct m.0.0, m.0.1, m.0.2) x m.2)
    (rw (spelt_struct e m.0.0 at) whole, (m.0.0, refl, omega (arith, t.2), fit))

variant_took : (e : Endian) (read : Kind → Reader Value) (said : Kind → Said) (entry : Basic → Kind → Said) (kind : Kind) → ((k : Kind) → IsKind k → Honest e (said k) (read k)) → Honest e (IsOpen e said entry kind Kind-F.Variant) (variant_at read)
unfolding variant_at
variant_took e read said entry kind honest at text x fits h =
    let k = bind_ok (type_at at text) (λ kind. read kind.0.0 kind.1 kind.2 >>= λ inner. Ok (value.Variant kind.0.1 inner.0, inner.1, inner.2)) x h in
    let v = bind_ok (read k.0.0.0 k.0.1 k.0.2) (λ inner. Ok (value.Variant k.0.0.1 inner.0, inner.1, inner.2)) x k.2 in
    let t = type_takes at text k.0 fits k.1 in
    let is : IsKind k.0.0.0 = record { spelt = refl; nested = t.1.nested; short = omega (arith, t.1.short, ap length t.1.spelt) } in
    let head = signature_spelling k.0.0.1 in
    let u = honest k.0.0.0 is k.0.1 k.0.2 v.0 (bytes_rest at text head k.0.1 k.0.2 t.0 fits) v.1 in
    let here : k.0.1 ≡ at + length head = t.0.moved in
    let inner : Takes k.0.1 k.0.2 (spelling e v.0.0 (at + length head)) v.0.1 v.0.2 = subst (λ (n : ℕ). Takes k.0.1 k.0.2 (spelling e v.0.0 n) v.0.1 v.0.2) here u.0 in
    let fit : said k.0.0.0 (at + length head) v.0.0 = subst (λ (n : ℕ). said k.0.0.0 n v.0.0) here u.1 in
    let whole = Takes-then at text head k.0.1 k.0.2 (spelling e v.0.0 (at + length head)) v.0.1 v.0.2 t.0 inner in
    subst (λ (y : Value × ℕ × List ℕ). Took e (IsOpen e said entry kind Kind-F.Variant) at text y) (ok_is (value.Variant k.0.0.1 v.0.0, v.0.1, v.0.2) x v.2)
    (rw (spelt_variant e k.0.0.1 v.0.0 at) whole, (k.0.0.1, k.0.0.0, v.0.0, refl, t.1, fit))

pair_took : (e : Endian) (key : Basic) (read : Reader Value) (said : Said) → Honest e said read → Honest e (IsPair e key said) (pair_at e key read)
unfolding pair_at
pair_took e key read said honest at text x fits h =
    let s = bind_ok (padding_at 8 at text) (λ start. basic_value_at e key start.1 start.2 >>= λ first. read first.1 first.2 >>= λ second. Ok (value.Pair first.0 second.0, second.1, second.2)) x h in
    let a = bind_ok (basic_value_at e key s.0.1 s.0.2) (λ first. read first.1 first.2 >>= λ second. Ok (value.Pair first.0 second.0, second.1, second.2)) x s.2 in
    let b = bind_ok (read a.0.1 a.0.2) (λ second. Ok (value.Pair a.0.0 second.0, second.1, second.2)) x a.2 in
    let p = padding_takes 8 at text s.0 s.1 in
    let fits1 = bytes_rest at text (padding 8 at) s.0.1 s.0.2 p fits in
    let t = basic_took e key s.0.1 s.0.2 a.0 fits1 a.1 in
    let fits2 = bytes_rest s.0.1 s.0.2 (spelling e a.0.0 s.0.1) a.0.1 a.0.2 t.0 fits1 in
    let u = honest a.0.1 a.0.2 b.0 fits2 b.1 in
    let start = at + length (padding 8 at) in
    let here : s.0.1 ≡ start = p.moved in
    let first : Takes s.0.1 s.0.2 (spelling e a.0.0 start) a.0.1 a.0.2 = subst (λ (n : ℕ). Takes s.0.1 s.0.2 (spelling e a.0.0 n) a.0.1 a.0.2) here t.0 in
    let middle : a.0.1 ≡ start + length (spelling e a.0.0 start) = first.moved ∙ ap (λ (n : ℕ). n + length (spelling e a.0.0 start)) here in
    let second : Takes a.0.1 a.0.2 (spelling e b.0.0 (start + length (spelling e a.0.0 start))) b.0.1 b.0.2 = subst (λ (n : ℕ). Takes a.0.1 a.0.2 (spelling e b.0.0 n) b.0.1 b.0.2) middle u.0 in
    let fit : said (start + length (spelling e a.0.0 start)) b.0.0 = subst (λ (n : ℕ). said n b.0.0) middle u.1 in
    let both = Takes-then s.0.1 s.0.2 (spelling e a.0.0 start) a.0.1 a.0.2 (spelling e b.0.0 (start + length (spelling e a.0.0 start))) b.0.1 b.0.2 first second in
    let whole = Takes-then at text (padding 8 at) s.0.1 s.0.2 (spelling e a.0.0 start ++ spelling e b.0.0 (start + length (spelling e a.0.0 start))) b.0.1 b.0.2 p both in
    let spelt : spelling e (value.Pair a.0.0 b.0.0) at ≡ padding 8 at ++ (spelling e a.0.0 start ++ spelling e b.0.0 (start + length (spelling e a.0.0 start)))
    = spelt_pair e a.0.0 b.0.0 at ∙ ap (λ (r : List ℕ). padding 8 at ++ (spelling e a.0.0 start ++ r)) (append-nil (spelling e b.0.0 (start + length (spelling e a.0.0 start)))) in
    subst (λ (y : Value × ℕ × List ℕ). Took e (IsPair e key said) at text y) (ok_is (value.Pair a.0.0 b.0.0, b.0.1, b.0.2) x b.2)
    (rw spelt whole, (a.0.0, b.0.0, refl, t.1, fit))

array_value_took : (e : Endian) (align : ℕ) (item : Reader Value) (said : Said) (make : List Value → Value) → Honest e said item → SpeltAs e align said make
    → Honest e (IsArray e align said make) (λ at text. as_value make (array_at e align item at text))
array_value_took e align item said make honest spelt at text x fits h =
    took_made make e (IsArray e align said make) at text (array_at e align item at text) x h (λ y is.
    let t = array_took e align item said honest at text y fits is in
    (rw (spelt y.0 at t.1) t.0, (y.0, refl, t.1, t.2)))

abbrev Level : Endian → (Kind → Reader Value) → (Basic → Kind → Reader Value) → (Kind → Said) → (Basic → Kind → Said) → Kind → Kind-F Kind → Type 0
Level e read entry said said_entry kind layer = IsKind kind → Honest e (IsOpen e said said_entry kind layer) (value_by e read entry kind layer)

level_took : (e : Endian) (read : Kind → Reader Value) (entry : Basic → Kind → Reader Value) (said : Kind → Said) (said_entry : Basic → Kind → Said)
    → ((k : Kind) → IsKind k → Honest e (said k) (read k)) → ((b : Basic) (k : Kind) → IsKind k → Honest e (said_entry b k) (entry b k))
    → Plainly said → (kind : Kind) → Level e read entry said said_entry kind (out-Kind kind)
level_took e read entry said said_entry honest honest_entry plain = by_kind (λ kind. Level e read entry said said_entry kind (out-Kind kind))
    (λ b. rw (out_plain b) (λ is. basic_took e b))
    (rw out_variant (λ is. variant_took e read said said_entry Variant honest))
    (λ el. rw (out_array el) (λ is. array_value_took e (alignment el) (read el) (said el) (array_of el) (honest el (element_is el is)) (elements_spelt e said plain el)))
    (λ b el. rw (out_dict b el) (λ is. array_value_took e 8 (entry b el) (said_entry b el) (value.Array (codes (Dict b el))) (honest_entry b el (value_is b el is)) (entries_spelt e (said_entry b el) b el)))
    (λ ks. rw (out_struct ks) (λ is. struct_took e read said said_entry honest ks (struct_some ks is) (all_members_are ks is)))

closed_took : (e : Endian) (kind : Kind) → Honest e (λ at v. IsClosed (out-Kind kind) v) (closed_value_by e (out-Kind kind))
closed_took e = by_kind (λ kind. Honest e (λ at v. IsClosed (out-Kind kind) v) (closed_value_by e (out-Kind kind)))
    (λ b. rw (out_plain b) (basic_took e b))
    (rw out_variant (λ at text x fits h. absurd (not_ok at x h)))
    (λ el. rw (out_array el) (λ at text x fits h. absurd (not_ok at x h)))
    (λ b el. rw (out_dict b el) (λ at text x fits h. absurd (not_ok at x h)))
    (λ ks. rw (out_struct ks) (λ at text x fits h. absurd (not_ok at x h)))

-- ---- whole values

pub record AllHonest (e : Endian) (room : ℕ) : Type 0 where
  pub values : (k : Kind) → IsKind k → Honest e (Fits e room k) (value_at e room k)
  pub entries : (b : Basic) (k : Kind) → IsKind k → Honest e (FitsEntry e room b k) (entry_at e room b k)

pub all_honest : (e : Endian) (room : ℕ) → AllHonest e room
unfolding Fits value_at
all_honest e zero = record {
  values = λ k is. closed_took e k;
  entries = λ b k is at text x fits h. absurd (not_ok at x h);
}
all_honest e (suc room) =
    let below = all_honest e room in
    record {
      values = λ k is. level_took e (value_at e room) (entry_at e room) (Fits e room) (FitsEntry e room) below.values below.entries (fits_plain e room) k is;
      entries = λ b k is. pair_took e b (value_at e room k) (Fits e room k) (below.values k is);
    }

-- What is read is a value that has a spelling there, and its spelling was taken.
pub value_took : (e : Endian) (room : ℕ) (k : Kind) → IsKind k → (at : ℕ) (text : List ℕ) (x : Value × ℕ × List ℕ) → IsBytes text → value_at e room k at text ≡ Ok x → Took e (Fits e room k) at text x
value_took e room k is at text x fits h = (all_honest e room).values k is at text x fits h
