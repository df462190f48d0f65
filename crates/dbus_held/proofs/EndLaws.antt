-- What passes over values ends where they are read, and fails where none is.
use Rattle.std.proofs.Common.{◌≡◌, ℕ, zero, suc, ◌+◌, Bool, true, false, cond, ltb, eqb, List, [], ◌∷◌, length, take, drop, Result, Ok, Err, refl, sym, ap, ◌∙◌}
use Rattle.std.specs.Int.{Width, w16, w32, w64, byte_len, cast_signed}
use Rattle.dbus_signature.specs.declared.kind.Basic.{Basic}
use Rattle.dbus_signature.specs.declared.kind.Basic.TheVariants as basic
use Rattle.dbus_signature.specs.declared.kind.Kind.{Kind}
use Rattle.dbus_signature.specs.declared.kind.Kind.TheViews.{out-Kind}
use Rattle.dbus_signature.specs.declared.kind.Kind.TheOpen.{Kind-F}
use Rattle.dbus_signature.specs.Reading.{Read, Reader, ◌>>=◌}
use Rattle.dbus_signature.specs.Signatures.{kind_at, kinds_at}
use Rattle.dbus_signature.specs.Types.{codes}
use Rattle.dbus_wire.specs.declared.value.Endian.{Endian}
use Rattle.dbus_wire.specs.declared.value.Value.{Value}
use Rattle.dbus_wire.specs.declared.value.Value.TheVariants as value
use Rattle.dbus_wire.specs.declared.strings.StringKind.TheVariants as string
use Rattle.dbus_wire.specs.Alignment.{alignment}
use Rattle.dbus_wire.specs.Arrays.{head_at}
use Rattle.dbus_wire.specs.Fields.{aligned_at, bool_at, bool_of, byte_at, closed_at, codes_at, ended_at, number_at, one_type_of, padding_at, signature_at, text_at, type_at, zeros_at}
use Rattle.dbus_wire.specs.Packing.{array_of}
use Rattle.dbus_wire.specs.Texts.{is_string, is_text, is_path}
use Rattle.dbus_wire.specs.Values.{array_at, as_value, basic_value_at, closed_value_by, contents_at, entry_at, items_at, members_at, pair_at, struct_at, value_at, value_by, variant_at, whole_items}
use Rattle.dbus_wire.proofs.ArrayLaws.{array_opens, bind_assoc}
use Rattle.dbus_held.specs.Ends.{Ending, array_end, basic_end, bool_end, byte_end, closed_end_by, contents_end, ended_end, entry_end, forget, is_path_text, items_end, members_end, number_end, only_type, pair_end, signature_end, skip_at, struct_end, text_end, truth_end, type_end, value_end, value_end_by, variant_end}

-- ---- steps in a row

along : {A B : Type 0} (r : Result A ℕ) (f g : A → Result B ℕ) → ((x : A) → f x ≡ g x) → (r >>= f) ≡ (r >>= g)
along (Ok x) f g same = same x
along (Err place) f g same = refl

later : {A B : Type 0} (r : Result A ℕ) (f : A → Read B) → (r >>= λ x. forget (f x)) ≡ forget (r >>= f)
later (Ok x) f = refl
later (Err place) f = refl

-- what is made of it is thrown away as well
made : {A B : Type 0} (make : A → B) (r : Read A) → forget r ≡ forget (as_value make r)
made make (Ok x) = refl
made make (Err place) = refl

through : {A : Type 0} (r : Read A) (f : Unit {0} × ℕ × List ℕ → Read (Unit {0})) (g : A × ℕ × List ℕ → Read (Unit {0})) → ((x : A × ℕ × List ℕ) → f (tt, x.1, x.2) ≡ g x) → (forget r >>= f) ≡ (r >>= g)
through (Ok x) f g same = same x
through (Err place) f g same = refl

nothing : (r : Read (Unit {0})) → r ≡ forget r
nothing (Ok x) = refl
nothing (Err place) = refl

tested : {A : Type 0} (b : Bool) (r s : Read (Unit {0})) (x y : Read A) → r ≡ forget x → s ≡ forget y → cond b r s ≡ forget (cond b x y)
tested true r s x y one two = one
tested false r s x y one two = two

-- ---- what holds no others

number_ends : (e : Endian) (w : Width) (at : ℕ) (text : List ℕ) → number_end w at text ≡ forget (aligned_at e w at text)
unfolding number_end aligned_at skip_at
number_ends e w at text =
    along (padding_at (byte_len w) at text) _ (λ s. forget (number_at e w s.1 s.2)) (λ s. tested (ltb (length s.2) (byte_len w)) _ _ _ _ refl refl)
    ∙ later (padding_at (byte_len w) at text) (λ s. number_at e w s.1 s.2)

byte_ends : (at : ℕ) (text : List ℕ) → byte_end at text ≡ forget (byte_at at text)
unfolding byte_end byte_at
byte_ends at [] = refl
byte_ends at (c ∷ text) = refl

truth_ends : (place : ℕ) (n : ℕ × ℕ × List ℕ) → truth_end place n ≡ forget (bool_of place n)
truth_ends place n = tested (eqb n.0 0) _ _ _ _ refl (tested (eqb n.0 1) _ _ _ _ refl refl)

bool_ends : (e : Endian) (at : ℕ) (text : List ℕ) → bool_end e at text ≡ forget (bool_at e at text)
unfolding bool_end bool_at
bool_ends e at text =
    along (padding_at 4 at text) _ (λ s. forget (number_at e w32 s.1 s.2 >>= λ n. bool_of s.1 n))
    (λ s. along (number_at e w32 s.1 s.2) _ (λ n. forget (bool_of s.1 n)) (λ n. truth_ends s.1 n) ∙ later (number_at e w32 s.1 s.2) (λ n. bool_of s.1 n))
    ∙ later (padding_at 4 at text) (λ s. number_at e w32 s.1 s.2 >>= λ n. bool_of s.1 n)

ended_ends : (is_valid : List ℕ → Bool) (n at : ℕ) (text : List ℕ) → ended_end is_valid n at text ≡ forget (ended_at is_valid n at text)
unfolding ended_end ended_at
ended_ends is_valid n at text =
    tested (ltb (length text) n) _ _ _ _ refl
    (tested (is_valid (take n text)) _ _ _ _ (nothing (zeros_at 1 (at + n) (drop n text)) ∙ made (λ u. take n text) (zeros_at 1 (at + n) (drop n text))) refl)

text_ends : (is_valid : List ℕ → Bool) (e : Endian) (at : ℕ) (text : List ℕ) → text_end is_valid e at text ≡ forget (text_at is_valid e at text)
unfolding text_end text_at
text_ends is_valid e at text =
    along (aligned_at e w32 at text) _ (λ n. forget (ended_at is_valid n.0 n.1 n.2)) (λ n. ended_ends is_valid n.0 n.1 n.2)
    ∙ later (aligned_at e w32 at text) (λ n. ended_at is_valid n.0 n.1 n.2)

signature_ends : (at : ℕ) (text : List ℕ) → signature_end at text ≡ forget (signature_at at text)
unfolding signature_end signature_at
signature_ends at text =
    along (codes_at at text) _ (λ c. forget (kinds_at (length c.0.1) c.0.0 c.0.1 >>= λ kinds. closed_at c.0.1 c.1 c.2))
    (λ c. along (kinds_at (length c.0.1) c.0.0 c.0.1) _ (λ kinds. forget (closed_at c.0.1 c.1 c.2)) (λ kinds. nothing (zeros_at 1 c.1 c.2) ∙ made (λ u. c.0.1) (zeros_at 1 c.1 c.2)) ∙ later (kinds_at (length c.0.1) c.0.0 c.0.1) (λ kinds. closed_at c.0.1 c.1 c.2))
    ∙ later (codes_at at text) (λ c. kinds_at (length c.0.1) c.0.0 c.0.1 >>= λ kinds. closed_at c.0.1 c.1 c.2)

basic_ends : (e : Endian) (b : Basic) (at : ℕ) (text : List ℕ) → basic_end e b at text ≡ forget (basic_value_at e b at text)
basic_ends e basic.Byte at text = byte_ends at text ∙ made value.Byte (byte_at at text)
basic_ends e basic.Bool at text = bool_ends e at text ∙ made value.Bool (bool_at e at text)
basic_ends e basic.I16 at text = number_ends e w16 at text ∙ made (λ n. value.I16 (cast_signed w16 n)) (aligned_at e w16 at text)
basic_ends e basic.U16 at text = number_ends e w16 at text ∙ made value.U16 (aligned_at e w16 at text)
basic_ends e basic.I32 at text = number_ends e w32 at text ∙ made (λ n. value.I32 (cast_signed w32 n)) (aligned_at e w32 at text)
basic_ends e basic.U32 at text = number_ends e w32 at text ∙ made value.U32 (aligned_at e w32 at text)
basic_ends e basic.I64 at text = number_ends e w64 at text ∙ made (λ n. value.I64 (cast_signed w64 n)) (aligned_at e w64 at text)
basic_ends e basic.U64 at text = number_ends e w64 at text ∙ made value.U64 (aligned_at e w64 at text)
basic_ends e basic.Double at text = number_ends e w64 at text ∙ made value.Double (aligned_at e w64 at text)
basic_ends e basic.Str at text = text_ends (is_string string.Text) e at text ∙ made value.Str (text_at (is_string string.Text) e at text)
basic_ends e basic.Path at text = text_ends (is_string string.Path) e at text ∙ made value.Path (text_at (is_string string.Path) e at text)
basic_ends e basic.Sig at text = signature_ends at text ∙ made value.Sig (signature_at at text)
basic_ends e basic.Fd at text = number_ends e w32 at text ∙ made value.Fd (aligned_at e w32 at text)

-- ---- containers

-- an ending and a reader of the same
abbrev Same : {A : Type 0} → Ending → Reader A → Type 0
Same ending reader = (at : ℕ) (text : List ℕ) → ending at text ≡ forget (reader at text)

items_ends : {A : Type 0} (ending : Ending) (item : Reader A) → Same ending item → (n at : ℕ) (text : List ℕ) → items_end ending n at text ≡ forget (items_at item n at text)
unfolding items_end items_at
items_ends ending item same zero at [] = refl
items_ends ending item same (suc n) at [] = refl
items_ends ending item same zero at (c ∷ text) = refl
items_ends ending item same (suc n) at (c ∷ text) =
    ap (λ (r : Read (Unit {0})). r >>= λ first. items_end ending n first.1 first.2) (same at (c ∷ text))
    ∙ through (item at (c ∷ text)) (λ first. items_end ending n first.1 first.2) (λ first. forget (items_at item n first.1 first.2 >>= λ others. Ok (first.0 ∷ others.0, others.1, others.2)))
    (λ first. items_ends ending item same n first.1 first.2 ∙ made (λ others. first.0 ∷ others) (items_at item n first.1 first.2))
    ∙ later (item at (c ∷ text)) (λ first. items_at item n first.1 first.2 >>= λ others. Ok (first.0 ∷ others.0, others.1, others.2))

contents_ends : {A : Type 0} (ending : Ending) (item : Reader A) → Same ending item → (n at : ℕ) (text : List ℕ) → contents_end ending n at text ≡ forget (contents_at item n at text)
unfolding contents_end contents_at
contents_ends ending item same n at text =
    let front = take n text in
    let end = at + length front in
    ap (λ (r : Read (Unit {0})). r >>= whole_items n end text) (items_ends ending item same (length front) at front)
    ∙ through (items_at item (length front) at front) (whole_items n end text) (λ items. forget (whole_items n end text items)) (λ items. tested (ltb (length text) n) _ _ _ _ refl refl)
    ∙ later (items_at item (length front) at front) (whole_items n end text)

array_ends : {A : Type 0} (e : Endian) (align : ℕ) (ending : Ending) (item : Reader A) → Same ending item → (at : ℕ) (text : List ℕ) → array_end e align ending at text ≡ forget (array_at e align item at text)
unfolding array_end
array_ends e align ending item same at text =
    along (head_at e align at text) _ (λ h. forget (contents_at item h.0 h.1 h.2)) (λ h. contents_ends ending item same h.0 h.1 h.2)
    ∙ later (head_at e align at text) (λ h. contents_at item h.0 h.1 h.2)
    ∙ ap forget (sym (array_opens e align item at text))

pub members_ends : (ending : Kind → Ending) (read : Kind → Reader Value) → ((k : Kind) → Same (ending k) (read k)) → (kinds : List Kind) (at : ℕ) (text : List ℕ) → members_end ending kinds at text ≡ forget (members_at read kinds at text)
unfolding members_end members_at
members_ends ending read same [] at text = refl
members_ends ending read same (kind ∷ kinds) at text =
    ap (λ (r : Read (Unit {0})). r >>= λ first. members_end ending kinds first.1 first.2) (same kind at text)
    ∙ through (read kind at text) (λ first. members_end ending kinds first.1 first.2) (λ first. forget (members_at read kinds first.1 first.2 >>= λ others. Ok (first.0 ∷ others.0, others.1, others.2)))
    (λ first. members_ends ending read same kinds first.1 first.2 ∙ made (λ others. first.0 ∷ others) (members_at read kinds first.1 first.2))
    ∙ later (read kind at text) (λ first. members_at read kinds first.1 first.2 >>= λ others. Ok (first.0 ∷ others.0, others.1, others.2))

struct_ends : (ending : Kind → Ending) (read : Kind → Reader Value) → ((k : Kind) → Same (ending k) (read k)) → (kinds : List Kind) → Same (struct_end ending kinds) (struct_at read kinds)
unfolding struct_end struct_at
struct_ends ending read same kinds at text =
    along (padding_at 8 at text) _ (λ s. forget (members_at read kinds s.1 s.2 >>= λ members. Ok (value.Struct members.0, members.1, members.2)))
    (λ s. members_ends ending read same kinds s.1 s.2 ∙ made value.Struct (members_at read kinds s.1 s.2))
    ∙ later (padding_at 8 at text) (λ s. members_at read kinds s.1 s.2 >>= λ members. Ok (value.Struct members.0, members.1, members.2))

-- the type of a signature, without its codes
only_ends : (codes : List ℕ) (end : ℕ) (after : List ℕ) (k : Kind × ℕ × List ℕ) → only_type end after k ≡ as_value (λ (x : Kind × List ℕ). x.0) (one_type_of codes end after k)
only_ends codes end after k = closes (eqb (length k.2) 0) (zeros_at 1 end after)
  where
    closes : (b : Bool) (r : Read (Unit {0})) → cond b (r >>= λ nul. Ok (k.0, nul.1, nul.2)) (Err k.1) ≡ as_value (λ (x : Kind × List ℕ). x.0) (cond b (r >>= λ nul. Ok ((k.0, codes), nul.1, nul.2)) (Err k.1))
    closes true (Ok x) = refl
    closes true (Err place) = refl
    closes false r = refl

type_ends : (at : ℕ) (text : List ℕ) → type_end at text ≡ as_value (λ (x : Kind × List ℕ). x.0) (type_at at text)
unfolding type_end type_at
type_ends at text =
    along (codes_at at text) _ _ (λ c. along (kind_at 32 32 c.0.0 c.0.1) _ _ (λ k. only_ends c.0.1 c.1 c.2 k) ∙ bind_assoc (kind_at 32 32 c.0.0 c.0.1) (λ k. one_type_of c.0.1 c.1 c.2 k) (λ x. Ok (x.0.0, x.1, x.2)))
    ∙ bind_assoc (codes_at at text) (λ c. kind_at 32 32 c.0.0 c.0.1 >>= λ k. one_type_of c.0.1 c.1 c.2 k) (λ x. Ok (x.0.0, x.1, x.2))

variant_ends : (ending : Kind → Ending) (read : Kind → Reader Value) → ((k : Kind) → Same (ending k) (read k)) → Same (variant_end ending) (variant_at read)
unfolding variant_end variant_at
variant_ends ending read same at text =
    ap (λ (r : Read Kind). r >>= λ kind. ending kind.0 kind.1 kind.2) (type_ends at text)
    ∙ sym (bind_assoc (type_at at text) (λ x. Ok (x.0.0, x.1, x.2)) (λ kind. ending kind.0 kind.1 kind.2))
    ∙ along (type_at at text) _ (λ kind. forget (read kind.0.0 kind.1 kind.2 >>= λ inner. Ok (value.Variant kind.0.1 inner.0, inner.1, inner.2)))
    (λ kind. same kind.0.0 kind.1 kind.2 ∙ made (value.Variant kind.0.1) (read kind.0.0 kind.1 kind.2))
    ∙ later (type_at at text) (λ kind. read kind.0.0 kind.1 kind.2 >>= λ inner. Ok (value.Variant kind.0.1 inner.0, inner.1, inner.2))

pair_ends : (e : Endian) (key : Basic) (ending : Ending) (read : Reader Value) → Same ending read → Same (pair_end e key ending) (pair_at e key read)
unfolding pair_end pair_at
pair_ends e key ending read same at text =
    along (padding_at 8 at text) _ (λ s. forget (basic_value_at e key s.1 s.2 >>= λ first. read first.1 first.2 >>= λ second. Ok (value.Pair first.0 second.0, second.1, second.2)))
    (λ s.
    ap (λ (r : Read (Unit {0})). r >>= λ first. ending first.1 first.2) (basic_ends e key s.1 s.2)
    ∙ through (basic_value_at e key s.1 s.2) (λ first. ending first.1 first.2) (λ first. forget (read first.1 first.2 >>= λ second. Ok (value.Pair first.0 second.0, second.1, second.2)))
    (λ first. same first.1 first.2 ∙ made (value.Pair first.0) (read first.1 first.2))
    ∙ later (basic_value_at e key s.1 s.2) (λ first. read first.1 first.2 >>= λ second. Ok (value.Pair first.0 second.0, second.1, second.2)))
    ∙ later (padding_at 8 at text) (λ s. basic_value_at e key s.1 s.2 >>= λ first. read first.1 first.2 >>= λ second. Ok (value.Pair first.0 second.0, second.1, second.2))

-- ---- whole values

level_ends : (e : Endian) (ending : Kind → Ending) (entry_ending : Basic → Kind → Ending) (read : Kind → Reader Value) (entry : Basic → Kind → Reader Value)
    → ((k : Kind) → Same (ending k) (read k)) → ((b : Basic) (k : Kind) → Same (entry_ending b k) (entry b k)) → (kind : Kind) (layer : Kind-F Kind) → Same (value_end_by e ending entry_ending layer) (value_by e read entry kind layer)
level_ends e ending entry_ending read entry same same_entry kind (Kind-F.Basic b) at text = basic_ends e b at text
level_ends e ending entry_ending read entry same same_entry kind Kind-F.Variant at text = variant_ends ending read same at text
level_ends e ending entry_ending read entry same same_entry kind (Kind-F.Array el) at text = array_ends e (alignment el) (ending el) (read el) (same el) at text ∙ made (array_of el) (array_at e (alignment el) (read el) at text)
level_ends e ending entry_ending read entry same same_entry kind (Kind-F.Dict b el) at text = array_ends e 8 (entry_ending b el) (entry b el) (same_entry b el) at text ∙ made (value.Array (codes kind)) (array_at e 8 (entry b el) at text)
level_ends e ending entry_ending read entry same same_entry kind (Kind-F.Struct ks) at text = struct_ends ending read same ks at text

closed_ends : (e : Endian) (layer : Kind-F Kind) → Same (closed_end_by e layer) (closed_value_by e layer)
closed_ends e (Kind-F.Basic b) at text = basic_ends e b at text
closed_ends e Kind-F.Variant at text = refl
closed_ends e (Kind-F.Array el) at text = refl
closed_ends e (Kind-F.Dict b el) at text = refl
closed_ends e (Kind-F.Struct ks) at text = refl

pub record AllEnd (e : Endian) (room : ℕ) : Type 0 where
  pub values : (k : Kind) → Same (value_end e room k) (value_at e room k)
  pub entries : (b : Basic) (k : Kind) → Same (entry_end e room b k) (entry_at e room b k)

pub ends_are : (e : Endian) (room : ℕ) → AllEnd e room
unfolding value_end value_at
ends_are e zero = record {
  values = λ k at text. closed_ends e (out-Kind k) at text;
  entries = λ b k at text. refl;
}
ends_are e (suc room) =
    let below = ends_are e room in
    record {
      values = λ k at text. level_ends e (value_end e room) (entry_end e room) (value_at e room) (entry_at e room) below.values below.entries k (out-Kind k) at text;
      entries = λ b k at text. pair_ends e b (value_end e room k) (value_at e room k) (below.values k) at text;
    }
