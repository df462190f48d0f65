-- Each value that is spelt is read, whatever follows it.
use Rattle.std.proofs.Common.{◌≡◌, ℕ, zero, suc, ◌+◌, ◌^◌, ◌<◌, ◌≤◌, false, ltb, List, [], ◌∷◌, ◌++◌, length, Ok, refl, ap, ◌∙◌, append_assoc, arith}
use Rattle.std.specs.Int.{w32}
use Rattle.std.proofs.lemmas.Bool.{le-ltb}
use Rattle.std.proofs.lemmas.List.{take_at, drop_at, append-nil, length-append}
use Rattle.dbus_signature.specs.declared.kind.Basic.{Basic}
use Rattle.dbus_signature.specs.declared.kind.Kind.{Kind}
use Rattle.dbus_signature.specs.declared.kind.Kind.TheVariants.{Variant, Array, Dict}
use Rattle.dbus_signature.specs.declared.kind.Kind.TheViews.{out-Kind}
use Rattle.dbus_signature.specs.declared.kind.Kind.TheOpen.{Kind-F}
use Rattle.dbus_signature.specs.Reading.{Reader, ◌>>=◌}
use Rattle.dbus_signature.specs.Types.{codes}
use Rattle.dbus_signature.proofs.KindLaws.{by_kind}
use Rattle.dbus_wire.specs.Packing.{array_of}
use Rattle.dbus_wire.proofs.ArraySpelling.{elements_spelt, entries_spelt, fits_plain, Plainly, SpeltAs}
use Rattle.dbus_wire.specs.declared.value.Endian.{Endian}
use Rattle.dbus_wire.specs.declared.value.Value.{Value}
use Rattle.dbus_wire.specs.declared.value.Value.TheVariants as value
use Rattle.dbus_wire.specs.Values.{as_value, max_array, items_at, contents_at, array_at, members_at, struct_at, variant_at, pair_at, value_by, closed_value_by, value_at, entry_at}
use Rattle.dbus_wire.specs.Alignment.{alignment, element_alignment}
use Rattle.dbus_wire.specs.Spelling.{spelling, spellings, padding, to_bytes, signature_spelling, behind_padding, counted, array_spelling}
use Rattle.dbus_wire.specs.Fits.{Said, Each, Members, IsArray, IsOpen, IsClosed, IsPair, Fits, FitsEntry}
use Rattle.dbus_wire.proofs.Again.{found, moved_to, wide32, padding_again, number_again, type_again}
use Rattle.dbus_wire.proofs.BasicAgain.{Again, basic_again}
use Rattle.dbus_wire.proofs.Some.{out_plain, out_variant, out_array, out_dict, out_struct, array_aligned, dict_aligned, basic_some}
use Rattle.dbus_wire.proofs.SpellingLaws.{spelt_array, spelt_struct, spelt_pair, spelt_variant}

-- What is said of a value makes it be read as it is spelt, and its spelling not empty.
pub record Reads (e : Endian) (said : Said) (reader : Reader Value) : Type 0 where
  pub again : (at : ℕ) (v : Value) → said at v → Again reader e at v
  pub some : (at : ℕ) (v : Value) → said at v → 0 < length (spelling e v at)

-- ---- items

pub items_step : (item : Reader Value) (n at : ℕ) (text : List ℕ) → 0 < length text → items_at item (suc n) at text ≡ (item at text >>= λ first. items_at item n first.1 first.2 >>= λ others. Ok (first.0 ∷ others.0, others.1, others.2))
unfolding items_at
items_step item n at [] some = absurd (omega arith)
items_step item n at (c ∷ text) some = refl

pub items_again : (e : Endian) (item : Reader Value) (said : Said) → Reads e said item → (vs : List Value) (n at : ℕ) → length vs ≤ n → Each e said vs at → items_at item n at (spellings e vs at) ≡ found vs (at + length (spellings e vs at)) []
unfolding items_at
items_again e item said reads [] zero at enough each = moved_to [] at (at + 0) [] (omega arith)
items_again e item said reads [] (suc n) at enough each = moved_to [] at (at + 0) [] (omega arith)
items_again e item said reads (v ∷ vs) zero at enough each = absurd (omega arith)
items_again e item said reads (v ∷ vs) (suc n) at enough each =
    let first = spelling e v at in
    let here = at + length first in
    let others = spellings e vs here in
    let some : 0 < length (first ++ others) = omega (arith, reads.some at v each.0, length-append first others) in
    items_step item n at (first ++ others) some
    ∙ rw (reads.again at v each.0 others, items_again e item said reads vs n here (omega arith) each.1)
    (moved_to (v ∷ vs) _ _ [] (omega (arith, length-append first others)))

pub each_count : (e : Endian) (item : Reader Value) (said : Said) → Reads e said item → (vs : List Value) (at : ℕ) → Each e said vs at → length vs ≤ length (spellings e vs at)
each_count e item said reads [] at each = omega arith
each_count e item said reads (v ∷ vs) at each =
    let first = spelling e v at in
    omega (arith, reads.some at v each.0, each_count e item said reads vs (at + length first) each.1, length-append first (spellings e vs (at + length first)))

contents_again : (e : Endian) (item : Reader Value) (said : Said) → Reads e said item → (vs : List Value) (at : ℕ) (rest : List ℕ) → Each e said vs at
    → contents_at item (length (spellings e vs at)) at (spellings e vs at ++ rest) ≡ found vs (at + length (spellings e vs at)) rest
unfolding contents_at
contents_again e item said reads vs at rest each =
    let text = spellings e vs at in
    let long : ltb (length (text ++ rest)) (length text) ≡ false = le-ltb _ _ (omega (arith, length-append text rest)) in
    rw (take_at text rest (length text) refl, items_again e item said reads vs (length text) at (each_count e item said reads vs at each) each, long, drop_at text rest (length text) refl) refl

array_again : (e : Endian) (align : ℕ) (item : Reader Value) (said : Said) → Reads e said item → (vs : List Value) (at : ℕ) (rest : List ℕ)
    → (let place = at + length (padding 4 at) in let first = place + 4 + length (padding align (place + 4)) in Each e said vs first × (length (spellings e vs first) ≤ max_array))
    → array_at e align item at (array_spelling e align (spellings e vs) at ++ rest) ≡ found vs (at + length (array_spelling e align (spellings e vs) at)) rest
unfolding array_at
array_again e align item said reads vs at rest is =
    let pad = padding 4 at in
    let place = at + length pad in
    let gap = padding align (place + 4) in
    let first = place + 4 + length gap in
    let text = spellings e vs first in
    let number = to_bytes e w32 (length text) in
    let short : length text < 2 ^ 32 = omega (arith, is.1) in
    let within : ltb max_array (length text) ≡ false = le-ltb _ _ is.1 in
    let regrouped : (pad ++ (number ++ (gap ++ text))) ++ rest ≡ pad ++ (number ++ (gap ++ (text ++ rest)))
    = append_assoc pad (number ++ (gap ++ text)) rest ∙ ap (λ (t : List ℕ). pad ++ t) (append_assoc number (gap ++ text) rest ∙ ap (λ (t : List ℕ). number ++ t) (append_assoc gap text rest)) in
    rw (regrouped, padding_again 4 at (number ++ (gap ++ (text ++ rest))), number_again e w32 (2 ^ 32) (wide32 e) (length text) place (gap ++ (text ++ rest)) short, within, padding_again align (place + 4) (text ++ rest), contents_again e item said reads vs first rest is.0)
    (moved_to vs _ _ rest (omega (arith, length-append pad (number ++ (gap ++ text)), length-append number (gap ++ text), length-append gap text, (wide32 e).len (length text))))

-- ---- members

pub members_again : (e : Endian) (read : Kind → Reader Value) (said : Kind → Said) → ((k : Kind) → Reads e (said k) (read k)) → (ks : List Kind) (vs : List Value) (at : ℕ) (rest : List ℕ) → Members e said ks vs at
    → members_at read ks at (spellings e vs at ++ rest) ≡ found vs (at + length (spellings e vs at)) rest
unfolding members_at
members_again e read said reads [] [] at rest fit = moved_to [] at (at + 0) rest (omega arith)
members_again e read said reads [] (v ∷ vs) at rest fit = absurd fit
members_again e read said reads (k ∷ ks) [] at rest fit = absurd fit
members_again e read said reads (k ∷ ks) (v ∷ vs) at rest fit =
    let first = spelling e v at in
    let here = at + length first in
    let others = spellings e vs here in
    let regrouped : (first ++ others) ++ rest ≡ first ++ (others ++ rest) = append_assoc first others rest in
    rw (regrouped, (reads k).again at v fit.0 (others ++ rest), members_again e read said reads ks vs here rest fit.1)
    (moved_to (v ∷ vs) _ _ rest (omega (arith, length-append first others)))

-- ---- one level

abbrev Opens : Endian → (Kind → Reader Value) → (Basic → Kind → Reader Value) → (Kind → Said) → (Basic → Kind → Said) → Kind → Kind-F Kind → Type 0
Opens e read entry said said_entry kind layer = (at : ℕ) (v : Value) → IsOpen e said said_entry kind layer at v → Again (value_by e read entry kind layer) e at v

open_array : (e : Endian) (align : ℕ) (item : Reader Value) (said : Said) (make : List Value → Value) → Reads e said item → SpeltAs e align said make → (at : ℕ) (v : Value) → IsArray e align said make at v
    → Again (λ at text. as_value make (array_at e align item at text)) e at v
open_array e align item said make reads spelt at v is rest =
    rw (is.1, spelt is.0 at is.2, array_again e align item said reads is.0 at rest (is.2, is.3)) refl

open_struct : (e : Endian) (read : Kind → Reader Value) (said : Kind → Said) → ((k : Kind) → Reads e (said k) (read k)) → (ks : List Kind) (vs : List Value) (at : ℕ) (rest : List ℕ) → Members e said ks vs (at + length (padding 8 at))
    → struct_at read ks at (spelling e (value.Struct vs) at ++ rest) ≡ found (value.Struct vs) (at + length (spelling e (value.Struct vs) at)) rest
unfolding struct_at
open_struct e read said reads ks vs at rest fit =
    let pad = padding 8 at in
    let text = spellings e vs (at + length pad) in
    let regrouped : (pad ++ text) ++ rest ≡ pad ++ (text ++ rest) = append_assoc pad text rest in
    rw (spelt_struct e vs at, regrouped, padding_again 8 at (text ++ rest), members_again e read said reads ks vs (at + length pad) rest fit)
    (moved_to (value.Struct vs) _ _ rest (omega (arith, length-append pad text)))

open_variant : (e : Endian) (read : Kind → Reader Value) (said : Kind → Said) → ((k : Kind) → Reads e (said k) (read k)) → (entry : Basic → Kind → Reader Value) (said_entry : Basic → Kind → Said) (kind : Kind)
    → Opens e read entry said said_entry kind Kind-F.Variant
unfolding variant_at
open_variant e read said reads entry said_entry kind at v is rest =
    let head = signature_spelling is.0 in
    let here = at + length head in
    let text = spelling e is.2 here in
    let regrouped : (head ++ text) ++ rest ≡ head ++ (text ++ rest) = append_assoc head text rest in
    rw (is.3, spelt_variant e is.0 is.2 at, regrouped, type_again is.0 is.1 at (text ++ rest) is.4, (reads is.1).again here is.2 is.5 rest)
    (moved_to (value.Variant is.0 is.2) _ _ rest (omega (arith, length-append head text)))

open_pair : (e : Endian) (key : Basic) (read : Reader Value) (said : Said) → Reads e said read → (at : ℕ) (v : Value) → IsPair e key said at v → Again (pair_at e key read) e at v
unfolding pair_at
open_pair e key read said reads at v is rest =
    let pad = padding 8 at in
    let start = at + length pad in
    let first = spelling e is.0 start in
    let middle = start + length first in
    let second = spelling e is.1 middle in
    let spelt : spelling e (value.Pair is.0 is.1) at ≡ pad ++ (first ++ second) = spelt_pair e is.0 is.1 at ∙ ap (λ (t : List ℕ). pad ++ (first ++ t)) (append-nil second) in
    let regrouped : (pad ++ (first ++ second)) ++ rest ≡ pad ++ (first ++ (second ++ rest)) = append_assoc pad (first ++ second) rest ∙ ap (λ (t : List ℕ). pad ++ t) (append_assoc first second rest) in
    rw (is.2, spelt, regrouped, padding_again 8 at (first ++ (second ++ rest)), basic_again e key start is.0 is.3 (second ++ rest), reads.again middle is.1 is.4 rest)
    (moved_to (value.Pair is.0 is.1) _ _ rest (omega (arith, length-append pad (first ++ second), length-append first second)))

opens : (e : Endian) (read : Kind → Reader Value) (entry : Basic → Kind → Reader Value) (said : Kind → Said) (said_entry : Basic → Kind → Said) → ((k : Kind) → Reads e (said k) (read k)) → ((b : Basic) (k : Kind) → Reads e (said_entry b k) (entry b k))
    → Plainly said → (kind : Kind) → Opens e read entry said said_entry kind (out-Kind kind)
opens e read entry said said_entry reads reads_entry plain = by_kind (λ kind. Opens e read entry said said_entry kind (out-Kind kind))
    (λ b. rw (out_plain b) (λ at v is. basic_again e b at v is))
    (rw out_variant (open_variant e read said reads entry said_entry Variant))
    (λ el. rw (out_array el) (λ at v is. open_array e (alignment el) (read el) (said el) (array_of el) (reads el) (elements_spelt e said plain el) at v is))
    (λ b el. rw (out_dict b el) (λ at v is. open_array e 8 (entry b el) (said_entry b el) (value.Array (codes (Dict b el))) (reads_entry b el) (entries_spelt e (said_entry b el) b el) at v is))
    (λ ks. rw (out_struct ks) (λ at v is rest. rw is.1 (open_struct e read said reads ks is.0 at rest is.3)))

-- ---- no spelling of a container is empty

array_some : (e : Endian) (align : ℕ) (said : Said) (make : List Value → Value) → SpeltAs e align said make → (at : ℕ) (v : Value) → IsArray e align said make at v → 0 < length (spelling e v at)
array_some e align said make spelt at v is =
    let contents = spellings e is.0 in
    let pad = padding 4 at in
    let behind = counted e align contents (at + length pad) in
    let inner = at + length pad + 4 + length (padding align (at + length pad + 4)) in
    let number = to_bytes e w32 (length (contents inner)) in
    rw (is.1, spelt is.0 at is.2)
    (omega (arith, length-append pad behind, length-append number (behind_padding align contents (at + length pad + 4)), (wide32 e).len (length (contents inner))))

struct_some : (e : Endian) (read : Kind → Reader Value) (said : Kind → Said) → ((k : Kind) → Reads e (said k) (read k)) → (ks : List Kind) (vs : List Value) (at : ℕ) → 0 < length vs → Members e said ks vs (at + length (padding 8 at)) → 0 < length (spelling e (value.Struct vs) at)
struct_some e read said reads ks [] at some fit = absurd (omega arith)
struct_some e read said reads [] (v ∷ vs) at some fit = absurd fit
struct_some e read said reads (k ∷ ks) (v ∷ vs) at some fit =
    let pad = padding 8 at in
    let start = at + length pad in
    let first = spelling e v start in
    let others = spellings e vs (start + length first) in
    rw (spelt_struct e (v ∷ vs) at) (omega (arith, length-append pad (first ++ others), length-append first others, (reads k).some start v fit.0))

variant_some : (e : Endian) (said : Kind → Said) (said_entry : Basic → Kind → Said) (kind : Kind) (at : ℕ) (v : Value) → IsOpen e said said_entry kind Kind-F.Variant at v → 0 < length (spelling e v at)
variant_some e said said_entry kind at v is =
    rw (is.3, spelt_variant e is.0 is.2 at) (omega (arith, length-append (signature_spelling is.0) (spelling e is.2 (at + length (signature_spelling is.0)))))

pair_some : (e : Endian) (key : Basic) (said : Said) (at : ℕ) (v : Value) → IsPair e key said at v → 0 < length (spelling e v at)
pair_some e key said at v is =
    let pad = padding 8 at in
    let start = at + length pad in
    let first = spelling e is.0 start in
    let others = spellings e (is.1 ∷ []) (start + length first) in
    rw (is.2, spelt_pair e is.0 is.1 at) (omega (arith, length-append pad (first ++ others), length-append first others, basic_some e key start is.0 is.3))

abbrev SomeOpen : Endian → (Kind → Said) → (Basic → Kind → Said) → Kind → Kind-F Kind → Type 0
SomeOpen e said said_entry kind layer = (at : ℕ) (v : Value) → IsOpen e said said_entry kind layer at v → 0 < length (spelling e v at)

opens_some : (e : Endian) (read : Kind → Reader Value) (said : Kind → Said) (said_entry : Basic → Kind → Said) → ((k : Kind) → Reads e (said k) (read k)) → Plainly said → (kind : Kind) → SomeOpen e said said_entry kind (out-Kind kind)
opens_some e read said said_entry reads plain = by_kind (λ kind. SomeOpen e said said_entry kind (out-Kind kind))
    (λ b. rw (out_plain b) (λ at v is. basic_some e b at v is))
    (rw out_variant (λ at v is. variant_some e said said_entry Variant at v is))
    (λ el. rw (out_array el) (λ at v is. array_some e (alignment el) (said el) (array_of el) (elements_spelt e said plain el) at v is))
    (λ b el. rw (out_dict b el) (λ at v is. array_some e 8 (said_entry b el) (value.Array (codes (Dict b el))) (entries_spelt e (said_entry b el) b el) at v is))
    (λ ks. rw (out_struct ks) (λ at v is. rw is.1 (struct_some e read said reads ks is.0 at is.2 is.3)))

-- ---- where nothing more may be opened

closed : (e : Endian) (kind : Kind) (at : ℕ) (v : Value) → IsClosed (out-Kind kind) v → Again (closed_value_by e (out-Kind kind)) e at v
closed e = by_kind (λ kind. (at : ℕ) (v : Value) → IsClosed (out-Kind kind) v → Again (closed_value_by e (out-Kind kind)) e at v)
    (λ b. rw (out_plain b) (λ at v is. basic_again e b at v is))
    (rw out_variant (λ at v is. absurd is))
    (λ el. rw (out_array el) (λ at v is. absurd is))
    (λ b el. rw (out_dict b el) (λ at v is. absurd is))
    (λ ks. rw (out_struct ks) (λ at v is. absurd is))

closed_some : (e : Endian) (kind : Kind) (at : ℕ) (v : Value) → IsClosed (out-Kind kind) v → 0 < length (spelling e v at)
closed_some e = by_kind (λ kind. (at : ℕ) (v : Value) → IsClosed (out-Kind kind) v → 0 < length (spelling e v at))
    (λ b. rw (out_plain b) (λ at v is. basic_some e b at v is))
    (rw out_variant (λ at v is. absurd is))
    (λ el. rw (out_array el) (λ at v is. absurd is))
    (λ b el. rw (out_dict b el) (λ at v is. absurd is))
    (λ ks. rw (out_struct ks) (λ at v is. absurd is))

-- ---- whole values

pub record AllRead (e : Endian) (room : ℕ) : Type 0 where
  pub values : (k : Kind) → Reads e (Fits e room k) (value_at e room k)
  pub entries : (b : Basic) (k : Kind) → Reads e (FitsEntry e room b k) (entry_at e room b k)

pub all_read : (e : Endian) (room : ℕ) → AllRead e room
unfolding Fits value_at
all_read e zero = record {
  values = λ k. record { again = λ at v is. closed e k at v is; some = λ at v is. closed_some e k at v is };
  entries = λ b k. record { again = λ at v is. absurd is; some = λ at v is. absurd is };
}
all_read e (suc room) =
    let below = all_read e room in
    record {
      values = λ k. record {
        again = λ at v is. opens e (value_at e room) (entry_at e room) (Fits e room) (FitsEntry e room) below.values below.entries (fits_plain e room) k at v is;
        some = λ at v is. opens_some e (value_at e room) (Fits e room) (FitsEntry e room) below.values (fits_plain e room) k at v is;
      };
      entries = λ b k. record {
        again = λ at v is. open_pair e b (value_at e room k) (Fits e room k) (below.values k) at v is;
        some = λ at v is. pair_some e b (Fits e room k) at v is;
      };
    }

-- What spells a value at an offset is read as the value, whatever follows.
pub value_again : (e : Endian) (room : ℕ) (k : Kind) (at : ℕ) (v : Value) (rest : List ℕ) → Fits e room k at v → value_at e room k at (spelling e v at ++ rest) ≡ Ok (v, at + length (spelling e v at), rest)
value_again e room k at v rest fits = ((all_read e room).values k).again at v fits rest
