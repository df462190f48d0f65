-- Where values end: what reads values and keeps nothing of them, by the same steps as in `dbus_wire` (D-Bus Specification,
-- "Marshaling (Wire Format)"). That these end where values are read, and fail where none is, is a law: `ends_are` in
-- proofs/EndLaws.antt.
use Rattle.std.specs.Prelude.{ℕ, zero, suc, ◌+◌, nat_lt, ◌==◌, Bool, List, [], ◌∷◌, length, take, drop, Ok, Err, if◌then◌else◌}
use Rattle.std.specs.Int.{Width, w16, w32, w64, byte_len}
use Rattle.dbus_signature.specs.declared.kind.Basic.{Basic}
use Rattle.dbus_signature.specs.declared.kind.Basic.TheVariants as basic
use Rattle.dbus_signature.specs.declared.kind.Kind.{Kind}
use Rattle.dbus_signature.specs.declared.kind.Kind.TheViews.{out-Kind}
use Rattle.dbus_signature.specs.declared.kind.Kind.TheOpen.{Kind-F}
use Rattle.dbus_signature.specs.Reading.{Read, Reader, ◌>>=◌}
use Rattle.dbus_signature.specs.Signatures.{kind_at, kinds_at}
use Rattle.dbus_wire.specs.declared.value.Endian.{Endian}
use Rattle.dbus_wire.specs.Alignment.{alignment}
use Rattle.dbus_wire.specs.Arrays.{head_at}
use Rattle.dbus_wire.specs.Fields.{aligned_at, closed_at, codes_at, number_at, padding_at, zeros_at}
use Rattle.dbus_wire.specs.Texts.{is_text, is_path}
use Rattle.dbus_wire.specs.Values.{whole_items}
use Rattle.std.specs.Prelude.{◌&&◌}

-- what was read is thrown away
abbrev pub forget : {A : Type 0} → Read A → Read (Unit {0})
forget read = read >>= λ x. Ok (tt, x.1, x.2)

-- where something ends, if it stands there
abbrev pub Ending : Type 0
Ending = Reader (Unit {0})

-- ---- what holds no others

-- so many bytes
unfoldable pub skip_at : ℕ → Ending
skip_at n at text = if nat_lt (length text) n then Err at else Ok (tt, at + n, drop n text)

-- a number behind its padding
unfoldable pub number_end : Width → Ending
number_end width at text = do
  start ← padding_at (byte_len width) at text
  skip_at (byte_len width) start.1 start.2

unfoldable pub byte_end : Ending
byte_end at [] = Err at
byte_end at (c ∷ rest) = Ok (tt, at + 1, rest)

abbrev pub truth_end : ℕ → ℕ × ℕ × List ℕ → Read (Unit {0})
truth_end place n = if n.0 == 0 then Ok (tt, n.1, n.2) else (if n.0 == 1 then Ok (tt, n.1, n.2) else Err place)

unfoldable pub bool_end : Endian → Ending
bool_end endian at text = do
  start ← padding_at 4 at text
  number ← number_at endian w32 start.1 start.2
  truth_end start.1 number

-- a text of so many bytes, and its closing NUL
unfoldable pub ended_end : (List ℕ → Bool) → ℕ → Ending
ended_end is_valid n at text =
    if nat_lt (length text) n then Err at
    else (if is_valid (take n text) then zeros_at 1 (at + n) (drop n text) else Err at)

unfoldable pub text_end : (List ℕ → Bool) → Endian → Ending
text_end is_valid endian at text = do
  n ← aligned_at endian w32 at text
  ended_end is_valid n.0 n.1 n.2

-- what a path is: a text that is one
abbrev pub is_path_text : List ℕ → Bool
is_path_text bytes = is_text bytes && is_path bytes

unfoldable pub signature_end : Ending
signature_end at text = do
  codes ← codes_at at text
  kinds ← kinds_at (length codes.0.1) codes.0.0 codes.0.1
  zeros_at 1 codes.1 codes.2

-- a signature of one complete type, of which the type is kept
abbrev pub only_type : ℕ → List ℕ → Kind × ℕ × List ℕ → Read Kind
only_type end after kind = if length kind.2 == 0 then closed_at kind.0 end after else Err kind.1

unfoldable pub type_end : Reader Kind
type_end at text = do
  codes ← codes_at at text
  kind ← kind_at 32 32 codes.0.0 codes.0.1
  only_type codes.1 codes.2 kind

abbrev pub basic_end : Endian → Basic → Ending
basic_end endian basic.Byte at text = byte_end at text
basic_end endian basic.Bool at text = bool_end endian at text
basic_end endian basic.I16 at text = number_end w16 at text
basic_end endian basic.U16 at text = number_end w16 at text
basic_end endian basic.I32 at text = number_end w32 at text
basic_end endian basic.U32 at text = number_end w32 at text
basic_end endian basic.I64 at text = number_end w64 at text
basic_end endian basic.U64 at text = number_end w64 at text
basic_end endian basic.Double at text = number_end w64 at text
basic_end endian basic.Str at text = text_end is_text endian at text
basic_end endian basic.Path at text = text_end is_path_text endian at text
basic_end endian basic.Sig at text = signature_end at text
basic_end endian basic.Fd at text = number_end w32 at text

-- ---- containers

-- items up to the end of the text; the number is at least that of the bytes left
unfoldable pub items_end : Ending → ℕ → Ending
items_end item n at [] = Ok (tt, at, [])
items_end item zero at (c ∷ text) = Err at
items_end item (suc n) at (c ∷ text) = do
  first ← item at (c ∷ text)
  items_end item n first.1 first.2

unfoldable pub contents_end : Ending → ℕ → Ending
contents_end item n at text = do
  items ← items_end item (length (take n text)) at (take n text)
  whole_items n (at + length (take n text)) text items

unfoldable pub array_end : Endian → ℕ → Ending → Ending
array_end endian align item at text = do
  head ← head_at endian align at text
  contents_end item head.0 head.1 head.2

unfoldable pub members_end : (Kind → Ending) → List Kind → Ending
members_end read [] at text = Ok (tt, at, text)
members_end read (kind ∷ kinds) at text = do
  first ← read kind at text
  members_end read kinds first.1 first.2

unfoldable pub struct_end : (Kind → Ending) → List Kind → Ending
struct_end read kinds at text = do
  start ← padding_at 8 at text
  members_end read kinds start.1 start.2

unfoldable pub variant_end : (Kind → Ending) → Ending
variant_end read at text = do
  kind ← type_end at text
  read kind.0 kind.1 kind.2

unfoldable pub pair_end : Endian → Basic → Ending → Ending
pair_end endian key read at text = do
  start ← padding_at 8 at text
  first ← basic_end endian key start.1 start.2
  read first.1 first.2

abbrev pub value_end_by : Endian → (Kind → Ending) → (Basic → Kind → Ending) → Kind-F Kind → Ending
value_end_by endian read entry (Kind-F.Basic basic) at text = basic_end endian basic at text
value_end_by endian read entry Kind-F.Variant at text = variant_end read at text
value_end_by endian read entry (Kind-F.Array element) at text = array_end endian (alignment element) (read element) at text
value_end_by endian read entry (Kind-F.Dict key inner) at text = array_end endian 8 (entry key inner) at text
value_end_by endian read entry (Kind-F.Struct members) at text = struct_end read members at text

abbrev pub closed_end_by : Endian → Kind-F Kind → Ending
closed_end_by endian (Kind-F.Basic basic) at text = basic_end endian basic at text
closed_end_by endian layer at text = Err at

unfoldable mutual
  -- a value of a type, where so many containers may still be opened
  pub value_end : Endian → ℕ → Kind → Ending
  value_end endian zero kind = closed_end_by endian (out-Kind kind)
  value_end endian (suc room) kind = value_end_by endian (value_end endian room) (entry_end endian room) (out-Kind kind)

  -- an entry of a dict
  pub entry_end : Endian → ℕ → Basic → Kind → Ending
  entry_end endian zero key kind at text = Err at
  entry_end endian (suc room) key kind at text = pair_end endian key (value_end endian room kind) at text

abbrev pub open_value_end : Endian → ℕ → Kind → Ending
open_value_end endian room kind = value_end_by endian (value_end endian room) (entry_end endian room) (out-Kind kind)

abbrev pub closed_value_end : Endian → Kind → Ending
closed_value_end endian kind = closed_end_by endian (out-Kind kind)
