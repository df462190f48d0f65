-- Where bytes are at fault that spell no value of a type: by cases on the type, over the spellings of what stands before
-- the fault (D-Bus Specification, "Marshaling (Wire Format)").
use Rattle.std.specs.Prelude.{◌≡◌, ℕ, zero, suc, ◌+◌, ◌^◌, ◌<◌, ◌≤◌, ◌⊎◌, Bool, true, false, List, [], ◌∷◌, ◌++◌, length, take, drop, replicate}
use Rattle.std.specs.Int.{Width, w16, w32, w64, byte_len}
use Rattle.dbus_signature.specs.declared.kind.Basic.{Basic}
use Rattle.dbus_signature.specs.declared.kind.Basic.TheVariants as basic
use Rattle.dbus_signature.specs.declared.kind.Kind.{Kind}
use Rattle.dbus_signature.specs.declared.kind.Kind.TheViews.{out-Kind}
use Rattle.dbus_signature.specs.declared.kind.Kind.TheOpen.{Kind-F}
use Rattle.dbus_signature.specs.Signatures.{SpellsType}
use Rattle.dbus_signature.specs.FirstFault.{AreTypes, FirstFault, IsType}
use Rattle.dbus_wire.specs.declared.value.Endian.{Endian}
use Rattle.dbus_wire.specs.declared.value.Value.{Value}
use Rattle.dbus_wire.specs.declared.strings.StringKind.TheVariants as string
use Rattle.dbus_wire.specs.Alignment.{alignment}
use Rattle.dbus_wire.specs.Texts.{is_string}
use Rattle.dbus_wire.specs.Fields.{gap}
use Rattle.dbus_wire.specs.Values.{max_array, max_open}
use Rattle.dbus_wire.specs.Spelling.{aligned, padding, signature_spelling, spelling, spellings, to_bytes}
use Rattle.dbus_wire.specs.Fits.{Each, Fits, FitsEntry, IsBasic, Said}

-- What is at fault: an offset, the bytes from there on, and the place of the fault.
abbrev pub Fault : Type 1
Fault = ℕ → List ℕ → ℕ → Type 0

-- These bytes stand first, and what stands behind them is at fault.
abbrev pub Behind : List ℕ → Fault → Fault
Behind front fault at text place = (rest : List ℕ) × (text ≡ front ++ rest) × fault (at + length front) rest place

-- What comes first is at fault; or it is spelt so, and what comes behind it is at fault.
abbrev pub Then : Fault → (ℕ → List ℕ) → Fault → Fault
Then first front second at text place = first at text place ⊎ Behind (front at) second at text place

-- The same where what comes first is one of several things.
abbrev pub ThenOf : {A : Type 0} → Fault → (ℕ → A → Type 0) → (A → ℕ → List ℕ) → (A → Fault) → Fault
ThenOf {A} first is front second at text place = first at text place ⊎ ((x : A) × is at x × Behind (front x at) (second x) at text place)

-- ---- fields

-- no byte stands there, or another one than zero
abbrev pub NoZero : List ℕ → Type 0
NoZero [] = Unit {0}
NoZero (c ∷ rest) = c ≡ 0 → ⊥

-- A byte that is to be zero is another, or missing: the NUL that closes a text, or a byte of padding.
abbrev pub ZeroFault : Fault
ZeroFault at text place = (place ≡ at) × NoZero text

-- One of so many zeros, behind those before it.
abbrev pub ZerosFault : ℕ → Fault
ZerosFault count at text place = (before : ℕ) × (before < count) × Behind (replicate before 0) ZeroFault at text place

-- Padding: zeros up to a multiple ("Byte order and alignment").
abbrev pub PaddingFault : ℕ → Fault
PaddingFault align at = ZerosFault (gap align at) at

-- Fewer bytes are there.
abbrev pub Missing : ℕ → Fault
Missing count at text place = (place ≡ at) × (length text < count)

-- A number behind its padding ("Marshalling basic types").
abbrev pub NumberFault : Width → Fault
NumberFault width = Then (PaddingFault (byte_len width)) (padding (byte_len width)) (Missing (byte_len width))

-- A number above a limit.
abbrev pub Above : Endian → ℕ → Fault
Above endian limit at text place = (n : ℕ) × (rest : List ℕ) × (text ≡ to_bytes endian w32 n ++ rest) × (limit < n) × (n < 2 ^ 32) × (place ≡ at)

-- A number of four bytes that is not there, or is above a limit.
abbrev pub LimitFault : Endian → ℕ → Fault
LimitFault endian limit at text place = Missing 4 at text place ⊎ Above endian limit at text place

-- A boolean is a number that is 0 or 1 ("Marshalling basic types").
abbrev pub BoolFault : Endian → Fault
BoolFault endian = Then (PaddingFault 4) (padding 4) (LimitFault endian 1)

-- A text of so many bytes that runs over or is not valid; or its closing NUL.
abbrev pub EndedFault : (List ℕ → Bool) → ℕ → Fault
EndedFault is_valid count at text place =
    ((place ≡ at) × ((length text < count) ⊎ (is_valid (take count text) ≡ false)))
    ⊎ ((body : List ℕ) × (length body ≡ count) × (is_valid body ≡ true) × Behind body ZeroFault at text place)

-- A string and an object path behind their lengths ("Marshalling basic types").
abbrev pub TextFault : (List ℕ → Bool) → Endian → Fault
TextFault is_valid endian = ThenOf (NumberFault w32) (λ at count. count < 2 ^ 32) (λ count at. aligned endian w32 count at) (EndedFault is_valid)

-- The codes of a signature, of which there are to be so many, or the NUL that closes it.
abbrev pub CodesFault : (List ℕ → Type 0) → ℕ → Fault
CodesFault IsWord count at text place =
    ((before : ℕ) × FirstFault IsWord (take count text) before × (place ≡ at + before))
    ⊎ (IsWord (take count text) × ZeroFault (at + length (take count text)) (drop count text) place)

-- A signature behind its length ("Marshalling basic types"); in a variant one of a single type.
abbrev pub SignatureFault : (List ℕ → Type 0) → Fault
SignatureFault IsWord = ThenOf (Missing 1) (λ at count. count < 2 ^ 8) (λ count at. count ∷ []) (CodesFault IsWord)

-- A value that holds no others.
abbrev pub BasicFault : Endian → Basic → Fault
BasicFault endian basic.Byte = Missing 1
BasicFault endian basic.Bool = BoolFault endian
BasicFault endian basic.I16 = NumberFault w16
BasicFault endian basic.U16 = NumberFault w16
BasicFault endian basic.I32 = NumberFault w32
BasicFault endian basic.U32 = NumberFault w32
BasicFault endian basic.I64 = NumberFault w64
BasicFault endian basic.U64 = NumberFault w64
BasicFault endian basic.Double = NumberFault w64
BasicFault endian basic.Str = TextFault (is_string string.Text) endian
BasicFault endian basic.Path = TextFault (is_string string.Path) endian
BasicFault endian basic.Sig = SignatureFault AreTypes
BasicFault endian basic.Fd = NumberFault w32

-- ---- containers ("Marshalling containers")

-- An item of an array of so many bytes, behind the items before it, which runs over where it runs over the array; or the
-- end of the bytes, where the items end there and the array should not.
abbrev pub ContentsFault : Endian → Said → Fault → ℕ → Fault
ContentsFault endian said item count at text place =
    (items : List Value) × Each endian said items at
    × (((more : List ℕ) × (take count text ≡ spellings endian items at ++ more) × (0 < length more) × item (at + length (spellings endian items at)) more place)
    ⊎ ((take count text ≡ spellings endian items at) × (length text < count) × (place ≡ at + length text)))

-- An array: its length in bytes, padding that the length leaves out, and the items.
abbrev pub ArrayFault : Endian → ℕ → Said → Fault → Fault
ArrayFault endian align said item =
    Then (PaddingFault 4) (padding 4)
    (ThenOf (LimitFault endian max_array) (λ at count. count ≤ max_array) (λ count at. to_bytes endian w32 count)
    (λ count. Then (PaddingFault align) (padding align) (ContentsFault endian said item count)))

-- The first member at fault, behind those before it.
abbrev pub MembersFault : Endian → (Kind → Said) → (Kind → Fault) → List Kind → Fault
MembersFault endian said fault [] at text place = ⊥
MembersFault endian said fault (kind ∷ kinds) at text place =
    ThenOf (fault kind) (said kind) (λ v at. spelling endian v at) (λ v. MembersFault endian said fault kinds) at text place

-- A struct: its padding, and its members.
abbrev pub StructFault : Endian → (Kind → Said) → (Kind → Fault) → List Kind → Fault
StructFault endian said fault kinds = Then (PaddingFault 8) (padding 8) (MembersFault endian said fault kinds)

-- A variant: the signature of a single type, and the value.
abbrev pub VariantFault : (Kind → Fault) → Fault
VariantFault fault = ThenOf {A = Kind × List ℕ} (SignatureFault IsType) (λ at x. SpellsType x.1 x.0) (λ x at. signature_spelling x.1) (λ x. fault x.0)

-- An entry of a dict: its padding, the key and the value.
abbrev pub PairFault : Endian → Basic → Fault → Fault
PairFault endian key second =
    Then (PaddingFault 8) (padding 8) (ThenOf (BasicFault endian key) (λ at v. IsBasic key v) (λ v at. spelling endian v at) (λ v. second))

-- A value of a type, by its one level.
abbrev pub OpenFault : Endian → (Kind → Said) → (Basic → Kind → Said) → (Kind → Fault) → (Basic → Kind → Fault) → Kind-F Kind → Fault
OpenFault endian said said_entry fault entry (Kind-F.Basic basic) = BasicFault endian basic
OpenFault endian said said_entry fault entry Kind-F.Variant = VariantFault fault
OpenFault endian said said_entry fault entry (Kind-F.Array element) = ArrayFault endian (alignment element) (said element) (fault element)
OpenFault endian said said_entry fault entry (Kind-F.Dict key inner) = ArrayFault endian 8 (said_entry key inner) (entry key inner)
OpenFault endian said said_entry fault entry (Kind-F.Struct members) = StructFault endian said fault members

-- Where no container may be opened, one is at fault where it would begin, before its padding ("Valid Signatures" for the
-- 32 arrays and the 32 structs, "Message Format" for the 64 containers).
abbrev pub ClosedFault : Endian → Kind-F Kind → Fault
ClosedFault endian (Kind-F.Basic basic) = BasicFault endian basic
ClosedFault endian layer = λ at text place. place ≡ at

unfoldable mutual
  -- Bytes from an offset on have this first fault as a value of a type, where so many containers may still be opened.
  pub FaultAt : Endian → ℕ → Kind → Fault
  FaultAt endian zero kind = ClosedFault endian (out-Kind kind)
  FaultAt endian (suc room) kind = OpenFault endian (Fits endian room) (FitsEntry endian room) (FaultAt endian room) (EntryFaultAt endian room) (out-Kind kind)

  pub EntryFaultAt : Endian → ℕ → Basic → Kind → Fault
  EntryFaultAt endian zero key kind at text place = place ≡ at
  EntryFaultAt endian (suc room) key kind at text place = PairFault endian key (FaultAt endian room kind) at text place

-- Bytes have this first fault at an offset, as a value of a type.
abbrev pub FaultThere : Endian → Kind → ℕ → List ℕ → ℕ → Type 0
FaultThere endian kind offset bytes place = FaultAt endian max_open kind offset (drop offset bytes) place
