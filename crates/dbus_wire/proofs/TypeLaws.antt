-- The type of each value, one level at a time; and that a value with a spelling as a type is of that type.
use Rattle.std.proofs.Common.{◌≡◌, ℕ, zero, suc, ◌+◌, ◌<◌, ◌≤◌, Bool, List, [], ◌∷◌, ◌++◌, length, get_or, take, drop, refl, sym, ap, ◌∙◌, append_assoc, arith}
use Rattle.std.specs.Prelude.{ℤ}
use Rattle.std.proofs.lemmas.List.{append-nil, take_more}
use Rattle.dbus_signature.specs.declared.kind.Basic.{Basic}
use Rattle.dbus_signature.specs.declared.kind.Basic.TheVariants as basic
use Rattle.dbus_signature.specs.declared.kind.Kind.{Kind}
use Rattle.dbus_signature.specs.declared.kind.Kind.TheVariants.{Basic as Plain, Variant, Array, Dict, Struct}
use Rattle.dbus_signature.specs.declared.kind.Kind.TheViews.{out-Kind}
use Rattle.dbus_signature.specs.declared.kind.Kind.TheOpen.{Kind-F}
use Rattle.dbus_signature.specs.Types.{all_codes, code, codes}
use Rattle.dbus_signature.proofs.KindLaws.{by_kind, codes_array, codes_plain, codes_variant, codes_struct}
use Rattle.dbus_wire.specs.declared.value.Endian.{Endian}
use Rattle.dbus_wire.specs.declared.value.Value.{Value}
use Rattle.dbus_wire.specs.declared.value.Value.TheVariants as value
use Rattle.dbus_wire.specs.declared.value.Value.TheVariants.{rolls-Byte, rolls-Bool, rolls-I16, rolls-U16, rolls-I32, rolls-U32, rolls-I64, rolls-U64, rolls-Double, rolls-Str, rolls-Path, rolls-Sig, rolls-Fd, rolls-Packed, rolls-Array, rolls-Struct, rolls-Pair, rolls-Variant}
use Rattle.dbus_wire.specs.declared.value.Value.TheOpen.{Value-F}
use Rattle.dbus_wire.specs.declared.value.Value.TheFolds.{fold-roll-Value}
use Rattle.dbus_wire.specs.declared.value.Packed.{Packed}
use Rattle.dbus_wire.specs.Packing.{array_by, array_of, packed_codes, packing}
use Rattle.dbus_wire.specs.Fits.{Said, Members, IsArray, IsOpen, IsClosed, IsBasic, Fits, FitsEntry}
use Rattle.dbus_wire.specs.TypeCodes.{type_codes, type_step, types_codes}
use Rattle.dbus_wire.proofs.Some.{out_plain, out_variant, out_array, out_dict, out_struct}

pub typed_byte : (n : ℕ) → type_codes (value.Byte n) ≡ 121 ∷ []
typed_byte n = ap type_codes (sym (rolls-Byte n)) ∙ fold-roll-Value (List ℕ) type_step (Value-F.Byte n)

pub typed_bool : (b : Bool) → type_codes (value.Bool b) ≡ 98 ∷ []
typed_bool b = ap type_codes (sym (rolls-Bool b)) ∙ fold-roll-Value (List ℕ) type_step (Value-F.Bool b)

pub typed_i16 : (n : ℤ) → type_codes (value.I16 n) ≡ 110 ∷ []
typed_i16 n = ap type_codes (sym (rolls-I16 n)) ∙ fold-roll-Value (List ℕ) type_step (Value-F.I16 n)

pub typed_u16 : (n : ℕ) → type_codes (value.U16 n) ≡ 113 ∷ []
typed_u16 n = ap type_codes (sym (rolls-U16 n)) ∙ fold-roll-Value (List ℕ) type_step (Value-F.U16 n)

pub typed_i32 : (n : ℤ) → type_codes (value.I32 n) ≡ 105 ∷ []
typed_i32 n = ap type_codes (sym (rolls-I32 n)) ∙ fold-roll-Value (List ℕ) type_step (Value-F.I32 n)

pub typed_u32 : (n : ℕ) → type_codes (value.U32 n) ≡ 117 ∷ []
typed_u32 n = ap type_codes (sym (rolls-U32 n)) ∙ fold-roll-Value (List ℕ) type_step (Value-F.U32 n)

pub typed_i64 : (n : ℤ) → type_codes (value.I64 n) ≡ 120 ∷ []
typed_i64 n = ap type_codes (sym (rolls-I64 n)) ∙ fold-roll-Value (List ℕ) type_step (Value-F.I64 n)

pub typed_u64 : (n : ℕ) → type_codes (value.U64 n) ≡ 116 ∷ []
typed_u64 n = ap type_codes (sym (rolls-U64 n)) ∙ fold-roll-Value (List ℕ) type_step (Value-F.U64 n)

pub typed_double : (n : ℕ) → type_codes (value.Double n) ≡ 100 ∷ []
typed_double n = ap type_codes (sym (rolls-Double n)) ∙ fold-roll-Value (List ℕ) type_step (Value-F.Double n)

pub typed_str : (t : List ℕ) → type_codes (value.Str t) ≡ 115 ∷ []
typed_str t = ap type_codes (sym (rolls-Str t)) ∙ fold-roll-Value (List ℕ) type_step (Value-F.Str t)

pub typed_path : (t : List ℕ) → type_codes (value.Path t) ≡ 111 ∷ []
typed_path t = ap type_codes (sym (rolls-Path t)) ∙ fold-roll-Value (List ℕ) type_step (Value-F.Path t)

pub typed_sig : (s : List ℕ) → type_codes (value.Sig s) ≡ 103 ∷ []
typed_sig s = ap type_codes (sym (rolls-Sig s)) ∙ fold-roll-Value (List ℕ) type_step (Value-F.Sig s)

pub typed_fd : (n : ℕ) → type_codes (value.Fd n) ≡ 104 ∷ []
typed_fd n = ap type_codes (sym (rolls-Fd n)) ∙ fold-roll-Value (List ℕ) type_step (Value-F.Fd n)

pub typed_packed : (p : Packed) → type_codes (value.Packed p) ≡ packed_codes p
typed_packed p = ap type_codes (sym (rolls-Packed p)) ∙ fold-roll-Value (List ℕ) type_step (Value-F.Packed p)

pub typed_array : (s : List ℕ) (vs : List Value) → type_codes (value.Array s vs) ≡ s
typed_array s vs = ap type_codes (sym (rolls-Array s vs)) ∙ fold-roll-Value (List ℕ) type_step (Value-F.Array s vs)

pub typed_struct : (vs : List Value) → type_codes (value.Struct vs) ≡ 40 ∷ types_codes vs ++ 41 ∷ []
typed_struct vs = ap type_codes (sym (rolls-Struct vs)) ∙ fold-roll-Value (List ℕ) type_step (Value-F.Struct vs)

pub typed_pair : (k v : Value) → type_codes (value.Pair k v) ≡ 123 ∷ type_codes k ++ (type_codes v ++ 125 ∷ [])
typed_pair k v = ap type_codes (sym (rolls-Pair k v)) ∙ fold-roll-Value (List ℕ) type_step (Value-F.Pair k v)

pub typed_variant : (s : List ℕ) (v : Value) → type_codes (value.Variant s v) ≡ 118 ∷ []
typed_variant s v = ap type_codes (sym (rolls-Variant s v)) ∙ fold-roll-Value (List ℕ) type_step (Value-F.Variant s v)

pub ruleset typed = (typed_byte, typed_bool, typed_i16, typed_u16, typed_i32, typed_u32, typed_i64, typed_u64, typed_double, typed_str, typed_path, typed_sig, typed_fd, typed_packed, typed_array, typed_struct, typed_pair, typed_variant)

-- ---- rows

types_append : (xs ys : List Value) → types_codes (xs ++ ys) ≡ types_codes xs ++ types_codes ys
types_append [] ys = refl
types_append (x ∷ xs) ys = ap (λ (t : List ℕ). type_codes x ++ t) (types_append xs ys) ∙ sym (append_assoc (type_codes x) (types_codes xs) (types_codes ys))

-- what a loop over values has written so far
pub types_go_on : (vs : List Value) (i : ℕ) (v : Value) (base out new : List ℕ) → i < length vs → v ≡ get_or vs i v
    → out ≡ base ++ types_codes (take i vs) → new ≡ out ++ type_codes v → new ≡ base ++ types_codes (take (i + 1) vs)
types_go_on vs i v base out new lt is before after =
    let more : types_codes (take (i + 1) vs) ≡ types_codes (take i vs) ++ type_codes v
    = ap types_codes (take_more vs i v lt ∙ ap (λ (x : Value). take i vs ++ x ∷ []) (sym is)) ∙ types_append (take i vs) (v ∷ []) ∙ ap (λ (t : List ℕ). types_codes (take i vs) ++ t) (append-nil (type_codes v)) in
    after ∙ ap (λ (t : List ℕ). t ++ type_codes v) before ∙ append_assoc base (types_codes (take i vs)) (type_codes v) ∙ ap (λ (t : List ℕ). base ++ t) (sym more)

-- ---- a value is of the type as which it has a spelling

basic_typed : (b : Basic) (v : Value) → IsBasic b v → type_codes v ≡ code b ∷ []
basic_typed basic.Byte v is = rw (is.1) (typed_byte is.0)
basic_typed basic.Bool v is = rw (is.1) (typed_bool is.0)
basic_typed basic.I16 v is = rw (is.1) (typed_i16 _)
basic_typed basic.U16 v is = rw (is.1) (typed_u16 is.0)
basic_typed basic.I32 v is = rw (is.1) (typed_i32 _)
basic_typed basic.U32 v is = rw (is.1) (typed_u32 is.0)
basic_typed basic.I64 v is = rw (is.1) (typed_i64 _)
basic_typed basic.U64 v is = rw (is.1) (typed_u64 is.0)
basic_typed basic.Double v is = rw (is.1) (typed_double is.0)
basic_typed basic.Str v is = rw (is.1) (typed_str is.0)
basic_typed basic.Path v is = rw (is.1) (typed_path is.0)
basic_typed basic.Sig v is = rw (is.1) (typed_sig is.0)
basic_typed basic.Fd v is = rw (is.1) (typed_fd is.0)

abbrev Typed : (Kind → Said) → Type 0
Typed said = (k : Kind) (at : ℕ) (v : Value) → said k at v → type_codes v ≡ codes k

members_typed : (e : Endian) (said : Kind → Said) → Typed said → (ks : List Kind) (vs : List Value) (at : ℕ) → Members e said ks vs at → types_codes vs ≡ all_codes ks
members_typed e said typed [] [] at fit = refl
members_typed e said typed [] (v ∷ vs) at fit = absurd fit
members_typed e said typed (k ∷ ks) [] at fit = absurd fit
members_typed e said typed (k ∷ ks) (v ∷ vs) at fit = rw (typed k at v fit.0, members_typed e said typed ks vs _ fit.1) refl

array_codes : (b : Basic) → codes (Array (Plain b)) ≡ 97 ∷ code b ∷ []
array_codes b = codes_array (Plain b) ∙ ap (λ (t : List ℕ). 97 ∷ t) (codes_plain b)

typed_by : (b : Basic) (items : List Value) → type_codes (array_by (Plain b) (packing b) items) ≡ 97 ∷ code b ∷ []
typed_by basic.Byte items = typed_packed _
typed_by basic.Bool items = typed_packed _
typed_by basic.I16 items = typed_packed _
typed_by basic.U16 items = typed_packed _
typed_by basic.I32 items = typed_packed _
typed_by basic.U32 items = typed_packed _
typed_by basic.I64 items = typed_packed _
typed_by basic.U64 items = typed_packed _
typed_by basic.Double items = typed_packed _
typed_by basic.Fd items = typed_packed _
typed_by basic.Str items = typed_array (codes (Array (Plain basic.Str))) items ∙ array_codes basic.Str
typed_by basic.Path items = typed_array (codes (Array (Plain basic.Path))) items ∙ array_codes basic.Path
typed_by basic.Sig items = typed_array (codes (Array (Plain basic.Sig))) items ∙ array_codes basic.Sig

typed_elements : (el : Kind) (items : List Value) → type_codes (array_of el items) ≡ codes (Array el)
unfolding array_of
typed_elements el items = by_kind (λ el. type_codes (array_of el items) ≡ codes (Array el))
    (λ b. rw (out_plain b) (typed_by b items ∙ sym (array_codes b)))
    (rw out_variant (typed_array (codes (Array Variant)) items))
    (λ inner. rw (out_array inner) (typed_array (codes (Array (Array inner))) items))
    (λ b inner. rw (out_dict b inner) (typed_array (codes (Array (Dict b inner))) items))
    (λ ks. rw (out_struct ks) (typed_array (codes (Array (Struct ks))) items)) el

abbrev OpenTyped : Endian → (Kind → Said) → (Basic → Kind → Said) → Kind → Kind-F Kind → Type 0
OpenTyped e said entry kind layer = (at : ℕ) (v : Value) → IsOpen e said entry kind layer at v → type_codes v ≡ codes kind

opens_typed : (e : Endian) (said : Kind → Said) (entry : Basic → Kind → Said) → Typed said → (kind : Kind) → OpenTyped e said entry kind (out-Kind kind)
opens_typed e said entry typed = by_kind (λ kind. OpenTyped e said entry kind (out-Kind kind))
    (λ b. rw (out_plain b) (λ at v is. basic_typed b v is ∙ sym (codes_plain b)))
    (rw out_variant (λ at v is. rw is.3 (typed_variant is.0 is.2 ∙ sym codes_variant)))
    (λ el. rw (out_array el) (λ at v is. rw is.1 (typed_elements el is.0)))
    (λ b el. rw (out_dict b el) (λ at v is. rw is.1 (typed_array (codes (Dict b el)) is.0)))
    (λ ks. rw (out_struct ks) (λ at v is. rw is.1 (typed_struct is.0 ∙ ap (λ (t : List ℕ). 40 ∷ t ++ 41 ∷ []) (members_typed e said typed ks is.0 _ is.3) ∙ sym (codes_struct ks))))

closed_typed : (kind : Kind) (v : Value) → IsClosed (out-Kind kind) v → type_codes v ≡ codes kind
closed_typed = by_kind (λ kind. (v : Value) → IsClosed (out-Kind kind) v → type_codes v ≡ codes kind)
    (λ b. rw (out_plain b) (λ v is. basic_typed b v is ∙ sym (codes_plain b)))
    (rw out_variant (λ v is. absurd is))
    (λ el. rw (out_array el) (λ v is. absurd is))
    (λ b el. rw (out_dict b el) (λ v is. absurd is))
    (λ ks. rw (out_struct ks) (λ v is. absurd is))

pub fits_typed : (e : Endian) (room : ℕ) (k : Kind) (at : ℕ) (v : Value) → Fits e room k at v → type_codes v ≡ codes k
unfolding Fits
fits_typed e zero k at v fits = closed_typed k v fits
fits_typed e (suc room) k at v fits = opens_typed e (Fits e room) (FitsEntry e room) (λ j. fits_typed e room j) k at v fits

pub row_typed : (e : Endian) (room : ℕ) (ks : List Kind) (vs : List Value) (at : ℕ) → Members e (Fits e room) ks vs at → types_codes vs ≡ all_codes ks
row_typed e room ks vs at fit = members_typed e (Fits e room) (λ k. fits_typed e room k) ks vs at fit
